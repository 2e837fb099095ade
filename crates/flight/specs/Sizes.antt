-- How much text there can be.
use Rattle.std.specs.Prelude.{ℕ}

-- how many bytes a page can hold
abbrev pub page_bytes : ℕ
page_bytes = 4096

-- how many a column and a line can need, at most
abbrev pub column_bytes : ℕ
column_bytes = 11

abbrev pub line_bytes : ℕ
line_bytes = 64
