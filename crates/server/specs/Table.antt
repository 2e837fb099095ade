-- The rows of a table, in the order of their numbers.
use Rattle.std.specs.Prelude.{ℕ, cond, List, length, take, Some, None, Option, nat_lt, slice_index_or}
use Rattle.server.specs.declared.row.Row.{Row}
use Rattle.server.specs.declared.table.Table.{Table}
use Rattle.server.specs.Turn.{blank_row}

abbrev pub table_rows : Table → List Row
table_rows table = take table.count table.rows

-- the row with this number, if there is one
abbrev pub row_in : List Row → ℕ → Option Row
row_in rows n = cond (nat_lt n (length rows)) (Some (slice_index_or rows n blank_row)) None
