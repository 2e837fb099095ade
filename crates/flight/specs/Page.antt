-- What stands on a page.
use Rattle.std.specs.Prelude.{ℕ, List, take}
use Rattle.flight.specs.declared.page.Page.TheInside.{Inside}
use Rattle.flight.specs.Sizes.{page_bytes}

abbrev pub page_text : Inside → List ℕ
page_text page = page.bytes.items

-- what a page holds of a text: its first bytes, as many as there is room for
abbrev pub fitting : List ℕ → List ℕ
fitting text = take page_bytes text
