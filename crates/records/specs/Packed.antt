-- The packed form of a plan: fields bit by bit, most significant first.
use Rattle.std.specs.Prelude.{ℕ, zero, suc, ◌+◌, ◌*◌, ◌/◌, ◌%◌, ◌^◌, List, [], ◌∷◌, ◌++◌, length}
use Rattle.std.specs.List.{flat_map}
use Rattle.plan.specs.declared.terms.Kind.{Kind}
use Rattle.plan.specs.declared.terms.Kind.TheVariants.{NonIsolated, Isolated}
use Rattle.plan.specs.declared.terms.Terms.{Terms}

-- the bit that tells a kind
abbrev pub kind_bit : Kind → ℕ
kind_bit NonIsolated = 0
kind_bit Isolated = 1

-- the kind that a bit tells
abbrev pub kind_of : ℕ → Kind
kind_of zero = NonIsolated
kind_of (suc n) = Isolated

-- a row's 32 bits as one number: 1 bit kind, 3 zero bits, 14 bits budget, 14 bits period
abbrev pub row_word : Terms → ℕ
row_word t = ((kind_bit t.kind * 2 ^ 3 + 0) * 2 ^ 14 + t.budget) * 2 ^ 14 + t.period

-- a number as n bytes, the most significant first
abbrev pub bytes_of : ℕ → ℕ → List ℕ
bytes_of zero w = []
bytes_of (suc n) w = bytes_of n (w / 256) ++ (w % 256 ∷ [])

-- the packed form of a row, and of a plan: one byte for the number of rows, then the rows
abbrev pub packed_row : Terms → List ℕ
packed_row t = bytes_of 4 (row_word t)

abbrev pub packed_plan : List Terms → List ℕ
packed_plan rows = length rows ∷ flat_map packed_row rows

-- how many bytes the packed form of so many rows has
abbrev pub packed_length : ℕ → ℕ
packed_length rows = 1 + 4 * rows
