-- The numbers of a written plan: decimal digits, of any length.
use Rattle.std.specs.Prelude.{ℕ, ◌+◌, ◌-◌, ◌*◌, min, cond, List, [], ◌∷◌, length, Some, None, Option, ◌==◌}
use Rattle.std.specs.Str.{all_ascii_digits}

-- a value that is too large for 16 bits is held at the largest: no plan accepts that one either
abbrev pub held : ℕ → ℕ
held n = min n 65535

-- the value of the digits ds after the number n
abbrev pub value_after : ℕ → List ℕ → ℕ
value_after n [] = n
value_after n (d ∷ ds) = value_after (n * 10 + (d - 48)) ds

-- the same, where they are all digits
abbrev pub number_after : ℕ → List ℕ → Option ℕ
number_after n ds = cond (all_ascii_digits ds) (Some (held (value_after n ds))) None

-- the number that a word stands for, if it is one
abbrev pub number_of : List ℕ → Option ℕ
number_of word = cond (length word == 0) None (number_after 0 word)
