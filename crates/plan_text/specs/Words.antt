-- How a text is cut into lines, and a line into words.
use Rattle.std.specs.Prelude.{ℕ, Bool, List, [], ◌∷◌, Option, Some, None}
use Rattle.std.specs.List.{slice_split}
use Rattle.plan_text.specs.Bytes.{newline, blank, in_code, front}

-- the pieces between the bytes at which bs is cut: one more than there are such bytes
abbrev pub split : (ℕ → Bool) → List ℕ → List (List ℕ)
split cut bs = slice_split cut bs

-- the pieces that are not empty
abbrev pub non_empty : List (List ℕ) → List (List ℕ)
non_empty [] = []
non_empty ([] ∷ ps) = non_empty ps
non_empty ((b ∷ p) ∷ ps) = (b ∷ p) ∷ non_empty ps

abbrev pub lines_of : List ℕ → List (List ℕ)
lines_of text = split newline text

-- a line without its comment
abbrev pub code_of : List ℕ → List ℕ
code_of line = front in_code line

abbrev pub words_of : List ℕ → List (List ℕ)
words_of line = non_empty (split blank (code_of line))

-- the words of bytes that hold no comment
abbrev pub words_in : List ℕ → List (List ℕ)
words_in bs = non_empty (split blank bs)

-- the words before one was taken, where ws are those after it: there were none where none was taken
abbrev pub with_taken : Option (List ℕ) → List (List ℕ) → List (List ℕ)
with_taken None ws = []
with_taken (Some w) ws = w ∷ ws
