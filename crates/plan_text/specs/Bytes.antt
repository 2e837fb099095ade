-- The bytes of a written plan: which of them end a line, start a comment or separate words.
use Rattle.std.specs.Prelude.{ℕ, Bool, not, ◌||◌, List, take, drop, ◌==◌}
use Rattle.std.specs.List.{prefix_len}

-- the byte that ends a line
abbrev pub newline : ℕ → Bool
newline b = b == 10

-- the byte that starts a comment
abbrev pub hash : ℕ → Bool
hash b = b == 35

-- the bytes that separate words: space, tab and carriage return
abbrev pub blank : ℕ → Bool
blank b = b == 32 || (b == 9 || b == 13)

-- the bytes of the part of a line before a comment, and of a word
abbrev pub in_code : ℕ → Bool
in_code b = not (hash b)

abbrev pub in_word : ℕ → Bool
in_word b = not (blank b)

-- the bytes at the front of bs that pass, up to the first that does not, and the others
abbrev pub front : (ℕ → Bool) → List ℕ → List ℕ
front pass bs = take (prefix_len pass bs) bs

abbrev pub back : (ℕ → Bool) → List ℕ → List ℕ
back pass bs = drop (prefix_len pass bs) bs
