-- Text that grows at its end, as much of it as a page has room for.
use Rattle.std.proofs.Common.{◌≡◌, ℕ, zero, suc, ◌<◌, ◌≤◌, ◌^◌, List, [], ◌∷◌, ◌++◌, length, take, decimal, refl, ap, ◌∙◌, append_assoc, arith}
use Rattle.std.proofs.lemmas.Fmt.{length-decimal-le}
use Rattle.flight.specs.Sizes.{page_bytes}
use Rattle.flight.specs.Page.{fitting}

take-take-append : (n : ℕ) (xs ys : List ℕ) → take n (take n xs ++ ys) ≡ take n (xs ++ ys)
take-take-append zero xs ys = refl
take-take-append (suc n) [] ys = refl
take-take-append (suc n) (x ∷ xs) ys = ap (λ (rest : List ℕ). x ∷ rest) (take-take-append n xs ys)

-- more, and then still more
pub grown : (before middle after more last : List ℕ) → middle ≡ fitting (before ++ more) → after ≡ fitting (middle ++ last) → after ≡ fitting (before ++ (more ++ last))
grown before middle after more last one two =
    two
    ∙ ap (λ (text : List ℕ). fitting (text ++ last)) one
    ∙ take-take-append page_bytes (before ++ more) last
    ∙ ap fitting (append_assoc before more last)

-- how long a number of 32 bits can be
pub length-decimal-le10 : (n : ℕ) → n < 2 ^ 32 → length (decimal n) ≤ 10
length-decimal-le10 n small = length-decimal-le 10 n (omega arith) (omega arith) (omega arith)
