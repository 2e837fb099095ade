-- The digits of a number that is held at the largest value.
use Rattle.std.proofs.Common.{◌≡◌, ℕ, ◌+◌, ◌-◌, ◌*◌, ◌&&◌, List, [], ◌∷◌, refl, ap, ◌∙◌, arith, fold}
use Rattle.std.specs.Char.{is_ascii_digit}
use Rattle.std.specs.List.{list_all}
use Rattle.std.specs.Str.{all_ascii_digits}
use Rattle.plan_text.specs.Numbers.{held, value_after}

pub all_digits : (ds : List ℕ) → list_all is_ascii_digit ds ≡ all_ascii_digits ds
all_digits [] = refl
all_digits (d ∷ ds) = ap (λ rest. is_ascii_digit d && rest) (all_digits ds)

-- one more digit, held at each step
abbrev pub held_step : ℕ → ℕ → ℕ
held_step n d = held (held (n * 10) + (d - 48))

-- holding each value on the way does not change what is held in the end
pub fold_held : (n : ℕ) (ds : List ℕ) → fold held_step (held n) ds ≡ held (value_after n ds)
fold_held n [] = refl
fold_held n (d ∷ ds) =
    let same : held_step (held n) d ≡ held (n * 10 + (d - 48)) = omega arith in
    ap (λ m. fold held_step m ds) same ∙ fold_held (n * 10 + (d - 48)) ds
