-- What a row asks for up to a horizon, on the numbers alone.
use Rattle.std.proofs.Common.{◌≡◌, ℕ, suc, ◌+◌, ◌-◌, ◌*◌, ◌/◌, ◌<◌, ◌≤◌, cond, leb, ap, ◌∙◌, mul_comm, mul-le-mul_left, mul-zero, le-div_iff_mul-le, mul-one, mul-add, div-mul-le_self, mul_left_comm, arith}
use native.Mathlib.Nat.{mul-div-le, div-eq-sub-div}
use Rattle.std.proofs.lemmas.Bool.Decides.{nat_tests}
use Rattle.std.proofs.lemmas.Bool.{cond_both, leb-true, leb-false}

-- a row with the budget q and the period p that holds x under the deadline d asks for this up to X
abbrev pub asks : ℕ → ℕ → ℕ → ℕ → ℕ → ℕ → ℕ
asks q p x d t X = cond (leb t d) (cond (leb d X) (x + q * ((X - d) / p)) 0) (q * ((X - t) / p))

-- a quotient times its divisor, times the budget
rounds : (q p n : ℕ) → p * (q * (n / p)) ≤ q * n
rounds q p n = omega (arith, mul_left_comm p q (n / p), mul-le-mul_left q (mul-div-le n p))

-- a row that holds no more than its share asks for no more than its share
pub asks_share : (q p x d t X : ℕ) → t ≤ X → (t ≤ d → d ≤ X → x * p ≤ (d - t) * q) → p * asks q p x d t X ≤ q * (X - t)
asks_share q p x d t X h share =
    cond_both (leb t d) _ _ (λ n. p * n ≤ q * (X - t))
    (λ e. cond_both (leb d X) _ _ (λ n. p * n ≤ q * (X - t))
    (λ f. let a : t ≤ d = leb-true t d e in let b : d ≤ X = leb-true d X f in
    let split : X - t ≡ (d - t) + (X - d) = omega arith in
    let whole = ap (λ (n : ℕ). q * n) split in
    omega (arith, share a b, rounds q p (X - d), mul-add p x (q * ((X - d) / p)), mul_comm p x, whole, mul-add q (d - t) (X - d), mul_comm q (d - t)))
    (λ f. omega (arith, mul-zero p)))
    (λ e. rounds q p (X - t))

-- no more is asked for where less is held
pub asks_less : (q p x y d t X : ℕ) → x ≤ y → asks q p x d t X ≤ asks q p y d t X
asks_less q p x y d t X h = grind (arith, nat_tests)

-- one less is asked for where one less is held
pub asks_one_less : (q p x y d t X : ℕ) → t ≤ d → d ≤ X → x + 1 ≤ y → asks q p x d t X + 1 ≤ asks q p y d t X
asks_one_less q p x y d t X a b h = grind (arith, nat_tests)

-- a recharge at t is asked for already
pub asks_recharged : (q p t X : ℕ) → 0 < p → t ≤ X → asks q p q (t + p) t X ≤ q * ((X - t) / p)
asks_recharged q p t X pos h =
    cond_both (leb t (t + p)) _ _ (λ n. n ≤ q * ((X - t) / p))
    (λ e. cond_both (leb (t + p) X) _ _ (λ n. n ≤ q * ((X - t) / p))
    (λ f. let b : t + p ≤ X = leb-true (t + p) X f in
    let less : X - t - p ≡ X - (t + p) = omega arith in
    let one : (X - t) / p ≡ (X - (t + p)) / p + 1 = div-eq-sub-div pos (omega arith) ∙ ap (λ (n : ℕ). n / p + 1) less in
    omega (arith, ap (λ (n : ℕ). q * n) one, mul-add q ((X - (t + p)) / p) 1, mul-one q))
    (λ f. omega arith))
    (λ e. omega (arith, leb-false t (t + p) e))

pub asks_passed : (q p x d t X : ℕ) → d ≤ t → t ≤ X → q * ((X - t) / p) ≤ asks q p x d t X
asks_passed q p x d t X a h =
    cond_both (leb t d) _ _ (λ n. q * ((X - t) / p) ≤ n)
    (λ e. let same : t ≡ d = omega (arith, leb-true t d e) in
    cond_both (leb d X) _ _ (λ n. q * ((X - t) / p) ≤ n)
    (λ f. omega (arith, ap (λ (n : ℕ). q * ((X - n) / p)) same))
    (λ f. omega (arith, leb-false d X f)))
    (λ e. omega arith)

-- a quotient rises with what is divided
quotient_le : (p m n : ℕ) → 0 < p → m ≤ n → m / p ≤ n / p
quotient_le p m n pos h = (le-div_iff_mul-le {x = m / p} {y = n} pos).1 (omega (arith, div-mul-le_self m p))

-- as the clock goes on, no more is asked for
pub asks_later : (q p x d t X : ℕ) → 0 < p → suc t ≤ X → asks q p x d (suc t) X ≤ asks q p x d t X
asks_later q p x d t X pos h =
    let fewer : q * ((X - suc t) / p) ≤ q * ((X - t) / p) = mul-le-mul_left q (quotient_le p (X - suc t) (X - t) pos (omega arith)) in
    cond_both (leb (suc t) d) _ _ (λ n. n ≤ asks q p x d t X)
    (λ e. cond_both (leb t d) _ _ (λ n. cond (leb d X) (x + q * ((X - d) / p)) 0 ≤ n) (λ f. omega arith) (λ f. omega (arith, leb-true (suc t) d e, leb-false t d f)))
    (λ e. let past : d ≤ t = omega (arith, leb-false (suc t) d e) in omega (arith, fewer, asks_passed q p x d t X past (omega arith)))
