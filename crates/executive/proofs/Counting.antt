-- A run is counted call by call.
use Rattle.std.proofs.Common.{◌≡◌, ℕ, zero, suc, ◌+◌, ◌<◌, ◌≤◌, Bool, true, false, cond, ◌&&◌, ltb, leb, ◌⊎◌, List, [], ◌∷◌, refl, inl, inr, arith}
use Rattle.std.specs.List.{ContainsAt as Has}
use Rattle.std.proofs.lemmas.List.Sums.{sum_by-cons}
use Rattle.std.proofs.lemmas.Bool.{cond_both, le-leb, lt-ltb}
use Rattle.std.proofs.lemmas.Bool.Decides.{nat_tests}
use Rattle.executive.specs.Run.{Entry, is_tick, is_tick_in, ticks_in}

-- nothing stands in no list; what stands in a list is its first element, or stands behind it
pub has_none : {X : Type 0} (y : X) → Has [] y → ⊥
has_none y (i, inside, _) = omega arith

module _ {X : Type 0} (x : X) (xs : List X) where
  pub has_first : Has (x ∷ xs) x
  has_first = (0, omega arith, λ d. refl)

  pub has_behind : (y : X) → Has xs y → Has (x ∷ xs) y
  has_behind y (i, inside, is) = (suc i, omega arith, is)

  pub has_cases : (y : X) → Has (x ∷ xs) y → (x ≡ y) ⊎ Has xs y
  has_cases y (zero, inside, is) = inl (is y)
  has_cases y (suc i, inside, is) = inr (i, omega arith, is)

module _ {R : Type 0} (s u : ℕ) (kind : Entry R → Bool) where
  -- what a call adds to the count
  abbrev pub counted : Entry R → ℕ
  counted e = cond (is_tick_in s u e && kind e) 1 0

  pub count_first : (e : Entry R) (run : List (Entry R)) → ticks_in s u kind (e ∷ run) ≡ counted e + ticks_in s u kind run
  count_first e run = sum_by-cons (λ (f : Entry R). cond (is_tick_in s u f && kind f) 1 0) e run

  pub counted_le : (e : Entry R) → counted e ≤ cond (kind e) 1 0
  counted_le e = by (is_tick_in s u e) (kind e)
    where
      by : (x y : Bool) → cond (x && y) 1 0 ≤ cond y 1 0
      by true y = omega arith
      by false y = omega arith

  pub counted_one : (e : Entry R) → counted e ≤ 1
  counted_one e = cond_both (is_tick_in s u e && kind e) 1 0 (λ (n : ℕ). n ≤ 1) (λ _. omega arith) (λ _. omega arith)

  -- a tick before the window or behind it adds nothing
  pub counted_outside : (e : Entry R) → (is_tick e ≡ true → (e.before.instant < s) ⊎ (u ≤ e.before.instant)) → counted e ≤ 0
  counted_outside e = by (is_tick e) (kind e) e.before.instant
    where
      by : (x y : Bool) (t : ℕ) → (x ≡ true → (t < s) ⊎ (u ≤ t)) → cond ((x && (leb s t && ltb t u)) && y) 1 0 ≤ 0
      by false y t out = omega arith
      by true y t out = grind (arith, nat_tests, out refl)

  -- a tick in it is counted if it is of the kind
  pub counted_inside : (e : Entry R) → is_tick e ≡ true → s ≤ e.before.instant → e.before.instant < u → counted e ≡ cond (kind e) 1 0
  counted_inside e is low high = rw (is, le-leb s e.before.instant low, lt-ltb e.before.instant u high) refl
