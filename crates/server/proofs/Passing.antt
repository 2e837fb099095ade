-- One row as the clock comes to the next instant.
use Rattle.std.proofs.Common.{◌≡◌, ℕ, suc, ◌+◌, ◌-◌, ◌*◌, ◌/◌, ◌<◌, ◌≤◌, min, eqb, leb, refl, ap, le_trans, le_refl, add-zero, mul-le-mul_right, mul_comm, zero-mul, div-mul-le_self, arith}
use native.Mathlib.Nat.{min-le_left, min-le_right}
use Rattle.plan.specs.declared.terms.Kind.TheVariants.{Isolated}
use Rattle.std.proofs.lemmas.Bool.{cond_both, leb-false, eqb-true, eqb-false}
use Rattle.server.specs.declared.row.Phase.{Phase}
use Rattle.server.specs.declared.row.Phase.TheVariants.{Resting, AtWork, Supplying}
use Rattle.server.specs.declared.row.Row.{Row}
use Rattle.server.specs.Row.{with_phase, with_capacities, renewed, cut_at}
use Rattle.server.specs.Tick.{passed}
use Rattle.server.specs.Demand.{demand, Fit, Kept}
use Rattle.server.proofs.Asks.{asks_share, asks_less, asks_recharged, asks_passed}

-- a row that has nothing left to be charged under a deadline up to the horizon, or that rests
abbrev pub QuietIn : Phase → ℕ → Row → Type 0
QuietIn Resting X row = Unit {0}
QuietIn AtWork X row = row.account.deadline ≤ X → row.account.capacity + row.account.residual ≡ 0
QuietIn Supplying X row = row.account.deadline ≤ X → row.account.capacity + row.account.residual ≡ 0

abbrev pub Quiet : ℕ → Row → Type 0
Quiet X row = QuietIn row.phase X row

-- what is said of a row in each phase is said of every row
pub by_phase : (P : Row → Type 0) → ((row : Row) → P (with_phase Resting row)) → ((row : Row) → P (with_phase AtWork row)) → ((row : Row) → P (with_phase Supplying row)) → (row : Row) → P row
by_phase P rests works supplies row = in_phase row.phase
  where
    in_phase : (phase : Phase) → P (with_phase phase row)
    in_phase Resting = rests row
    in_phase AtWork = works row
    in_phase Supplying = supplies row

-- what the clock leaves of a row as it comes to instant suc t
pub record Passed (t : ℕ) (row after : Row) : Type 0 where
  pub number : after.number ≡ row.number
  pub terms : after.terms ≡ row.terms
  pub kept : Kept (suc t) after
  pub less : (X : ℕ) → suc t ≤ X → demand (suc t) X after ≤ demand (suc t) X row
  pub share : (X : ℕ) → suc t ≤ X → Quiet X row → row.terms.period * demand (suc t) X after ≤ row.terms.budget * (X - suc t)

-- a row that is recharged for the jobs that wait
renews : (t : ℕ) (row : Row) → Fit row.terms → 1 ≤ row.account.jobs → row.account.deadline ≤ suc t → Passed t row (renewed (suc t) row)
renews t row fit busy past =
    let q = row.terms.budget in
    let p = row.terms.period in
    let pos : 0 < p = omega arith in
    let whole : q + 0 ≡ q = omega arith in
    let gap : suc t + p - suc t ≡ p = omega arith in
    record {
      number = refl;
      terms = refl;
      kept = record { fit = fit; within = omega arith; near = omega arith; phase = (busy, refl, omega arith) };
      less = λ X h. le_trans (asks_less q p (q + 0) q (suc t + p) (suc t) X (omega arith)) (le_trans (asks_recharged q p (suc t) X pos h) (asks_passed q p (row.account.capacity + row.account.residual) row.account.deadline (suc t) X past h));
      share = λ X h _. asks_share q p (q + 0) (suc t + p) (suc t) X h (λ _ _. omega (arith, ap (λ (n : ℕ). n * p) whole, ap (λ (n : ℕ). n * q) gap, mul_comm p q));
    }

-- a live row whose deadline is still to come stays as it is
stays : (t : ℕ) (row : Row) → Kept (suc t) row → ((X : ℕ) → Quiet X row → row.account.deadline ≤ X → row.account.capacity + row.account.residual ≡ 0) → Passed t row row
stays t row kept quiet =
    let q = row.terms.budget in
    let p = row.terms.period in
    let x = row.account.capacity + row.account.residual in
    record {
      number = refl;
      terms = refl;
      kept = kept;
      less = λ X h. le_refl _;
      share = λ X h is. asks_share q p x row.account.deadline (suc t) X h (λ _ b. omega (arith, ap (λ (n : ℕ). n * p) (quiet X is b), zero-mul p));
    }

passes_work : (t : ℕ) (row : Row) → Kept t (with_phase AtWork row) → Passed t (with_phase AtWork row) (passed (suc t) (with_phase AtWork row))
passes_work t row kept =
    cond_both (eqb row.account.deadline (suc t)) _ _ (λ after. Passed t (with_phase AtWork row) (cut_at (suc t) after))
    (λ e. renews t (with_phase AtWork row) kept.fit kept.phase.0 (omega (arith, eqb-true row.account.deadline (suc t) e)))
    (λ e. stays t (with_phase AtWork row) (later (eqb-false row.account.deadline (suc t) e)) (λ X h. h))
  where
    later : (row.account.deadline ≡ suc t → ⊥) → Kept (suc t) (with_phase AtWork row)
    later ne = record { fit = kept.fit; within = kept.within; near = omega arith; phase = (kept.phase.0, kept.phase.1, grind arith) }

-- a row that comes to rest, or rests, is cut
module _ (t : ℕ) (before : Row) (c r : ℕ) where
  rested : Row
  rested = with_phase Resting (with_capacities c r before)

  cuts :
      Fit before.terms
      → c ≤ before.terms.budget
      → before.account.deadline ≤ suc t + before.terms.period
      → before.account.jobs ≡ 0
      → r ≡ 0
      → (before.terms.kind ≡ Isolated → c ≡ 0)
      → c + r ≤ before.account.capacity + before.account.residual
      → Passed t before (cut_at (suc t) rested)
  unfolding rested
  cuts fit within near idle nothing isolated fewer =
      let q = before.terms.budget in
      let p = before.terms.period in
      let d = before.account.deadline in
      let x = before.account.capacity + before.account.residual in
      let s = (d - suc t) * q / p in
      let low : min c s ≤ c = min-le_left c s in
      let held : min c s * p ≤ (d - suc t) * q = omega (arith, mul-le-mul_right p (min-le_right c s), div-mul-le_self ((d - suc t) * q) p) in
      cond_both (leb (suc t) d) _ _ (λ after. Passed t before after)
      (λ e. record {
        number = refl;
        terms = refl;
        kept = record { fit = fit; within = omega (arith, low); near = near; phase = (idle, nothing, (λ is. omega (arith, low, isolated is)), (λ _. held)) };
        less = λ X h. asks_less q p (min c s + r) x d (suc t) X (omega (arith, low));
        share = λ X h _. asks_share q p (min c s + r) d (suc t) X h (λ _ _. omega (arith, held, ap (λ (n : ℕ). (min c s + n) * p) nothing, ap (λ (n : ℕ). n * p) (add-zero (min c s))));
      })
      (λ e. let past : d ≤ t = omega (arith, leb-false (suc t) d e) in record {
        number = refl;
        terms = refl;
        kept = record { fit = fit; within = omega arith; near = near; phase = (idle, nothing, isolated, (λ h. absurd (omega arith))) };
        less = λ X h. asks_less q p (c + r) x d (suc t) X fewer;
        share = λ X h _. asks_share q p (c + r) d (suc t) X h (λ h _. absurd (omega arith));
      })

passes_rest : (t : ℕ) (row : Row) → Kept t (with_phase Resting row) → Passed t (with_phase Resting row) (passed (suc t) (with_phase Resting row))
unfolding rested
passes_rest t row kept =
    let cut = cuts t (with_phase Resting row) row.account.capacity row.account.residual kept.fit (omega arith) (omega arith) kept.phase.0 kept.phase.1 kept.phase.2 (le_refl _) in
    cond_both (eqb row.account.deadline (suc t)) _ _ (λ after. Passed t (with_phase Resting row) (cut_at (suc t) after)) (λ _. cut) (λ _. cut)

passes_supply : (t : ℕ) (row : Row) → Kept t (with_phase Supplying row) → Passed t (with_phase Supplying row) (passed (suc t) (with_phase Supplying row))
unfolding rested
passes_supply t row kept =
    let w = with_phase Supplying row in
    cond_both (eqb row.account.deadline (suc t)) _ _ (λ after. Passed t w (cut_at (suc t) after))
    (λ e. cond_both (eqb row.account.jobs 0) _ _ (λ after. Passed t w (cut_at (suc t) after))
    (λ f. cuts t w 0 0 kept.fit (omega arith) (omega arith) (eqb-true row.account.jobs 0 f) refl (λ _. refl) (omega arith))
    (λ f. renews t w kept.fit (busy (eqb-false row.account.jobs 0 f)) (omega (arith, eqb-true row.account.deadline (suc t) e))))
    (λ e. stays t w (later (eqb-false row.account.deadline (suc t) e)) (λ X h. h))
  where
    busy : (row.account.jobs ≡ 0 → ⊥) → 1 ≤ row.account.jobs
    busy ne = grind arith

    later : (row.account.deadline ≡ suc t → ⊥) → Kept (suc t) (with_phase Supplying row)
    later ne = record { fit = kept.fit; within = kept.within; near = omega arith; phase = (kept.phase.0, grind arith) }

-- what the clock leaves of any row
pub passes : (t : ℕ) (row : Row) → Kept t row → Passed t row (passed (suc t) row)
passes t = by_phase (λ row. Kept t row → Passed t row (passed (suc t) row)) (passes_rest t) (passes_work t) (passes_supply t)
