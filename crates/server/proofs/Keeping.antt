-- What every row keeps is kept where one row is changed, and where the clock goes on.
use Rattle.std.proofs.Common.{◌≡◌, ℕ, suc, ◌+◌, ◌-◌, ◌*◌, ◌<◌, ◌≤◌, eqb, leb, List, map, length, get_or, sym, refl, ap, ◌∙◌, subst, ⊎_elim, mul-le-mul_right, mul_comm, zero-mul, arith}
use Rattle.std.specs.List.{AllByRecursion}
use Rattle.std.proofs.ByRecursion.{All-get_or, All-set, All-map, All-weaker}
use Rattle.std.proofs.lemmas.List.{set_past}
use Rattle.std.proofs.lemmas.Bool.{cases_lt, cond_both, leb-true, eqb-true, eqb-false}
use Rattle.plan.specs.declared.terms.Kind.{Kind}
use Rattle.plan.specs.declared.terms.Kind.TheVariants.{NonIsolated, Isolated}
use Rattle.server.specs.declared.row.Event.{Event}
use Rattle.server.specs.declared.row.Event.TheVariants.{Arrival, Finish, Deadline}
use Rattle.server.specs.declared.row.Phase.TheVariants.{AtWork, Supplying}
use Rattle.server.specs.declared.row.Row.{Row}
use Rattle.server.specs.declared.turn.Source.{Source}
use Rattle.server.specs.declared.turn.Source.TheVariants.{Own, Residual, Stolen, Idle, Empty}
use Rattle.server.specs.Row.{with_phase, renewed, happens, charged_own, charged_residual}
use Rattle.server.specs.Turn.{blank_row}
use Rattle.server.specs.Tick.{changed, ready_to_pay, charged_for, passed}
use Rattle.server.specs.Demand.{Fit, Kept, Sound}
use Rattle.server.proofs.Passing.{by_phase, passes}
use Rattle.server.proofs.Steps.{arrives, finishes}
use Rattle.server.proofs.Bound.{arrival_keeps}

-- one row changed, every other row as it was
changed_kept : (t k : ℕ) (f : Row → Row) (rows : List Row) → (k < length rows → Kept t (get_or rows k blank_row) → Kept t (f (get_or rows k blank_row))) → AllByRecursion (Kept t) rows → AllByRecursion (Kept t) (changed f k rows)
changed_kept t k f rows change kept =
    ⊎_elim
    (λ (inside : k < length rows). All-set (Kept t) rows k (f (get_or rows k blank_row)) (change inside (All-get_or (Kept t) rows k blank_row inside kept)) kept)
    (λ (past : length rows ≤ k). subst (AllByRecursion (Kept t)) (sym (set_past rows k (f (get_or rows k blank_row)) past)) kept)
    (cases_lt k (length rows))

-- an event
back_to_work : (t : ℕ) (row : Row) → Fit row.terms → 1 ≤ row.account.jobs → Kept t (renewed t row)
back_to_work t row fit some = record { fit = fit; within = omega arith; near = omega arith; phase = (some, refl, omega (arith, fit.0, fit.1)) }

deadline_kept : (t : ℕ) (row : Row) → Kept t row → Kept t (happens Deadline t row)
deadline_kept t =
    by_phase (λ row. Kept t row → Kept t (happens Deadline t row))
    (λ row kept. kept)
    (λ row kept. back_to_work t (with_phase AtWork row) kept.fit kept.phase.0)
    (λ row kept. cond_both (eqb row.account.jobs 0) _ _ (Kept t)
    (λ e. record { fit = kept.fit; within = omega arith; near = kept.near; phase = (eqb-true row.account.jobs 0 e, refl, λ _. refl, λ soon. omega (arith, zero-mul row.terms.period)) })
    (λ e. back_to_work t (with_phase Supplying row) kept.fit (positive row.account.jobs (eqb-false row.account.jobs 0 e))))
  where
    positive : (n : ℕ) → (n ≡ 0 → ⊥) → 1 ≤ n
    positive n ne = grind arith

event_kept : (event : Event) (t : ℕ) (row : Row) → Kept t row → Kept t (happens event t row)
event_kept Arrival t row kept = (arrives t row kept).kept
event_kept Finish t row kept = (finishes t row kept).0.kept
event_kept Deadline t row kept = deadline_kept t row kept

pub event_keeps : (event : Event) (t k : ℕ) (rows after : List Row) → after ≡ changed (happens event t) k rows → (AllByRecursion (Kept t) rows → AllByRecursion (Kept t) after) × (event ≡ Arrival → Sound t rows → Sound t after)
event_keeps event t k rows after is = (
  λ kept. subst (AllByRecursion (Kept t)) (sym is) (changed_kept t k (happens event t) rows (λ _. event_kept event t (get_or rows k blank_row)) kept),
  λ arrival sound. subst (Sound t) (sym (is ∙ ap (λ (e : Event). changed (happens e t) k rows) arrival)) (arrival_keeps t k rows sound),
)

-- a charge
less_share : (c p s : ℕ) → c * p ≤ s → (c - 1) * p ≤ s
less_share c p s h = omega (arith, h, mul-le-mul_right {m = c - 1} {n = c} p (omega arith))

own_kept : (t : ℕ) (row : Row) → Kept t row → Kept t (charged_own row)
own_kept t =
    by_phase (λ row. Kept t row → Kept t (charged_own row))
    (λ row kept. record {
      fit = kept.fit;
      within = omega (arith, kept.within);
      near = kept.near;
      phase = (kept.phase.0, kept.phase.1, λ is. omega (arith, kept.phase.2 is), λ soon. less_share row.account.capacity row.terms.period _ (kept.phase.3 soon));
    })
    (λ row kept. record { fit = kept.fit; within = omega (arith, kept.within); near = kept.near; phase = kept.phase })
    (λ row kept. record { fit = kept.fit; within = omega (arith, kept.within); near = kept.near; phase = (omega (arith, kept.phase.0), kept.phase.1) })

residual_kept : (t : ℕ) (row : Row) → Kept t row → Kept t (charged_residual row)
residual_kept t =
    by_phase (λ row. Kept t row → Kept t (charged_residual row))
    (λ row kept. record { fit = kept.fit; within = omega (arith, kept.within); near = kept.near; phase = (kept.phase.0, omega (arith, kept.phase.1), kept.phase.2, kept.phase.3) })
    (λ row kept. record { fit = kept.fit; within = omega (arith, kept.within); near = kept.near; phase = (kept.phase.0, omega (arith, kept.phase.1), kept.phase.2) })
    (λ row kept. record { fit = kept.fit; within = omega (arith, kept.within); near = kept.near; phase = kept.phase })

abbrev Free : Kind → Type 0
Free NonIsolated = Unit {0}
Free Isolated = ⊥

not_both : (kind : Kind) → kind ≡ NonIsolated → kind ≡ Isolated → ⊥
not_both kind is other = subst Free (sym is ∙ other) tt

whole_share : (q p t : ℕ) → q * p ≤ (t + p - t) * q
whole_share q p t = let back : t + p - t ≡ p = omega arith in omega (arith, mul_comm q p, ap (λ (n : ℕ). n * q) back)

ready_kept : (t : ℕ) (row : Row) → row.terms.kind ≡ NonIsolated → Kept t row → Kept t (ready_to_pay t row)
ready_kept t =
    by_phase (λ row. row.terms.kind ≡ NonIsolated → Kept t row → Kept t (ready_to_pay t row))
    (λ row free kept. cond_both (leb row.account.deadline t) _ _ (Kept t)
    (λ e. record {
      fit = kept.fit;
      within = omega arith;
      near = omega arith;
      phase = (kept.phase.0, refl, λ is. absurd (not_both row.terms.kind free is), λ soon. whole_share row.terms.budget row.terms.period t);
    })
    (λ e. kept))
    (λ row free kept. cond_both (leb row.account.deadline t) _ _ (Kept t) (λ e. absurd (omega (arith, leb-true row.account.deadline t e, kept.phase.2))) (λ e. kept))
    (λ row free kept. cond_both (leb row.account.deadline t) _ _ (Kept t) (λ e. absurd (omega (arith, leb-true row.account.deadline t e, kept.phase.1))) (λ e. kept))

charge_kept : (source : Source) (t : ℕ) (row : Row) → (source ≡ Stolen → row.terms.kind ≡ NonIsolated) → Kept t row → Kept t (charged_for source t row)
charge_kept Own t row free kept = own_kept t row kept
charge_kept Residual t row free kept = residual_kept t row kept
charge_kept Stolen t row free kept = own_kept t (ready_to_pay t row) (ready_kept t row (free refl) kept)
charge_kept Idle t row free kept = residual_kept t row kept
charge_kept Empty t row free kept = kept

pub charge_keeps : (source : Source) (t k : ℕ) (rows after : List Row) → after ≡ changed (charged_for source t) k rows → (source ≡ Stolen → (get_or rows k blank_row).terms.kind ≡ NonIsolated) → AllByRecursion (Kept t) rows → AllByRecursion (Kept t) after
charge_keeps source t k rows after is free kept = subst (AllByRecursion (Kept t)) (sym is) (changed_kept t k (charged_for source t) rows (λ _. charge_kept source t (get_or rows k blank_row) free) kept)

-- the clock goes on
passed_kept : (t : ℕ) (rows : List Row) → AllByRecursion (Kept t) rows → AllByRecursion (Kept (suc t)) (map (passed (suc t)) rows)
passed_kept t rows kept = All-map (Kept (suc t)) (passed (suc t)) rows (All-weaker (Kept t) (λ row. Kept (suc t) (passed (suc t) row)) (λ row is. (passes t row is).kept) rows kept)

pub passed_keeps : (u : ℕ) (rows after : List Row) → after ≡ map (passed u) rows → (t : ℕ) → u ≡ suc t → AllByRecursion (Kept t) rows → AllByRecursion (Kept (suc t)) after
passed_keeps u rows after is t next kept = subst (AllByRecursion (Kept (suc t))) (sym (is ∙ ap (λ (n : ℕ). map (passed n) rows) next)) (passed_kept t rows kept)
