-- One row at an arrival, at a finish and where it pays.
use Rattle.std.proofs.Common.{◌≡◌, ℕ, ◌+◌, ◌-◌, ◌*◌, ◌<◌, ◌≤◌, min, Bool, true, false, cond, ◌&&◌, ltb, leb, ◌⊎◌, Some, None, refl, ap, subst, inl, inr, le_trans, le_refl, mul-le-mul_right, mul_comm, arith}
use Rattle.std.proofs.lemmas.Bool.{cond_both, leb-true, leb-false, ltb-true, and_parts, false≢true}
use Rattle.plan.specs.declared.terms.Kind.{Kind}
use Rattle.plan.specs.declared.terms.Kind.TheVariants.{NonIsolated, Isolated}
use Rattle.donor.specs.declared.offer.Offer.{Offer}
use Rattle.server.specs.declared.row.Event.TheVariants.{Arrival, Finish}
use Rattle.server.specs.declared.row.Phase.{Phase}
use Rattle.server.specs.declared.row.Phase.TheVariants.{Resting, AtWork, Supplying}
use Rattle.server.specs.declared.row.Row.{Row}
use Rattle.server.specs.declared.turn.Source.TheVariants.{Stolen}
use Rattle.server.specs.Row.{most_jobs, with_phase, with_capacities, recharged, one_more, happens, charged_own, charged_residual}
use Rattle.server.specs.Turn.{is_at_work, supplies, offer_of, offer_in}
use Rattle.server.specs.Tick.{charged_for}
use Rattle.server.specs.Demand.{demand, Kept}
use Rattle.server.proofs.Asks.{asks_less, asks_one_less, asks_recharged, asks_passed}
use Rattle.server.proofs.Passing.{Quiet, by_phase}

-- a row that asks for no more than before
pub record Eased (t : ℕ) (row after : Row) : Type 0 where
  pub number : after.number ≡ row.number
  pub terms : after.terms ≡ row.terms
  pub kept : Kept t after
  pub less : (X : ℕ) → t ≤ X → demand t X after ≤ demand t X row

-- a row recharged at its deadline or later
recharge_less : (t : ℕ) (row : Row) (X : ℕ) → 0 < row.terms.period → row.account.deadline ≤ t → t ≤ X → demand t X (recharged t row) ≤ demand t X row
recharge_less t row X pos past h =
    let q = row.terms.budget in
    let p = row.terms.period in
    le_trans (asks_less q p (q + 0) q (t + p) t X (omega arith)) (le_trans (asks_recharged q p t X pos h) (asks_passed q p (row.account.capacity + row.account.residual) row.account.deadline t X past h))

some_job : (j : ℕ) → 1 ≤ min most_jobs (j + 1)
some_job j = omega arith

-- an arrival
arrives_rest : (t : ℕ) (row : Row) → Kept t (with_phase Resting row) → Eased t (with_phase Resting row) (happens Arrival t (with_phase Resting row))
arrives_rest t row kept =
    let w = with_phase Resting row in
    cond_both (leb row.account.deadline t) _ _ (λ r. Eased t w (one_more (with_phase AtWork r)))
    (λ e. let past : row.account.deadline ≤ t = leb-true row.account.deadline t e in record {
      number = refl;
      terms = refl;
      kept = record { fit = kept.fit; within = omega arith; near = le_refl _; phase = (some_job row.account.jobs, refl, omega arith) };
      less = λ X h. recharge_less t w X (omega arith) past h;
    })
    (λ e. record {
      number = refl;
      terms = refl;
      kept = record { fit = kept.fit; within = kept.within; near = kept.near; phase = (some_job row.account.jobs, kept.phase.1, leb-false row.account.deadline t e) };
      less = λ X h. le_refl _;
    })

arrives_work : (t : ℕ) (row : Row) → Kept t (with_phase AtWork row) → Eased t (with_phase AtWork row) (happens Arrival t (with_phase AtWork row))
arrives_work t row kept =
    record {
      number = refl;
      terms = refl;
      kept = record { fit = kept.fit; within = kept.within; near = kept.near; phase = (some_job row.account.jobs, kept.phase.1, kept.phase.2) };
      less = λ X h. le_refl _;
    }

arrives_supply : (t : ℕ) (row : Row) → Kept t (with_phase Supplying row) → Eased t (with_phase Supplying row) (happens Arrival t (with_phase Supplying row))
arrives_supply t row kept =
    record {
      number = refl;
      terms = refl;
      kept = record { fit = kept.fit; within = kept.within; near = kept.near; phase = kept.phase };
      less = λ X h. le_refl _;
    }

pub arrives : (t : ℕ) (row : Row) → Kept t row → Eased t row (happens Arrival t row)
arrives t = by_phase (λ row. Kept t row → Eased t row (happens Arrival t row)) (arrives_rest t) (arrives_work t) (arrives_supply t)

-- a finish
abbrev Finishes : ℕ → Row → Row → Type 0
Finishes t row after = Eased t row after × ((X : ℕ) → Quiet X row → Quiet X after)

as_it_was : (t : ℕ) (row : Row) → Kept t row → Finishes t row row
as_it_was t row kept = (record { number = refl; terms = refl; kept = kept; less = λ X h. le_refl _ }, λ X is. is)

finishes_work : (t : ℕ) (row : Row) → Kept t (with_phase AtWork row) → Finishes t (with_phase AtWork row) (happens Finish t (with_phase AtWork row))
finishes_work t row kept =
    let w = with_phase AtWork row in
    let c = row.account.capacity in
    let r = row.account.residual in
    cond_both (leb row.account.jobs 1) _ _ (Finishes t w)
    (λ e. (
      record {
        number = refl;
        terms = refl;
        kept = record { fit = kept.fit; within = omega arith; near = kept.near; phase = (refl, kept.phase.2) };
        less = λ X h. asks_less row.terms.budget row.terms.period (0 + c) (c + r) row.account.deadline t X (omega arith);
      },
      λ X is h. omega (arith, is h),
    ))
    (λ e. (
      record {
        number = refl;
        terms = refl;
        kept = record { fit = kept.fit; within = kept.within; near = kept.near; phase = (omega (arith, leb-false row.account.jobs 1 e), kept.phase.1, kept.phase.2) };
        less = λ X h. le_refl _;
      },
      λ X is. is,
    ))

pub finishes : (t : ℕ) (row : Row) → Kept t row → Finishes t row (happens Finish t row)
finishes t = by_phase (λ row. Kept t row → Finishes t row (happens Finish t row)) (λ row. as_it_was t (with_phase Resting row)) (finishes_work t) (λ row. as_it_was t (with_phase Supplying row))

-- a row that pays for a tick under the deadline e
pub record Pays (t e : ℕ) (row after : Row) : Type 0 where
  pub number : after.number ≡ row.number
  pub terms : after.terms ≡ row.terms
  pub kept : Kept t after
  pub falls : (X : ℕ) → t ≤ X → e ≤ X → demand t X after + 1 ≤ demand t X row
  pub quiet : (X : ℕ) → X < e → Quiet X after

-- a row that holds less keeps what it kept
lowers_rest : (t : ℕ) (row : Row) → Kept t (with_phase Resting row) → (c r : ℕ) → c ≤ row.account.capacity → r ≤ row.account.residual → Kept t (with_capacities c r (with_phase Resting row))
lowers_rest t row kept c r fewer less =
    record {
      fit = kept.fit;
      within = omega arith;
      near = kept.near;
      phase = (kept.phase.0, omega arith, (λ is. omega (arith, kept.phase.2 is)), (λ h. le_trans (mul-le-mul_right {m = c} {n = row.account.capacity} row.terms.period fewer) (kept.phase.3 h)));
    }

lowers : (t : ℕ) (row : Row) → Kept t row → (c r : ℕ) → c ≤ row.account.capacity → r ≤ row.account.residual → Kept t (with_capacities c r row)
lowers t =
    by_phase (λ row. Kept t row → (c r : ℕ) → c ≤ row.account.capacity → r ≤ row.account.residual → Kept t (with_capacities c r row))
    (lowers_rest t)
    (λ row kept c r fewer less. record { fit = kept.fit; within = omega arith; near = kept.near; phase = (kept.phase.0, omega arith, kept.phase.2) })
    (λ row kept c r fewer less. record { fit = kept.fit; within = omega arith; near = kept.near; phase = (omega arith, kept.phase.1) })

-- before its deadline a row is quiet
quiet_before : (X : ℕ) (row : Row) → X < row.account.deadline → Quiet X row
quiet_before X = by_phase (λ row. X < row.account.deadline → Quiet X row) (λ row _. tt) (λ row before due. absurd (omega arith)) (λ row before due. absurd (omega arith))

-- one tick less
charged : (t c r : ℕ) (row : Row) → Kept t row → t ≤ row.account.deadline → c ≤ row.account.capacity → r ≤ row.account.residual → c + r + 1 ≤ row.account.capacity + row.account.residual → Pays t row.account.deadline row (with_capacities c r row)
charged t c r row kept ahead fewer less one =
    record {
      number = refl;
      terms = refl;
      kept = lowers t row kept c r fewer less;
      falls = λ X h e. asks_one_less row.terms.budget row.terms.period (c + r) (row.account.capacity + row.account.residual) row.account.deadline t X ahead e one;
      quiet = λ X before. quiet_before X (with_capacities c r row) before;
    }

-- what is supplied, and the own capacity of a row at work
pub pays_residual : (t : ℕ) (row : Row) → Kept t row → supplies row ≡ true → Pays t row.account.deadline row (charged_residual row)
pays_residual t =
    by_phase (λ row. Kept t row → supplies row ≡ true → Pays t row.account.deadline row (charged_residual row))
    (λ row _ e. absurd (false≢true e))
    (λ row _ e. absurd (false≢true e))
    (λ row kept e. let some = ltb-true 0 row.account.residual e in
    charged t row.account.capacity (row.account.residual - 1) (with_phase Supplying row) kept (omega arith) (omega arith) (omega arith) (omega arith))

pub pays_own : (t : ℕ) (row : Row) → Kept t row → is_at_work row.phase ≡ true → 0 < row.account.capacity → Pays t row.account.deadline row (charged_own row)
pays_own t =
    by_phase (λ row. Kept t row → is_at_work row.phase ≡ true → 0 < row.account.capacity → Pays t row.account.deadline row (charged_own row))
    (λ row _ e. absurd (false≢true e))
    (λ row kept _ some. charged t (row.account.capacity - 1) row.account.residual (with_phase AtWork row) kept (omega arith) (omega arith) (omega arith) (omega arith))
    (λ row _ e. absurd (false≢true e))

none_some : (offer : Offer) → None ≡ Some offer → ⊥
none_some offer e = let z : ◌≡◌ {A = ℕ} 0 1 = cc in omega arith

-- a row that can be stolen from: it rests, is not isolated, and is recharged first or holds something
abbrev pub CanBeRobbed : Phase → ℕ → Row → Type 0
CanBeRobbed Resting t row = (row.terms.kind ≡ Isolated → ⊥) × ((row.account.deadline ≤ t) ⊎ ((t < row.account.deadline) × (0 < row.account.capacity)))
CanBeRobbed AtWork t row = ⊥
CanBeRobbed Supplying t row = ⊥

-- a row that is stolen from by a thief with the deadline D
pub record Robbed (t D : ℕ) (row after : Row) (offer : Offer) : Type 0 where
  pub server : offer.server ≡ row.number
  pub in_time : offer.deadline ≤ D
  pub due : after.account.deadline ≡ offer.deadline
  pub able : CanBeRobbed row.phase t row
  pub pays : Pays t offer.deadline row after

-- what a resting row offers
abbrev offered : ℕ → ℕ → Row → Offer
offered d c row = record { server = row.number; deadline = d; capacity = c }

module _ (t D : ℕ) (row : Row) (kept : Kept t (with_phase Resting row)) (free : row.terms.kind ≡ Isolated → ⊥) where
  -- one whose deadline has come is recharged first
  kept_recharged : Kept t (recharged t (with_phase Resting row))
  kept_recharged =
      let q = row.terms.budget in
      let p = row.terms.period in
      let gap : t + p - t ≡ p = omega arith in
      record { fit = kept.fit; within = omega arith; near = le_refl _; phase = (kept.phase.0, refl, (λ is. absurd (free is)), (λ _. omega (arith, ap (λ (n : ℕ). n * q) gap, mul_comm p q))) }

  robbed_late : row.account.deadline ≤ t → Pays t (t + row.terms.period) (with_phase Resting row) (charged_own (recharged t (with_phase Resting row)))
  robbed_late past =
      let pays = charged t (row.terms.budget - 1) 0 (recharged t (with_phase Resting row)) kept_recharged (omega arith) (omega arith) (omega arith) (omega arith) in
      record { number = refl; terms = refl; kept = pays.kept; falls = λ X h e. le_trans (pays.falls X h e) (recharge_less t (with_phase Resting row) X (omega arith) past h); quiet = pays.quiet }

  robbed_early : t < row.account.deadline → 0 < row.account.capacity → Pays t row.account.deadline (with_phase Resting row) (charged_own (with_phase Resting row))
  robbed_early ahead some = charged t (row.account.capacity - 1) row.account.residual (with_phase Resting row) kept (omega arith) (omega arith) (omega arith) (omega arith)

  robbed_shown : (late : Bool) (offer : Offer) → leb row.account.deadline t ≡ late →
      cond late
      (cond (leb (t + row.terms.period) D) (Some (offered (t + row.terms.period) row.terms.budget row)) None)
      (cond (leb row.account.deadline D && ltb 0 row.account.capacity) (Some (offered row.account.deadline row.account.capacity row)) None)
      ≡ Some offer
      → Robbed t D (with_phase Resting row) (charged_own (cond late (recharged t (with_phase Resting row)) (with_phase Resting row))) offer
  robbed_shown true offer e =
      cond_both (leb (t + row.terms.period) D) _ _ (λ shown. shown ≡ Some offer → Robbed t D (with_phase Resting row) (charged_own (recharged t (with_phase Resting row))) offer)
      (λ f found. let is : offered (t + row.terms.period) row.terms.budget row ≡ offer = cc in
      subst (Robbed t D (with_phase Resting row) (charged_own (recharged t (with_phase Resting row)))) is
      (record { server = refl; in_time = leb-true (t + row.terms.period) D f; due = refl; able = (free, inl (leb-true row.account.deadline t e)); pays = robbed_late (leb-true row.account.deadline t e) }))
      (λ f found. absurd (none_some offer found))
  robbed_shown false offer e =
      cond_both (leb row.account.deadline D && ltb 0 row.account.capacity) _ _ (λ shown. shown ≡ Some offer → Robbed t D (with_phase Resting row) (charged_own (with_phase Resting row)) offer)
      (λ f found. let is : offered row.account.deadline row.account.capacity row ≡ offer = cc in
      let both = and_parts (leb row.account.deadline D) (ltb 0 row.account.capacity) f in
      let ahead = leb-false row.account.deadline t e in
      let some = ltb-true 0 row.account.capacity both.1 in
      subst (Robbed t D (with_phase Resting row) (charged_own (with_phase Resting row))) is
      (record { server = refl; in_time = leb-true row.account.deadline D both.0; due = refl; able = (free, inr (ahead, some)); pays = robbed_early ahead some }))
      (λ f found. absurd (none_some offer found))

robbed_rest : (t D : ℕ) (row : Row) (offer : Offer) → Kept t (with_phase Resting row) → offer_of t D (with_phase Resting row) ≡ Some offer → Robbed t D (with_phase Resting row) (charged_for Stolen t (with_phase Resting row)) offer
robbed_rest t D row offer kept = by_kind row.terms.kind refl
  where
    by_kind : (kind : Kind) → row.terms.kind ≡ kind → offer_in Resting kind t D (with_phase Resting row) ≡ Some offer → Robbed t D (with_phase Resting row) (charged_for Stolen t (with_phase Resting row)) offer
    by_kind NonIsolated is found = robbed_shown t D row kept (λ not_so. let z : ◌≡◌ {A = ℕ} 0 1 = cc in omega arith) (leb row.account.deadline t) offer refl found
    by_kind Isolated is found = absurd (none_some offer found)

-- whoever makes an offer pays under its deadline
pub robbed : (t D : ℕ) (row : Row) (offer : Offer) → Kept t row → offer_of t D row ≡ Some offer → Robbed t D row (charged_for Stolen t row) offer
robbed t D row offer =
    by_phase (λ row. Kept t row → offer_of t D row ≡ Some offer → Robbed t D row (charged_for Stolen t row) offer)
    (λ row kept found. robbed_rest t D row offer kept found)
    (λ row _ found. absurd (none_some offer found))
    (λ row _ found. absurd (none_some offer found))
    row
