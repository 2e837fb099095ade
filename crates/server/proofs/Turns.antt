-- What a tick does to one row: the charge, the finish, and then the clock.
use Rattle.std.proofs.Common.{◌≡◌, ℕ, suc, ◌+◌, ◌<◌, ◌≤◌, min, Bool, true, false, cond, ◌&&◌, eqb, leb, ◌⊎◌, List, length, get_or, is_some, Some, None, Option, sym, refl, ap, ◌∙◌, subst, inl, inr, ⊎_elim, le_refl, arith}
use Rattle.std.proofs.ByRecursion.{All-get_or}
use Rattle.std.proofs.lemmas.Bool.{both_ways, cond_both, cases_lt, cases_eq, leb-true, leb-false, ltb-true, eqb-true, false≢true}
use Rattle.plan.specs.declared.terms.Kind.TheVariants.{Isolated}
use Rattle.plan.specs.declared.terms.Terms.{Terms}
use Rattle.server.specs.declared.row.Event.TheVariants.{Arrival, Finish}
use Rattle.server.specs.declared.row.Phase.{Phase}
use Rattle.server.specs.declared.row.Phase.TheVariants.{Resting, AtWork, Supplying}
use Rattle.server.specs.declared.row.Row.{Row}
use Rattle.server.specs.declared.turn.Payment.{Payment}
use Rattle.server.specs.declared.turn.Source.{Source}
use Rattle.server.specs.declared.turn.Source.TheVariants.{Own, Residual, Stolen, Idle, Empty}
use Rattle.server.specs.Row.{with_phase, with_capacities, recharged, renewed, one_more, happens, charged_own, share_left, cut_at}
use Rattle.server.specs.Turn.{Choice, supplies, blank_row, runner_of, payment_of}
use Rattle.server.specs.Tick.{arrived_at, passed, settled, ticked}
use Rattle.server.specs.Demand.{KeptIn, Kept, Sound, Inside, SpentIn}
use Rattle.server.proofs.Passing.{by_phase}
use Rattle.server.proofs.Steps.{CanBeRobbed}
use Rattle.server.proofs.Paying.{is_runner, CanPay, Fair, fair}
use Rattle.server.proofs.Bound.{nothing_left}
use Rattle.server.proofs.Rows.{source_at, charged_by, settled_row, changed_at, length_settled, settled_at, ticked_at}

abbrev pub held : Row → ℕ
held row = row.account.capacity + row.account.residual

-- what a payer has for the tick that it pays: one that is stolen from may be recharged first
abbrev pub had_for : Source → ℕ → Row → ℕ
had_for Own t row = held row
had_for Residual t row = held row
had_for Stolen t row = cond (leb row.account.deadline t) row.terms.budget (held row)
had_for Idle t row = held row
had_for Empty t row = held row

abbrev pub had : Option Source → ℕ → Row → ℕ
had None t row = held row
had (Some source) t row = had_for source t row

abbrev pub CanPayIf : Option Source → Bool → ℕ → Row → Type 0
CanPayIf None runs t row = Unit {0}
CanPayIf (Some source) runs t row = CanPay source runs t row

-- how much a tick takes from one that pays, and gives to one that runs
abbrev pub count : Bool → ℕ
count b = cond b 1 0

rest_work : Resting ≡ AtWork → ⊥
rest_work e = let z : ◌≡◌ {A = ℕ} 0 1 = cc in omega arith

rest_supply : Resting ≡ Supplying → ⊥
rest_supply e = let z : ◌≡◌ {A = ℕ} 0 1 = cc in omega arith

work_supply : AtWork ≡ Supplying → ⊥
work_supply e = let z : ◌≡◌ {A = ℕ} 0 1 = cc in omega arith

supplying : (row : Row) → supplies row ≡ true → row.phase ≡ Supplying
supplying = by_phase (λ row. supplies row ≡ true → row.phase ≡ Supplying) (λ row e. absurd (false≢true e)) (λ row e. absurd (false≢true e)) (λ row e. refl)

-- A row after the charge and the finish: it holds one less if it paid, under its deadline or, where it was
-- recharged to be stolen from, under a new one.
record Settles (pays runs : Bool) (had t : ℕ) (row mid : Row) : Type 0 where
  terms : mid.terms ≡ row.terms
  one : held mid + count pays ≡ had
  place : ((mid.account.deadline ≡ row.account.deadline) × (had ≡ held row))
      ⊎ ((row.phase ≡ Resting) × (mid.phase ≡ Resting) × (row.account.deadline ≤ t) × (mid.account.deadline ≡ t + row.terms.period) × (had ≡ row.terms.budget) × (pays ≡ true))
  work : row.phase ≡ AtWork → (count pays ≤ count runs) × ((mid.phase ≡ AtWork × (row.account.capacity ≡ mid.account.capacity + count pays)) ⊎ (mid.phase ≡ Supplying))
  dry : (mid.phase ≡ Supplying → ⊥) → mid.account.residual ≡ 0

-- the charge, by the phase of the payer
abbrev Charges : Option Source → Bool → ℕ → Row → Type 0
Charges source runs t row = Kept t row → CanPayIf source runs t row → Settles (is_some source) runs (had source t row) t row (charged_by source t row)

charges_rest : (source : Option Source) (runs : Bool) (t : ℕ) (row : Row) → Charges source runs t (with_phase Resting row)
charges_rest None runs t row kept can = record { terms = refl; one = omega arith; place = inl (refl, refl); work = λ e. absurd (rest_work e); dry = λ _. kept.phase.1 }
charges_rest (Some Own) runs t row kept can = absurd (false≢true can.1)
charges_rest (Some Residual) runs t row kept can = absurd (false≢true can)
charges_rest (Some Idle) runs t row kept can = absurd (false≢true can)
charges_rest (Some Empty) runs t row kept can = absurd can
charges_rest (Some Stolen) runs t row kept can = by_lateness (leb row.account.deadline t) refl
  where
    by_lateness : (late : Bool) → leb row.account.deadline t ≡ late → Settles true runs (cond late row.terms.budget (held row)) t (with_phase Resting row) (charged_own (cond late (recharged t (with_phase Resting row)) (with_phase Resting row)))
    by_lateness true is = record { terms = refl; one = omega arith; place = inr (refl, refl, leb-true row.account.deadline t is, refl, refl, refl); work = λ e. absurd (rest_work e); dry = λ _. refl }
    by_lateness false is =
        let ahead = leb-false row.account.deadline t is in
        let some : 0 < row.account.capacity = ⊎_elim (λ (h : row.account.deadline ≤ t). absurd (omega arith)) (λ (h : (t < row.account.deadline) × (0 < row.account.capacity)). h.1) can.1 in
        record { terms = refl; one = omega arith; place = inl (refl, refl); work = λ e. absurd (rest_work e); dry = λ _. kept.phase.1 }

charges_work : (source : Option Source) (runs : Bool) (t : ℕ) (row : Row) → Charges source runs t (with_phase AtWork row)
charges_work None runs t row kept can = record { terms = refl; one = omega arith; place = inl (refl, refl); work = λ _. (omega arith, inl (refl, omega arith)); dry = λ _. kept.phase.1 }
charges_work (Some Own) runs t row kept can =
    let some = can.2 in
    record { terms = refl; one = omega arith; place = inl (refl, refl); work = λ _. (omega (arith, ap (λ (b : Bool). count b) can.0), inl (refl, omega arith)); dry = λ _. kept.phase.1 }
charges_work (Some Residual) runs t row kept can = absurd (false≢true can)
charges_work (Some Idle) runs t row kept can = absurd (false≢true can)
charges_work (Some Empty) runs t row kept can = absurd can
charges_work (Some Stolen) runs t row kept can = absurd can

charges_supply : (source : Option Source) (runs : Bool) (t : ℕ) (row : Row) → Charges source runs t (with_phase Supplying row)
charges_supply None runs t row kept can = record { terms = refl; one = omega arith; place = inl (refl, refl); work = λ e. absurd (work_supply (sym e)); dry = λ live. absurd (live refl) }
charges_supply (Some Residual) runs t row kept can = let some = ltb-true 0 row.account.residual can in record { terms = refl; one = omega arith; place = inl (refl, refl); work = λ e. absurd (work_supply (sym e)); dry = λ live. absurd (live refl) }
charges_supply (Some Idle) runs t row kept can = let some = ltb-true 0 row.account.residual can in record { terms = refl; one = omega arith; place = inl (refl, refl); work = λ e. absurd (work_supply (sym e)); dry = λ live. absurd (live refl) }
charges_supply (Some Own) runs t row kept can = absurd (false≢true can.1)
charges_supply (Some Empty) runs t row kept can = absurd can
charges_supply (Some Stolen) runs t row kept can = absurd can

charges : (source : Option Source) (runs : Bool) (t : ℕ) (row : Row) → Charges source runs t row
charges source runs t = by_phase (Charges source runs t) (charges_rest source runs t) (charges_work source runs t) (charges_supply source runs t)

-- the finish: what a row at work has left it supplies
module _ (pays runs : Bool) (had t : ℕ) (row : Row) where
  finishes_work : (mid : Row) → Settles pays runs had t row (with_phase AtWork mid) → Settles pays runs had t row (happens Finish t (with_phase AtWork mid))
  finishes_work mid is =
      let none = is.dry work_supply in
      cond_both (leb mid.account.jobs 1) _ _ (Settles pays runs had t row)
      (λ _. record {
        terms = is.terms;
        one = omega (arith, is.one);
        place = ⊎_elim inl (λ late. absurd (rest_work (sym late.1))) is.place;
        work = λ e. ((is.work e).0, inr refl);
        dry = λ live. absurd (live refl);
      })
      (λ _. record { terms = is.terms; one = is.one; place = is.place; work = is.work; dry = is.dry })

  settles_finish : (mid : Row) → Settles pays runs had t row mid → Settles pays runs had t row (happens Finish t mid)
  settles_finish = by_phase (λ mid. Settles pays runs had t row mid → Settles pays runs had t row (happens Finish t mid)) (λ mid is. is) finishes_work (λ mid is. is)

settles : (source : Option Source) (finished runs : Bool) (t : ℕ) (row : Row) → Kept t row → CanPayIf source runs t row → Settles (is_some source) runs (had source t row) t row (settled_row source finished runs t row)
settles source finished runs t row kept can =
    let is = charges source runs t row kept can in
    cond_both (finished && runs) _ _ (Settles (is_some source) runs (had source t row) t row) (λ _. settles_finish (is_some source) runs (had source t row) t row (charged_by source t row) is) (λ _. is)

-- What the clock leaves of a row: all as it was, or cut to its share, or, at its deadline, a new budget or nothing.
data Passes (t : ℕ) (mid after : Row) : Type 0 where
  same : after ≡ mid → Passes t mid after
  cut : mid.phase ≡ Resting → suc t ≤ mid.account.deadline → share_left (suc t) mid ≤ mid.account.capacity → after ≡ with_capacities (share_left (suc t) mid) mid.account.residual mid → Passes t mid after
  renews : (mid.phase ≡ Resting → ⊥) → mid.account.deadline ≡ suc t → after ≡ renewed (suc t) mid → Passes t mid after
  rests : (mid.phase ≡ Resting → ⊥) → mid.account.deadline ≡ suc t → after.account.deadline ≡ mid.account.deadline → held after ≡ 0 → Passes t mid after

passes_rest : (t : ℕ) (mid : Row) → Passes t (with_phase Resting mid) (cut_at (suc t) (with_phase Resting mid))
passes_rest t mid =
    let w = with_phase Resting mid in
    let c = mid.account.capacity in
    let s = share_left (suc t) mid in
    cond_both (leb (suc t) mid.account.deadline) _ _ (Passes t w)
    (λ e. ⊎_elim
    (λ (h : c < s). same (ap (λ (n : ℕ). with_capacities n mid.account.residual w) (least_left c s h)))
    (λ (h : s ≤ c). cut refl (leb-true (suc t) mid.account.deadline e) h (ap (λ (n : ℕ). with_capacities n mid.account.residual w) (least_right c s h)))
    (cases_lt c s))
    (λ _. same refl)
  where
    least_left : (c s : ℕ) → c < s → min c s ≡ c
    least_left c s h = omega arith

    least_right : (c s : ℕ) → s ≤ c → min c s ≡ s
    least_right c s h = omega arith

passes : (t : ℕ) (mid : Row) → Passes t mid (passed (suc t) mid)
passes t =
    by_phase (λ mid. Passes t mid (passed (suc t) mid))
    (λ mid. cond_both (eqb mid.account.deadline (suc t)) _ _ (λ after. Passes t (with_phase Resting mid) (cut_at (suc t) after)) (λ _. passes_rest t mid) (λ _. passes_rest t mid))
    (λ mid. cond_both (eqb mid.account.deadline (suc t)) _ _ (λ after. Passes t (with_phase AtWork mid) (cut_at (suc t) after))
    (λ e. renews (λ is. rest_work (sym is)) (eqb-true mid.account.deadline (suc t) e) refl)
    (λ _. same refl))
    (λ mid. cond_both (eqb mid.account.deadline (suc t)) _ _ (λ after. Passes t (with_phase Supplying mid) (cut_at (suc t) after))
    (λ e. cond_both (eqb mid.account.jobs 0) _ _ (λ after. Passes t (with_phase Supplying mid) (cut_at (suc t) after))
    (λ _. emptied mid (eqb-true mid.account.deadline (suc t) e))
    (λ _. renews (λ is. rest_supply (sym is)) (eqb-true mid.account.deadline (suc t) e) refl))
    (λ _. same refl))
  where
    emptied : (mid : Row) → mid.account.deadline ≡ suc t → Passes t (with_phase Supplying mid) (cut_at (suc t) (with_phase Resting (with_capacities 0 0 mid)))
    emptied mid here =
        cond_both (leb (suc t) mid.account.deadline) _ _ (Passes t (with_phase Supplying mid))
        (λ _. rests (λ is. rest_supply (sym is)) here refl (nothing (share_left (suc t) mid)))
        (λ _. rests (λ is. rest_supply (sym is)) here refl refl)
      where
        nothing : (s : ℕ) → min 0 s + 0 ≡ 0
        nothing s = omega arith

-- What a tick does to one row, of budget Q and period T, that had this much for it.
module _ (pays runs : Bool) (had Q T t : ℕ) (row after : Row) where
  -- it stays under its deadline, or is renewed at the end of the tick, or was recharged to be stolen from
  abbrev Stays : Type 0
  Stays = (after.account.deadline ≡ row.account.deadline) × (held after + count pays ≤ held row)

  abbrev Renewed : Type 0
  Renewed = (row.account.deadline ≤ suc t) × (after.account.deadline ≡ suc t + T) × (held after ≤ Q) × (after.phase ≡ AtWork) × (after.account.capacity ≡ Q) × (count pays ≤ held row)

  abbrev Recharged : Type 0
  Recharged = (row.account.deadline ≤ t) × (after.account.deadline ≡ t + T) × (held after + 1 ≤ Q) × (row.phase ≡ Resting)

  abbrev Way : Type 0
  Way = Stays ⊎ (Renewed ⊎ Recharged)

  -- a row at work has used its capacity up where its deadline comes, and else loses no more than it runs
  abbrev Work : Type 0
  Work = ((suc t ≡ row.account.deadline) × (row.account.capacity ≤ count runs))
      ⊎ ((suc t < row.account.deadline) × (after.account.deadline ≡ row.account.deadline) × ((after.phase ≡ AtWork × (row.account.capacity ≤ after.account.capacity + count runs)) ⊎ (after.phase ≡ Supplying)))

  -- what it holds, and one more if it paid, is what it had, unless its deadline came or it was cut
  abbrev Account : Type 0
  Account = (held after + count pays ≡ had)
      ⊎ ((row.account.deadline ≡ suc t)
      ⊎ ((after.phase ≡ Resting) × (suc t ≤ after.account.deadline) × (held after ≡ share_left (suc t) after) × (held after + count pays ≤ had)))

  pub record Turned : Type 0 where
    pub way : Way
    pub work : row.phase ≡ AtWork → Work
    pub account : Account

module _ (pays runs : Bool) (had t : ℕ) (row mid : Row) (is : Settles pays runs had t row mid) where
  abbrev Q : ℕ
  Q = row.terms.budget

  abbrev T : ℕ
  T = row.terms.period

  -- under the deadline that the charge left, with no more than it left
  way_lower : (after : Row) → after.account.deadline ≡ mid.account.deadline → held after ≤ held mid → Way pays runs had Q T t row after
  way_lower after due fewer =
      ⊎_elim
      (λ on. inl (due ∙ on.0, omega (arith, is.one, on.1)))
      (λ late. inr (inr (late.2, due ∙ late.3, omega (arith, is.one, late.4, ap count late.5), late.0)))
      is.place

  way_renewed : (mid.phase ≡ Resting → ⊥) → mid.account.deadline ≡ suc t → Way pays runs had Q T t row (renewed (suc t) mid)
  way_renewed live here =
      ⊎_elim
      (λ on. inr (inl (omega (arith, on.0), ap (λ (terms : Terms). suc t + terms.period) is.terms, omega (arith, ap (λ (terms : Terms). terms.budget) is.terms), refl, ap (λ (terms : Terms). terms.budget) is.terms, omega (arith, is.one, on.1))))
      (λ late. absurd (live late.1))
      is.place

  way_of : (after : Row) → Passes t mid after → Way pays runs had Q T t row after
  way_of after (same e) = subst (Way pays runs had Q T t row) (sym e) (way_lower mid refl (le_refl _))
  way_of after (cut _ _ fewer e) = subst (Way pays runs had Q T t row) (sym e) (way_lower (with_capacities (share_left (suc t) mid) mid.account.residual mid) refl (omega arith))
  way_of after (renews live here e) = subst (Way pays runs had Q T t row) (sym e) (way_renewed live here)
  way_of after (rests _ _ due none) = way_lower after due (omega (arith, none))

  -- a row that is live where its deadline comes kept its deadline in the charge
  comes : (mid.phase ≡ Resting → ⊥) → mid.account.deadline ≡ suc t → row.account.deadline ≡ suc t
  comes live here = ⊎_elim (λ on. sym on.0 ∙ here) (λ late. absurd (live late.1)) is.place

  account_of : (after : Row) → Passes t mid after → Account pays runs had Q T t row after
  account_of after (same e) = subst (Account pays runs had Q T t row) (sym e) (inl is.one)
  account_of after (cut rest ahead fewer e) = subst (Account pays runs had Q T t row) (sym e) (inr (inr (rest, ahead, omega (arith, is.dry (λ supply. rest_supply (sym rest ∙ supply))), omega (arith, is.one))))
  account_of after (renews live here e) = inr (inl (comes live here))
  account_of after (rests live here _ _) = inr (inl (comes live here))

  module _ (kept : Kept t row) (spent : SpentIn mid.phase (suc t) mid) (at_work : row.phase ≡ AtWork) where
    on : (mid.account.deadline ≡ row.account.deadline) × (had ≡ held row)
    on = ⊎_elim (λ on. on) (λ late. absurd (rest_work (sym late.0 ∙ at_work))) is.place

    live : mid.phase ≡ Resting → ⊥
    live rest = ⊎_elim (λ work. rest_work (sym rest ∙ work.0)) (λ supply. rest_supply (sym rest ∙ supply)) (is.work at_work).1

    nothing : mid.account.deadline ≡ suc t → held mid ≡ 0
    nothing here =
        ⊎_elim
        (λ work. let none : (mid.account.capacity ≡ 0) × (mid.account.residual ≡ 0) = subst (λ (p : Phase). SpentIn p (suc t) mid) {y = AtWork} work.0 spent here in omega (arith, none.0, none.1))
        (λ supply. let none : (mid.account.capacity ≡ 0) × (mid.account.residual ≡ 0) = subst (λ (p : Phase). SpentIn p (suc t) mid) {y = Supplying} supply spent here in omega (arith, none.0, none.1))
        (is.work at_work).1

    at_deadline : (after : Row) → mid.account.deadline ≡ suc t → Work pays runs had Q T t row after
    at_deadline after here = inl (sym here ∙ on.0, omega (arith, nothing here, is.one, on.1, (is.work at_work).0))

    goes_on : (mid.account.deadline ≡ suc t → ⊥) → Work pays runs had Q T t row mid
    goes_on ne =
        let ahead = (subst (λ (p : Phase). KeptIn p t row) at_work kept.phase).2 in
        inr (later mid.account.deadline row.account.deadline on.0 ahead ne, on.0, ⊎_elim (λ work. inl (work.0, omega (arith, work.1, (is.work at_work).0))) inr (is.work at_work).1)
      where
        later : (d e : ℕ) → d ≡ e → t < e → (d ≡ suc t → ⊥) → suc t < e
        later d e is ahead ne = grind arith

    work_of : (after : Row) → Passes t mid after → Work pays runs had Q T t row after
    work_of after (same e) = ⊎_elim (at_deadline after) (λ ne. subst (Work pays runs had Q T t row) (sym e) (goes_on ne)) (cases_eq mid.account.deadline (suc t))
    work_of after (cut rest _ _ _) = absurd (live rest)
    work_of after (renews _ here _) = at_deadline after here
    work_of after (rests _ here _ _) = at_deadline after here

-- the whole tick
pub turns : (source : Option Source) (finished runs : Bool) (t : ℕ) (row : Row) → Kept t row → CanPayIf source runs t row
    → SpentIn (settled_row source finished runs t row).phase (suc t) (settled_row source finished runs t row)
    → Turned (is_some source) runs (had source t row) row.terms.budget row.terms.period t row (passed (suc t) (settled_row source finished runs t row))
turns source finished runs t row kept can spent =
    let mid = settled_row source finished runs t row in
    let is = settles source finished runs t row kept can in
    let pass = passes t mid in
    record {
      way = way_of (is_some source) runs (had source t row) t row mid is (passed (suc t) mid) pass;
      work = λ at_work. work_of (is_some source) runs (had source t row) t row mid is kept spent at_work (passed (suc t) mid) pass;
      account = account_of (is_some source) runs (had source t row) t row mid is (passed (suc t) mid) pass;
    }

-- an isolated row that pays for another, or for idle time, supplies
pub isolated_pays : (source : Option Source) (runs : Bool) (t : ℕ) (row : Row) → CanPayIf source runs t row → is_some source ≡ true → runs ≡ false → row.terms.kind ≡ Isolated → row.phase ≡ Supplying
isolated_pays None runs t row can pays other isolated = absurd (false≢true pays)
isolated_pays (Some Own) runs t row can pays other isolated = absurd (both_ways runs other can.0)
isolated_pays (Some Residual) runs t row can pays other isolated = supplying row can
isolated_pays (Some Idle) runs t row can pays other isolated = supplying row can
isolated_pays (Some Empty) runs t row can pays other isolated = absurd can
isolated_pays (Some Stolen) runs t row can pays other isolated = absurd (by_phase (λ row. CanBeRobbed row.phase t row → row.terms.kind ≡ Isolated → ⊥) (λ row can is. can.0 is) (λ row can is. can) (λ row can is. can) row can isolated)

-- a row that does not rest has its deadline to come
pub ahead : (t : ℕ) (row : Row) → Kept t row → (row.phase ≡ Resting → ⊥) → t < row.account.deadline
ahead t = by_phase (λ row. Kept t row → (row.phase ≡ Resting → ⊥) → t < row.account.deadline) (λ row kept live. absurd (live refl)) (λ row kept _. kept.phase.2) (λ row kept _. kept.phase.1)

-- What an arrival at instant t, there or elsewhere, does to one row of budget Q and period T.
pub record Heard (Q T t : ℕ) (row after : Row) : Type 0 where
  pub way : ((after.account.deadline ≡ row.account.deadline) × (held after ≤ held row))
      ⊎ ((row.account.deadline ≤ t) × (after.account.deadline ≡ t + T) × (held after ≤ Q) × (after.phase ≡ AtWork) × (after.account.capacity ≡ Q))
  pub work : row.phase ≡ AtWork → (after.account.deadline ≡ row.account.deadline) × (after.phase ≡ AtWork) × (after.account.capacity ≡ row.account.capacity)
  pub supply : row.phase ≡ Supplying → (after.account.deadline ≡ row.account.deadline) × (after.phase ≡ Supplying)

pub unheard : (Q T t : ℕ) (row : Row) → Heard Q T t row row
unheard Q T t row = record { way = inl (refl, le_refl _); work = λ at_work. (refl, at_work, refl); supply = λ supplies. (refl, supplies) }

hears_rest : (t : ℕ) (row : Row) → Heard row.terms.budget row.terms.period t (with_phase Resting row) (happens Arrival t (with_phase Resting row))
hears_rest t row =
    cond_both (leb row.account.deadline t) _ _ (λ r. Heard row.terms.budget row.terms.period t (with_phase Resting row) (one_more (with_phase AtWork r)))
    (λ e. record { way = inr (leb-true row.account.deadline t e, refl, omega arith, refl, refl); work = λ is. absurd (rest_work is); supply = λ is. absurd (rest_supply is) })
    (λ e. record { way = inl (refl, le_refl _); work = λ is. absurd (rest_work is); supply = λ is. absurd (rest_supply is) })

pub hears : (t : ℕ) (row : Row) → Heard row.terms.budget row.terms.period t row (happens Arrival t row)
hears t =
    by_phase (λ row. Heard row.terms.budget row.terms.period t row (happens Arrival t row))
    (hears_rest t)
    (λ row. record { way = inl (refl, le_refl _); work = λ _. (refl, refl, refl); supply = λ is. absurd (work_supply is) })
    (λ row. record { way = inl (refl, le_refl _); work = λ is. absurd (work_supply (sym is)); supply = λ _. (refl, refl) })

-- whoever pays in a tick has what its source asks for
can_pay_at : (t k : ℕ) (rows : List Row) (runner : Option ℕ) (payment : Option Payment) → Fair t rows runner payment → CanPayIf (source_at payment k) (is_runner runner k) t (get_or rows k blank_row)
can_pay_at t k rows runner None _ = tt
can_pay_at t k rows runner (Some payment) pays = by_place (eqb payment.payer k) refl
  where
    by_place : (here : Bool) → eqb payment.payer k ≡ here → CanPayIf (cond here (Some payment.source) None) (is_runner runner k) t (get_or rows k blank_row)
    by_place true e = subst (λ (n : ℕ). CanPay payment.source (is_runner runner n) t (get_or rows n blank_row)) (eqb-true payment.payer k e) pays.able
    by_place false e = tt

module _ (choice : Choice) (t : ℕ) (finished : Bool) (rows : List Row) (inside : Inside choice) (sound : Sound t rows) (k : ℕ) (here : k < length rows) where
  abbrev runner : Option ℕ
  runner = runner_of choice t rows

  abbrev payment : Option Payment
  payment = payment_of choice t rows runner

  abbrev row : Row
  row = get_or rows k blank_row

  pub payer_can_pay : CanPayIf (source_at payment k) (is_runner runner k) t row
  payer_can_pay = can_pay_at t k rows runner payment (fair choice t rows inside sound)

  -- what a tick does to the row in a place
  pub turned : Turned (is_some (source_at payment k)) (is_runner runner k) (had (source_at payment k) t row) row.terms.budget row.terms.period t row (get_or (ticked choice t finished rows) k blank_row)
  turned =
      subst (Turned (is_some (source_at payment k)) (is_runner runner k) (had (source_at payment k) t row) row.terms.budget row.terms.period t row) (sym (ticked_at choice t finished rows k here))
      (turns (source_at payment k) finished (is_runner runner k) t row (All-get_or (Kept t) rows k blank_row here sound.kept) payer_can_pay
      (subst (λ (mid : Row). SpentIn mid.phase (suc t) mid) (settled_at choice t finished rows k here)
      (All-get_or (λ row. SpentIn row.phase (suc t) row) (settled choice t finished rows) k blank_row (omega (arith, length_settled choice t finished rows)) (nothing_left choice t finished rows inside sound))))

-- the same, for an arrival
pub heard_at : (t server k : ℕ) (rows : List Row) → k < length rows → Heard (get_or rows k blank_row).terms.budget (get_or rows k blank_row).terms.period t (get_or rows k blank_row) (get_or (arrived_at t server rows) k blank_row)
heard_at t server k rows here =
    let row = get_or rows k blank_row in
    subst (Heard row.terms.budget row.terms.period t row) (sym (changed_at (happens Arrival t) server k rows here))
    (cond_both (eqb server k) _ _ (Heard row.terms.budget row.terms.period t row) (λ _. hears t row) (λ _. unheard row.terms.budget row.terms.period t row))
