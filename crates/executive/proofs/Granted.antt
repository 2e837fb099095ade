-- What the answer of a granted tick says of one server: whether it runs, whether it pays, and from what.
use Rattle.std.proofs.Common.{◌≡◌, ℕ, ◌+◌, ◌-◌, ◌<◌, ◌≤◌, Bool, true, false, cond, ◌&&◌, eqb, leb, List, length, get_or, is_some, Some, None, Ok, Option, sym, refl, ap, ◌∙◌, subst, ⊎_elim, arith, get_or-set_same}
use Rattle.std.specs.List.{AllByRecursion}
use Rattle.std.proofs.ByRecursion.{All-get_or}
use Rattle.std.proofs.lemmas.Bool.{cond_both, leb-false, ltb-true, eqb-true, eq-eqb, ne_eqb, false≢true}
use Rattle.server.specs.declared.row.Phase.TheVariants.{Resting}
use Rattle.server.specs.declared.row.Row.{Row}
use Rattle.server.specs.declared.turn.Payment.{Payment}
use Rattle.server.specs.declared.turn.Source.{Source}
use Rattle.server.specs.declared.turn.Source.TheVariants.{Own, Residual, Stolen, Idle, Empty}
use Rattle.server.specs.Row.{with_phase, recharged}
use Rattle.server.specs.Turn.{Choice, blank_row, is_at_work, supplies, payment_of}
use Rattle.server.specs.Tick.{charged_for, paid}
use Rattle.server.specs.Demand.{Kept}
use Rattle.server.proofs.Passing.{by_phase}
use Rattle.server.proofs.Steps.{CanBeRobbed}
use Rattle.server.proofs.Paying.{is_runner, CanPay, FairPay, Fair, RunnerStands}
use Rattle.server.proofs.Rows.{source_at}
use Rattle.server.proofs.Turns.{held, had_for, had}
use Rattle.executive.specs.Calls.{State, nobody, runner_number, payer_number, left_of, payer_deadline, payer_left, ticked_with}
use Rattle.executive.specs.Run.{Entry, passed, tick, row_of, is_stolen, stolen_in, granted_of, read_or, pays, renewed_for_theft}

pub runs_at : (runner : Option ℕ) (k : ℕ) → k < nobody → is_runner runner k ≡ eqb (runner_number runner) k
runs_at None k some = sym (ne_eqb nobody k (λ e. omega arith))
runs_at (Some j) k some = refl

pub pays_at : (payment : Option Payment) (k : ℕ) → k < nobody → is_some (source_at payment k) ≡ eqb (payer_number payment) k
pays_at None k some = sym (ne_eqb nobody k (λ e. omega arith))
pays_at (Some payment) k some = by_place (eqb payment.payer k)
  where
    by_place : (here : Bool) → is_some (cond here (Some payment.source) None) ≡ here
    by_place true = refl
    by_place false = refl

module _ {R : Type 0} (state after : State R) (finished : Bool) (runner : Option ℕ) where
  -- a tick that is granted, with this runner and this payment
  abbrev pub granted : Option Payment → Entry R
  granted payment = record { before = state; call = tick finished; answer = passed (Ok (ticked_with runner payment (paid state.instant payment state.rows))); after = after }

  -- what a row has for it
  module _ (k : ℕ) where
    abbrev row : Row
    row = row_of k state

    abbrev SameHas : Option Payment → Type 0
    SameHas payment = had (source_at payment k) state.instant row ≡ cond (read_or stolen_in false (granted_of (granted payment).answer) && (pays k (granted payment) && leb row.account.deadline state.instant)) row.terms.budget (held row)

    has_from : (payer : ℕ) (source : Source) → SameHas (Some (record { payer = payer; source = source }))
    has_from payer Own = cond_both (eqb payer k) _ _ (λ o. had o state.instant row ≡ held row) (λ _. refl) (λ _. refl)
    has_from payer Residual = cond_both (eqb payer k) _ _ (λ o. had o state.instant row ≡ held row) (λ _. refl) (λ _. refl)
    has_from payer Stolen = by_place (eqb payer k)
      where
        by_place : (here : Bool) → had (cond here (Some Stolen) None) state.instant row ≡ cond (here && leb row.account.deadline state.instant) row.terms.budget (held row)
        by_place true = refl
        by_place false = refl
    has_from payer Idle = cond_both (eqb payer k) _ _ (λ o. had o state.instant row ≡ held row) (λ _. refl) (λ _. refl)
    has_from payer Empty = cond_both (eqb payer k) _ _ (λ o. had o state.instant row ≡ held row) (λ _. refl) (λ _. refl)

    pub has_at : (payment : Option Payment) → SameHas payment
    has_at None = refl
    has_at (Some payment) = has_from payment.payer payment.source

-- what is left of the capacity charged, and one more, is what the payer had
left_own : (t : ℕ) (row : Row) → Kept t row → is_at_work row.phase ≡ true → 0 < row.account.capacity → row.account.capacity - 1 + 1 ≡ held row
left_own t =
    by_phase (λ row. Kept t row → is_at_work row.phase ≡ true → 0 < row.account.capacity → row.account.capacity - 1 + 1 ≡ held row)
    (λ row kept e. absurd (false≢true e))
    (λ row kept _ some. omega arith)
    (λ row kept e. absurd (false≢true e))

left_residual : (t : ℕ) (row : Row) → Kept t row → supplies row ≡ true → row.account.residual - 1 + 1 ≡ held row
left_residual t =
    by_phase (λ row. Kept t row → supplies row ≡ true → row.account.residual - 1 + 1 ≡ held row)
    (λ row kept e. absurd (false≢true e))
    (λ row kept e. absurd (false≢true e))
    (λ row kept e. let some = ltb-true 0 row.account.residual e in omega arith)

left_stolen : (t : ℕ) (row : Row) → Kept t row → CanBeRobbed row.phase t row → (charged_for Stolen t row).account.capacity + 1 ≡ had_for Stolen t row
left_stolen t =
    by_phase (λ row. Kept t row → CanBeRobbed row.phase t row → (charged_for Stolen t row).account.capacity + 1 ≡ had_for Stolen t row)
    (λ row kept can. by_lateness row kept can (leb row.account.deadline t) refl)
    (λ row kept can. absurd can)
    (λ row kept can. absurd can)
  where
    by_lateness : (row : Row) → Kept t (with_phase Resting row) → CanBeRobbed Resting t row → (late : Bool) → leb row.account.deadline t ≡ late → (cond late (recharged t (with_phase Resting row)) (with_phase Resting row)).account.capacity - 1 + 1 ≡ cond late row.terms.budget (held row)
    by_lateness row kept can true is = omega arith
    by_lateness row kept can false is =
        let ahead = leb-false row.account.deadline t is in
        let some : 0 < row.account.capacity = ⊎_elim (λ (h : row.account.deadline ≤ t). absurd (omega arith)) (λ (h : (t < row.account.deadline) × (0 < row.account.capacity)). h.1) can.1 in
        omega arith

left_one : (source : Source) (runs : Bool) (t : ℕ) (row : Row) → Kept t row → CanPay source runs t row → left_of source (charged_for source t row) + 1 ≡ had_for source t row
left_one Own runs t row kept can = left_own t row kept can.1 can.2
left_one Residual runs t row kept can = left_residual t row kept can
left_one Stolen runs t row kept can = left_stolen t row kept can
left_one Idle runs t row kept can = left_residual t row kept can
left_one Empty runs t _ kept can = absurd can

module _ (t : ℕ) (rows : List Row) (runner : Option ℕ) where
  charged_at : (payment : Payment) → FairPay t rows runner payment → get_or (paid t (Some payment) rows) payment.payer blank_row ≡ charged_for payment.source t (get_or rows payment.payer blank_row)
  charged_at payment fair = get_or-set_same rows payment.payer (charged_for payment.source t (get_or rows payment.payer blank_row)) blank_row fair.inside

  pub left_at : (payment : Option Payment) → Fair t rows runner payment → AllByRecursion (Kept t) rows → (k : ℕ) → is_some (source_at payment k) ≡ true → payer_left payment (paid t payment rows) + 1 ≡ had (source_at payment k) t (get_or rows k blank_row)
  left_at None fair kept k e = absurd (false≢true e)
  left_at (Some payment) fair kept k e = by_place (eqb payment.payer k) refl e
    where
      by_place : (here : Bool) → eqb payment.payer k ≡ here → is_some (cond here (Some payment.source) None) ≡ true → left_of payment.source (get_or (paid t (Some payment) rows) payment.payer blank_row) + 1 ≡ had (cond here (Some payment.source) None) t (get_or rows k blank_row)
      by_place true is _ =
          subst (λ (n : ℕ). left_of payment.source (get_or (paid t (Some payment) rows) payment.payer blank_row) + 1 ≡ had_for payment.source t (get_or rows n blank_row)) (eqb-true payment.payer k is)
          (ap (λ (row : Row). left_of payment.source row + 1) (charged_at payment fair)
          ∙ left_one payment.source (is_runner runner payment.payer) t (get_or rows payment.payer blank_row) (All-get_or (Kept t) rows payment.payer blank_row fair.inside kept) fair.able)
      by_place false is e = absurd (false≢true e)

-- the payer's deadline after the charge: a new one if it is recharged to be stolen from, else its own
abbrev due_for : Bool → Bool → ℕ → Row → ℕ
due_for theft here t row = cond (theft && (here && leb row.account.deadline t)) (t + row.terms.period) row.account.deadline

due_one : (source : Source) (t : ℕ) (row : Row) → (charged_for source t row).account.deadline ≡ due_for (is_stolen source) true t row
due_one Own t _ = refl
due_one Residual t _ = refl
due_one Stolen t row = by_lateness (leb row.account.deadline t)
  where
    by_lateness : (late : Bool) → (cond late (recharged t row) row).account.deadline ≡ cond late (t + row.terms.period) row.account.deadline
    by_lateness true = refl
    by_lateness false = refl
due_one Idle t _ = refl
due_one Empty t _ = refl

due_at : (t : ℕ) (rows : List Row) (runner : Option ℕ) (payment : Payment) → FairPay t rows runner payment → (k : ℕ) → eqb payment.payer k ≡ true
    → payer_deadline (Some payment) (paid t (Some payment) rows) ≡ due_for (is_stolen payment.source) (eqb payment.payer k) t (get_or rows k blank_row)
due_at t rows runner payment fair k is =
    ap (λ (row : Row). row.account.deadline) (charged_at t rows runner payment fair)
    ∙ due_one payment.source t (get_or rows payment.payer blank_row)
    ∙ ap (λ (n : ℕ). due_for (is_stolen payment.source) true t (get_or rows n blank_row)) (eqb-true payment.payer k is)
    ∙ ap (λ (here : Bool). due_for (is_stolen payment.source) here t (get_or rows k blank_row)) (sym is)

pub due_of : {R : Type 0} (state after : State R) (finished : Bool) (runner : Option ℕ) (k : ℕ) (payment : Option Payment) → Fair state.instant state.rows runner payment → k < nobody → pays k (granted state after finished runner payment) ≡ true
    → payer_deadline payment (paid state.instant payment state.rows) ≡ cond (renewed_for_theft k (granted state after finished runner payment)) (state.instant + (row_of k state).terms.period) (row_of k state).account.deadline
due_of state after finished runner k None fair some is = absurd (omega (arith, eqb-true nobody k is))
due_of state after finished runner k (Some payment) fair some is = due_at state.instant state.rows runner payment fair k is

-- a runner that is answered is in the table
pub runner_inside : (choice : Choice) (t : ℕ) (rows : List Row) (runner : Option ℕ) → RunnerStands choice t rows runner → (i : ℕ) → eqb (runner_number runner) i ≡ true → (i ≡ nobody → ⊥) → i < length rows
runner_inside choice t rows None stands i is other = absurd (other (sym (eqb-true nobody i is)))
runner_inside choice t rows (Some k) stands i is other = subst (λ (n : ℕ). n < length rows) (eqb-true k i is) stands.0

-- a runner has one payer, charged under a deadline no later than its own
abbrev OnePays : ℕ → List Row → Option Payment → ℕ → Type 0
OnePays t rows payment i =
    (payer_deadline payment (paid t payment rows) ≤ (get_or rows i blank_row).account.deadline)
    × ((k : ℕ) × (k < length rows) × (eqb (payer_number payment) k ≡ true) × ((j : ℕ) → eqb (payer_number payment) j ≡ true → j ≡ k))

pub one_payer : (t : ℕ) (rows : List Row) (runner : Option ℕ) (payment : Option Payment) → Fair t rows runner payment → is_some payment ≡ true → (i : ℕ) → is_runner runner i ≡ true → OnePays t rows payment i
one_payer t rows None payment fair some i is = absurd (false≢true is)
one_payer t rows (Some r) None fair some i is = absurd (false≢true some)
one_payer t rows (Some r) (Some payment) fair some i is =
    let p = payment.payer in
    subst (OnePays t rows (Some payment)) (eqb-true r i is)
    (omega (arith, ap (λ (row : Row). row.account.deadline) (charged_at t rows (Some r) payment fair), fair.soon), (p, fair.inside, eq-eqb p p refl, λ j e. sym (eqb-true p j e)))

pub somebody_pays : (choice : Choice) (t : ℕ) (rows : List Row) (runner : Option ℕ) → RunnerStands choice t rows runner → (i : ℕ) → is_runner runner i ≡ true → is_some (payment_of choice t rows runner) ≡ true
somebody_pays choice t rows None stands i is = absurd (false≢true is)
somebody_pays choice t rows (Some k) stands i is = stands.2
