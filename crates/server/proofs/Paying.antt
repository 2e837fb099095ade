-- Who pays in a tick, and that nothing urgent is passed over.
use Rattle.std.proofs.Common.{◌≡◌, ℕ, suc, ◌<◌, ◌≤◌, Bool, true, false, cond, eqb, ltb, leb, List, [], ◌∷◌, length, get_or, is_some, Some, None, Option, sym, refl, ap, ◌∙◌, subst, ⊎_elim, le_refl, arith}
use Rattle.std.specs.List.{AllByRecursion}
use Rattle.std.proofs.ByRecursion.{All-get_or, All-from_get_or, All-weaker}
use Rattle.std.proofs.lemmas.Bool.{cases_lt, cases_eq, both_ways, and_parts, and_from, le-leb, lt-ltb, leb-true, ltb-true, eq-eqb, false≢true}
use Rattle.earliest.specs.Earliest.{ComesFirst, IsEarliest}
use Rattle.earliest.proofs.First.{is_earliest}
use Rattle.donor.specs.declared.offer.Offer.{Offer}
use Rattle.donor.specs.Rules.{blank_offer}
use Rattle.server.specs.declared.row.Row.{Row}
use Rattle.server.specs.declared.turn.Payment.{Payment}
use Rattle.server.specs.declared.turn.Source.{Source}
use Rattle.server.specs.declared.turn.Source.TheVariants.{Own, Residual, Stolen, Idle, Empty}
use Rattle.server.specs.Turn.{Choice, blank_row, is_at_work, supplies, supplies_by, earliest_row, offer_of, join_offer, offers_to, or_else, from_residual, from_own, stolen_from, from_theft, payment_for, can_run, runner_of, idle_payment, payment_of}
use Rattle.server.specs.Tick.{charged_for}
use Rattle.server.specs.Demand.{Kept, Sound, Inside}
use Rattle.server.proofs.Passing.{Quiet, by_phase}
use Rattle.server.proofs.Steps.{Pays, CanBeRobbed, Robbed, pays_residual, pays_own, robbed}

-- the row in a place, and the earliest row that a mark holds of
abbrev at : List Row → ℕ → Row
at rows i = get_or rows i blank_row

abbrev First : (Row → Bool) → List Row → ℕ → Type 0
First takes rows k = ComesFirst (λ (row : Row). row.account.deadline) (λ (row : Row). row.number) takes rows k

abbrev Earliest : (Row → Bool) → List Row → Option ℕ → Type 0
Earliest takes rows o = IsEarliest (λ (row : Row). row.account.deadline) (λ (row : Row). row.number) takes rows o

earliest_of_lem : (takes : Row → Bool) (rows : List Row) → Earliest takes rows (earliest_row takes rows)
earliest_of_lem takes rows = is_earliest (λ (row : Row). row.account.deadline) (λ (row : Row). row.number) takes rows

-- where every live row with something left is due after the horizon, all is quiet
quiet_from : (t X : ℕ) (row : Row) → Kept t row → (is_at_work row.phase ≡ true → 0 < row.account.capacity → X < row.account.deadline) → (supplies row ≡ true → X < row.account.deadline) → Quiet X row
quiet_from t X =
    by_phase (λ row. Kept t row → (is_at_work row.phase ≡ true → 0 < row.account.capacity → X < row.account.deadline) → (supplies row ≡ true → X < row.account.deadline) → Quiet X row)
    (λ row _ _ _. tt)
    (λ row kept work _ due. ⊎_elim (λ (h : 0 < row.account.capacity). absurd (omega (arith, work refl h))) (λ (h : row.account.capacity ≤ 0). omega arith) (cases_lt 0 row.account.capacity))
    (λ row kept _ supply due. ⊎_elim (λ (h : 0 < row.account.residual). absurd (omega (arith, supply (lt-ltb 0 row.account.residual h)))) (λ (h : row.account.residual ≤ 0). omega arith) (cases_lt 0 row.account.residual))

-- the earliest is due no later than any other that takes part
first_le : (takes : Row → Bool) (rows : List Row) (k i : ℕ) → First takes rows k → i < length rows → takes (at rows i) ≡ true → (at rows k).account.deadline ≤ (at rows i).account.deadline
first_le takes rows k i first inside part =
    ⊎_elim
    (λ (e : i ≡ k). omega (arith, ap (λ (n : ℕ). (at rows n).account.deadline) e))
    (λ (ne : i ≡ k → ⊥). let before = first.2 i blank_row inside ne part in grind arith)
    (cases_eq i k)

-- a source that is there, first or later
some_first : {X : Type 0} (o other : Option X) → is_some o ≡ true → is_some (or_else o other) ≡ true
some_first None other e = absurd (false≢true e)
some_first (Some x) other e = refl

some_later : {X : Type 0} (o other : Option X) → is_some other ≡ true → is_some (or_else o other) ≡ true
some_later None other e = e
some_later (Some x) other e = refl

own_some : (row : Row) → 0 < row.account.capacity → is_some (from_own row) ≡ true
own_some row some = rw (lt-ltb 0 row.account.capacity some) refl

-- an offer is made by a row of the table
abbrev FromRow : ℕ → ℕ → List Row → Offer → Type 0
FromRow t D rows offer = (q : ℕ) × (q < length rows) × Robbed t D (at rows q) (charged_for Stolen t (at rows q)) offer

offers_from : (t D : ℕ) (rows : List Row) → AllByRecursion (Kept t) rows → AllByRecursion (FromRow t D rows) (offers_to t D rows)
offers_from t D [] _ = tt
offers_from t D (row ∷ rows) (kept, others) = joins (offer_of t D row) refl (All-weaker (FromRow t D rows) (FromRow t D (row ∷ rows)) (λ offer from. (suc from.0, omega (arith, from.1), from.2)) (offers_to t D rows) (offers_from t D rows others))
  where
    joins : (o : Option Offer) → offer_of t D row ≡ o → AllByRecursion (FromRow t D (row ∷ rows)) (offers_to t D rows) → AllByRecursion (FromRow t D (row ∷ rows)) (join_offer o (offers_to t D rows))
    joins None is rest = rest
    joins (Some offer) is rest = ((0, omega arith, robbed t D row offer kept is), rest)

-- whether a server runs
abbrev pub is_runner : Option ℕ → ℕ → Bool
is_runner None k = false
is_runner (Some j) k = eqb j k

-- what a source asks of its payer: the own capacity is the runner's, and nobody pays from no source
abbrev pub CanPay : Source → Bool → ℕ → Row → Type 0
CanPay Own runs t row = (runs ≡ true) × (is_at_work row.phase ≡ true) × (0 < row.account.capacity)
CanPay Residual runs t row = supplies row ≡ true
CanPay Stolen runs t row = CanBeRobbed row.phase t row
CanPay Idle runs t row = supplies row ≡ true
CanPay Empty runs t row = ⊥

-- no later than the runner's deadline, if somebody runs
abbrev pub BeforeRunner : Option ℕ → List Row → ℕ → Type 0
BeforeRunner None rows d = Unit {0}
BeforeRunner (Some k) rows d = d ≤ (at rows k).account.deadline

-- a payment under the deadline e: the payer's demand falls by one, and before e all is quiet; the payer has what
-- its source asks for, and is charged under a deadline no later than the runner's
pub record FairPay (t : ℕ) (rows : List Row) (runner : Option ℕ) (payment : Payment) : Type 0 where
  pub e : ℕ
  pub inside : payment.payer < length rows
  pub pays : Pays t e (at rows payment.payer) (charged_for payment.source t (at rows payment.payer))
  pub calm : (X : ℕ) → X < e → AllByRecursion (Quiet X) rows
  pub able : CanPay payment.source (is_runner runner payment.payer) t (at rows payment.payer)
  pub soon : BeforeRunner runner rows (charged_for payment.source t (at rows payment.payer)).account.deadline

abbrev pub Fair : ℕ → List Row → Option ℕ → Option Payment → Type 0
Fair t rows runner None = (X : ℕ) → AllByRecursion (Quiet X) rows
Fair t rows runner (Some payment) = FairPay t rows runner payment

-- a payment that is fair if somebody pays
abbrev FairIfSome : ℕ → List Row → Option ℕ → Option Payment → Type 0
FairIfSome t rows runner payment = is_some payment ≡ true → Fair t rows runner payment

-- a runner is in the table and at work, and somebody pays for it
abbrev pub RunnerStands : Choice → ℕ → List Row → Option ℕ → Type 0
RunnerStands choice t rows None = Unit {0}
RunnerStands choice t rows (Some k) = (k < length rows) × (is_at_work (at rows k).phase ≡ true) × (is_some (payment_for choice t rows (at rows k)) ≡ true)

abbrev own_if : Bool → Row → Option Payment
own_if own row = cond own (Some (record { payer = row.number; source = Own })) None

module _ (choice : Choice) (t : ℕ) (rows : List Row) (inside : Inside choice) (sound : Sound t rows) where
  kept_at : (i : ℕ) → i < length rows → Kept t (at rows i)
  kept_at i h = All-get_or (Kept t) rows i blank_row h sound.kept

  -- each row at work with a capacity of its own, and each row that supplies, is due after the horizon
  abbrev WorkAfter : ℕ → ℕ → Type 0
  WorkAfter X i = is_at_work (at rows i).phase ≡ true → 0 < (at rows i).account.capacity → X < (at rows i).account.deadline

  abbrev SupplyAfter : ℕ → ℕ → Type 0
  SupplyAfter X i = supplies (at rows i) ≡ true → X < (at rows i).account.deadline

  -- then all is quiet
  all_quiet : (X : ℕ) → ((i : ℕ) → i < length rows → WorkAfter X i) → ((i : ℕ) → i < length rows → SupplyAfter X i) → AllByRecursion (Quiet X) rows
  all_quiet X work supply = All-from_get_or (Quiet X) rows blank_row (λ i h. quiet_from t X (at rows i) (kept_at i h) (work i h) (supply i h))

  -- a row at work with a capacity of its own can run
  can_run_lem : (row : Row) → is_at_work row.phase ≡ true → 0 < row.account.capacity → can_run choice t rows row ≡ true
  can_run_lem row work some =
      let theft = from_theft choice row.number (offers_to t row.account.deadline rows) in
      and_from (is_at_work row.phase) (is_some (payment_for choice t rows row)) work
      (some_later (from_residual (earliest_row (supplies_by row.account.deadline) rows)) (or_else (from_own row) theft) (some_first (from_own row) theft (own_some row some)))

  -- idle time
  nobody : AllByRecursion (λ row. can_run choice t rows row ≡ false) rows → (X i : ℕ) → i < length rows → WorkAfter X i
  nobody still X i h work some = absurd (both_ways (can_run choice t rows (at rows i)) (All-get_or (λ row. can_run choice t rows row ≡ false) rows i blank_row h still) (can_run_lem (at rows i) work some))

  fair_idle : AllByRecursion (λ row. can_run choice t rows row ≡ false) rows → (o : Option ℕ) → Earliest supplies rows o → Fair t rows None (idle_payment o)
  fair_idle still None none = λ X. all_quiet X (nobody still X) (λ i h s. absurd (both_ways (supplies (at rows i)) (All-get_or (λ row. supplies row ≡ false) rows i blank_row h none) s))
  fair_idle still (Some p) first =
      record {
        e = (at rows p).account.deadline;
        inside = first.0;
        pays = pays_residual t (at rows p) (kept_at p first.0) (first.1 blank_row);
        calm = λ X h. all_quiet X (nobody still X) (λ i g s. omega (arith, first_le supplies rows p i first g s));
        able = first.1 blank_row;
        soon = tt;
      }

  -- a runner
  module _ (k : ℕ) (first : First (can_run choice t rows) rows k) where
    D : ℕ
    D = (at rows k).account.deadline

    at_work : is_at_work (at rows k).phase ≡ true
    at_work = (and_parts (is_at_work (at rows k).phase) (is_some (payment_for choice t rows (at rows k))) (first.1 blank_row)).0

    -- no row at work with a capacity is due before the runner
    workers : (i : ℕ) → i < length rows → is_at_work (at rows i).phase ≡ true → 0 < (at rows i).account.capacity → D ≤ (at rows i).account.deadline
    unfolding D
    workers i h work some = first_le (can_run choice t rows) rows k i first h (can_run_lem (at rows i) work some)

    supplies_by_lem : (X i : ℕ) → X < D → supplies (at rows i) ≡ true → (supplies_by D (at rows i) ≡ true → X < (at rows i).account.deadline) → X < (at rows i).account.deadline
    supplies_by_lem X i h s then =
        ⊎_elim (λ (g : X < (at rows i).account.deadline). g)
        (λ (g : (at rows i).account.deadline ≤ X). then (and_from (supplies (at rows i)) (leb (at rows i).account.deadline D) s (le-leb (at rows i).account.deadline D (omega arith))))
        (cases_lt X (at rows i).account.deadline)

    fair_residual : (p : ℕ) → First (supplies_by D) rows p → FairPay t rows (Some k) (record { payer = p; source = Residual })
    unfolding D
    fair_residual p found =
        let row = at rows p in
        let both = and_parts (supplies row) (leb row.account.deadline D) (found.1 blank_row) in
        let soon : row.account.deadline ≤ D = leb-true row.account.deadline D both.1 in
        record {
          e = row.account.deadline;
          inside = found.0;
          pays = pays_residual t row (kept_at p found.0) both.0;
          calm = λ X h. all_quiet X (λ i g work some. omega (arith, workers i g work some)) (λ i g s. supplies_by_lem X i (omega arith) s (λ part. omega (arith, first_le (supplies_by D) rows p i found g part)));
          able = both.0;
          soon = soon;
        }

    module _ (dry : AllByRecursion (λ row. supplies_by D row ≡ false) rows) where
      calm_late : (X : ℕ) → X < D → AllByRecursion (Quiet X) rows
      calm_late X h =
          all_quiet X (λ i g work some. omega (arith, workers i g work some))
          (λ i g s. supplies_by_lem X i h s (λ part. absurd (both_ways (supplies_by D (at rows i)) (All-get_or (λ row. supplies_by D row ≡ false) rows i blank_row g dry) part)))

      fair_own : 0 < (at rows k).account.capacity → FairPay t rows (Some k) (record { payer = (at rows k).number; source = Own })
      unfolding D
      fair_own some =
          subst (λ (n : ℕ). FairPay t rows (Some k) (record { payer = n; source = Own })) (sym (sound.placed k first.0))
          (record { e = D; inside = first.0; pays = pays_own t (at rows k) (kept_at k first.0) at_work some; calm = calm_late; able = (eq-eqb k k refl, at_work, some); soon = le_refl _ })

      fair_stolen : (offer : Offer) → FromRow t D rows offer → FairPay t rows (Some k) (record { payer = offer.server; source = Stolen })
      unfolding D
      fair_stolen offer (q, within, from) =
          subst (λ (n : ℕ). FairPay t rows (Some k) (record { payer = n; source = Stolen })) (sym (from.server ∙ sound.placed q within))
          (record { e = offer.deadline; inside = within; pays = from.pays; calm = λ X h. calm_late X (omega (arith, from.in_time)); able = from.able; soon = omega (arith, from.due, from.in_time) })

      fair_theft : (thief : ℕ) (offers : List Offer) → AllByRecursion (FromRow t D rows) offers → FairIfSome t rows (Some k) (from_theft choice thief offers)
      fair_theft thief [] _ e = absurd (false≢true e)
      fair_theft thief (offer ∷ offers) from e = chosen (choice thief (offer ∷ offers)) refl e
        where
          chosen : (o : Option ℕ) → choice thief (offer ∷ offers) ≡ o → FairIfSome t rows (Some k) (stolen_from (offer ∷ offers) o)
          chosen None is e = absurd (false≢true e)
          chosen (Some j) is e = fair_stolen (get_or (offer ∷ offers) j blank_offer) (All-get_or (FromRow t D rows) (offer ∷ offers) j blank_offer (inside thief (offer ∷ offers) j is) from)

      fair_own_or_theft : (own : Bool) → ltb 0 (at rows k).account.capacity ≡ own → (theft : Option Payment) → FairIfSome t rows (Some k) theft → FairIfSome t rows (Some k) (or_else (own_if own (at rows k)) theft)
      fair_own_or_theft true is theft fair e = fair_own (ltb-true 0 (at rows k).account.capacity is)
      fair_own_or_theft false is theft fair e = fair e

    fair_sources : (o : Option ℕ) → Earliest (supplies_by D) rows o → (thief : ℕ) → FairIfSome t rows (Some k) (or_else (from_residual o) (or_else (from_own (at rows k)) (from_theft choice thief (offers_to t D rows))))
    fair_sources (Some p) found thief e = fair_residual p found
    fair_sources None dry thief e =
        fair_own_or_theft dry (ltb 0 (at rows k).account.capacity) refl (from_theft choice thief (offers_to t D rows))
        (fair_theft dry thief (offers_to t D rows) (offers_from t D rows sound.kept)) e

    fair_runner : Fair t rows (Some k) (payment_for choice t rows (at rows k))
    unfolding D
    fair_runner =
        fair_sources (earliest_row (supplies_by D) rows) (earliest_of_lem (supplies_by D) rows) (at rows k).number
        (and_parts (is_at_work (at rows k).phase) (is_some (payment_for choice t rows (at rows k))) (first.1 blank_row)).1

  fair_turn : (o : Option ℕ) → Earliest (can_run choice t rows) rows o → Fair t rows o (payment_of choice t rows o)
  fair_turn None still = fair_idle still (earliest_row supplies rows) (earliest_of_lem supplies rows)
  fair_turn (Some k) first = fair_runner k first

  pub fair : Fair t rows (runner_of choice t rows) (payment_of choice t rows (runner_of choice t rows))
  fair = fair_turn (runner_of choice t rows) (earliest_of_lem (can_run choice t rows) rows)

  stands_turn : (o : Option ℕ) → Earliest (can_run choice t rows) rows o → RunnerStands choice t rows o
  stands_turn None still = tt
  stands_turn (Some k) first = let both = and_parts (is_at_work (at rows k).phase) (is_some (payment_for choice t rows (at rows k))) (first.1 blank_row) in (first.0, both.0, both.1)

  pub runner_stands : RunnerStands choice t rows (runner_of choice t rows)
  runner_stands = stands_turn (runner_of choice t rows) (earliest_of_lem (can_run choice t rows) rows)
