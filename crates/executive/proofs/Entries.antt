-- One call on an executive that keeps its bound: what it keeps, what it does to each row, and what it answers.
use Rattle.std.proofs.Common.{◌≡◌, ℕ, suc, ◌+◌, ◌<◌, ◌≤◌, Bool, true, false, cond, eqb, List, map, length, get_or, is_some, Some, None, Ok, Err, Option, Result, sym, refl, ap, ◌∙◌, subst, inl, inr, ⊎_elim, arith}
use Rattle.std.proofs.lemmas.List.{length-map, get_or-map}
use Rattle.std.proofs.ByRecursion.{All-get_or}
use Rattle.std.proofs.lemmas.Bool.{both_ways, false≢true}
use Rattle.plan.specs.declared.terms.Terms.{Terms}
use Rattle.plan.specs.Terms.{blank}
use Rattle.server.specs.declared.row.Row.{Row}
use Rattle.server.specs.declared.turn.Payment.{Payment}
use Rattle.server.specs.declared.turn.Source.{Source}
use Rattle.server.specs.Turn.{Choice, blank_row, runner_of}
use Rattle.server.specs.Tick.{paid, ticked}
use Rattle.server.specs.Demand.{Kept, Sound, Inside}
use Rattle.server.proofs.Bound.{arrival_keeps, tick_keeps}
use Rattle.server.proofs.Paying.{is_runner, Fair, fair, RunnerStands, runner_stands}
use Rattle.server.proofs.Rows.{source_at, arrival_same, tick_same, few_rows}
use Rattle.server.proofs.Turns.{count, held, had, ahead, Heard, unheard, heard_at, isolated_pays, payer_can_pay, Turned, turned}
use Rattle.executive.specs.declared.fault.CallFault.{CallFault}
use Rattle.executive.specs.Calls.{State, Ticked, nobody, payment_at, payer_deadline, answer_unless, left_unless, arrival_refusal, tick_refusal}
use Rattle.executive.specs.Run.{Entry, Call, arrive, who, tick, Answer, arrived, passed, granted_of, read_or, row_of, runs, pays, deadline_in, renewed_for_theft, available, RuleChoice, RuleStep, after_call, entry_of}
use Rattle.executive.specs.Shares.{OnePayer, Isolation, Accounts}
use Rattle.executive.proofs.Moves.{Moves}
use Rattle.executive.proofs.Granted.{granted, runs_at, pays_at, has_at, left_at, due_of, runner_inside, one_payer, somebody_pays}

-- what every executive of these terms keeps
pub record Good {R : Type 0} (terms : List Terms) (state : State R) : Type 0 where
  pub sound : Sound state.instant state.rows
  pub same : map (λ (row : Row). row.terms) state.rows ≡ terms

same_length : {R : Type 0} {terms : List Terms} (state : State R) → Good terms state → length state.rows ≡ length terms
same_length state good = sym (length-map state.rows (λ (row : Row). row.terms)) ∙ ap length good.same

-- a call is granted, or refused and leaves all as it was
unless : {A S : Type 0} (P : Result A CallFault → S → Type 0) (refusal : Option CallFault) (answer : A) (before after : S) → P (Ok answer) after → ((fault : CallFault) → P (Err fault) before) → P (answer_unless refusal answer) (left_unless refusal before after)
unless P None answer before after grants refuses = grants
unless P (Some fault) answer before after grants refuses = refuses fault

-- one server of a plan, in an executive of its terms
module _ {R : Type 0} (terms : List Terms) (k : ℕ) (here : k < length terms) (state : State R) (good : Good terms state) where
  abbrev t : ℕ
  t = state.instant

  abbrev row : Row
  row = row_of k state

  abbrev its : Terms
  its = get_or terms k blank

  within : k < length state.rows
  within = omega (arith, same_length state good)

  same_terms : row.terms ≡ its
  same_terms = sym (get_or-map (λ (row : Row). row.terms) state.rows k blank_row blank within) ∙ ap (λ (terms : List Terms). get_or terms k blank) good.same

  kept : Kept t row
  kept = All-get_or (Kept t) state.rows k blank_row within good.sound.kept

  -- no server has the number of nobody
  somebody : k < nobody
  somebody = omega (arith, within, few_rows t state.rows good.sound)

  -- a call that is no tick
  stands_still : (call : Call) (answer : Answer) (after : State R) → granted_of answer ≡ None → after.instant ≡ t → Heard row.terms.budget row.terms.period t row (row_of k after) → Moves k its.budget its.period (record { before = state; call = call; answer = answer; after = after })
  stands_still call answer after none still heard =
      let hears = subst (λ (terms : Terms). Heard terms.budget terms.period t row (row_of k after)) same_terms heard in
      let unpaid = ap (λ (o : Option Ticked). count (read_or (λ answer. eqb answer.1 k) false o)) none in
      record {
        still = λ _. still;
        ticks = λ is. absurd (both_ways (is_some (granted_of answer)) (ap is_some none) is);
        way = ⊎_elim
            (λ stays. inl (stays.0, omega (arith, stays.1, unpaid)))
            (λ new. inr (inl (omega (arith, new.0, still), new.1 ∙ ap (λ (n : ℕ). n + its.period) (sym still), new.2, new.3, new.4, omega (arith, unpaid))))
            hears.way;
        alive = ahead t row kept;
        work_still = λ at_work _. hears.work at_work;
        work_ticks = λ _ is. absurd (both_ways (is_some (granted_of answer)) (ap is_some none) is);
        supply_still = λ supplies _. hears.supply supplies;
      }

  -- and one that leaves all as it was
  refused : (call : Call) (answer : Answer) → granted_of answer ≡ None → Moves k its.budget its.period (record { before = state; call = call; answer = answer; after = state })
  refused call answer none = stands_still call answer state none refl (unheard row.terms.budget row.terms.period t row)

module _ {R : Type 0} (choice : RuleChoice R) (step : RuleStep R) (inside : (rule : R) (t : ℕ) → Inside (choice rule t)) (terms : List Terms) where
  pub keeps : (state : State R) (call : Call) → Good terms state → Good terms (after_call choice step state call)
  keeps state (arrive server) good =
      unless (λ _ after. Good terms after) (arrival_refusal state.rows server) (tt {0}) state _
      (record { sound = arrival_keeps state.instant server state.rows good.sound; same = arrival_same state.instant server state.rows ∙ good.same })
      (λ _. good)
  keeps state who good = good
  keeps state (tick finished) good =
      let t = state.instant in
      unless (λ _ after. Good terms after) (tick_refusal (choice state.rule t) t state.rows finished) (tt {0}) state _
      (record { sound = tick_keeps (choice state.rule t) t finished state.rows (inside state.rule t) good.sound; same = tick_same (choice state.rule t) t finished state.rows ∙ good.same })
      (λ _. good)

  -- a tick that is granted, whatever the rule is told of it
  module _ (state : State R) (finished : Bool) (told : R) where
    abbrev now : ℕ
    now = state.instant

    abbrev chooses : Choice
    chooses = choice state.rule now

    abbrev runner : Option ℕ
    runner = runner_of chooses now state.rows

    abbrev payment : Option Payment
    payment = payment_at chooses now state.rows

    abbrev ticked_on : Entry R
    ticked_on = granted state (record { instant = suc now; rows = ticked chooses now finished state.rows; rule = told }) finished runner payment

    module _ (good : Good terms state) where
      pays_fairly : Fair now state.rows runner payment
      pays_fairly = fair chooses now state.rows (inside state.rule now) good.sound

      stands : RunnerStands chooses now state.rows runner
      stands = runner_stands chooses now state.rows (inside state.rule now) good.sound

      one_pays_in : OnePayer terms ticked_on
      one_pays_in i is other =
          let here : i < length terms = omega (arith, runner_inside chooses now state.rows runner stands i is other, same_length state good) in
          let runs_it = runs_at runner i (somebody terms i here state good) ∙ is in
          let one =
          subst (λ (n : ℕ). (payer_deadline payment (paid now payment state.rows) ≤ (row_of i state).account.deadline) × ((k : ℕ) × (k < n) × (pays k ticked_on ≡ true) × ((j : ℕ) → pays j ticked_on ≡ true → j ≡ k))) (same_length state good)
          (one_payer now state.rows runner payment pays_fairly (somebody_pays chooses now state.rows runner stands i runs_it) i runs_it) in
          (here, one.0, one.1)

      module _ (k : ℕ) (here : k < length terms) where
        abbrev row_then : Row
        row_then = row_of k state

        abbrev source : Option Source
        source = source_at payment k

        some : k < nobody
        some = somebody terms k here state good

        alike : row_then.terms ≡ get_or terms k blank
        alike = same_terms terms k here state good

        had_is : had source now row_then ≡ available k (get_or terms k blank).budget ticked_on
        had_is = has_at state ticked_on.after finished runner k payment ∙ ap (λ (z : Terms). cond (renewed_for_theft k ticked_on) z.budget (held row_then)) alike

        due_in : pays k ticked_on ≡ true → deadline_in ticked_on ≡ cond (renewed_for_theft k ticked_on) (now + (get_or terms k blank).period) row_then.account.deadline
        due_in pays-it =
            due_of state ticked_on.after finished runner k payment pays_fairly some pays-it
            ∙ ap (λ (z : Terms). cond (renewed_for_theft k ticked_on) (now + z.period) row_then.account.deadline) alike

        turned_entry : Turned (pays k ticked_on) (runs k ticked_on) (available k (get_or terms k blank).budget ticked_on) (get_or terms k blank).budget (get_or terms k blank).period now row_then (row_of k ticked_on.after)
        turned_entry =
            let after = row_of k ticked_on.after in
            let its = get_or terms k blank in
            subst (λ (b : Bool). Turned b (runs k ticked_on) (available k (get_or terms k blank).budget ticked_on) its.budget its.period now row_then after) (pays_at payment k some)
            (subst (λ (b : Bool). Turned (is_some source) b (available k (get_or terms k blank).budget ticked_on) its.budget its.period now row_then after) (runs_at runner k some)
            (subst (λ (n : ℕ). Turned (is_some source) (is_runner runner k) n its.budget its.period now row_then after) had_is
            (subst (λ (z : Terms). Turned (is_some source) (is_runner runner k) (had source now row_then) z.budget z.period now row_then after) alike
            (turned chooses now finished state.rows (inside state.rule now) good.sound k (within terms k here state good)))))

        tick_moves : Moves k (get_or terms k blank).budget (get_or terms k blank).period ticked_on
        tick_moves =
            let turn = turned_entry in
            record {
              still = λ is. absurd (false≢true (sym is));
              ticks = λ _. refl;
              way = ⊎_elim inl (λ new. inr (⊎_elim inl (λ robbed. inr (refl, robbed.0, robbed.1, robbed.2, robbed.3)) new)) turn.way;
              alive = ahead now row_then (kept terms k here state good);
              work_still = λ _ is. absurd (false≢true (sym is));
              work_ticks = λ at_work _. turn.work at_work;
              supply_still = λ _ is. absurd (false≢true (sym is));
            }

      isolated_in : Isolation terms ticked_on
      isolated_in k here isolated pays-it other =
          isolated_pays (source k here) (is_runner runner k) now (row_then k here)
          (payer_can_pay chooses now finished state.rows (inside state.rule now) good.sound k (within terms k here state good))
          (pays_at payment k (some k here) ∙ pays-it) (runs_at runner k (some k here) ∙ other)
          (ap (λ (z : Terms). z.kind) (alike k here) ∙ isolated)

      accounts_in : Accounts terms ticked_on
      accounts_in k here _ = (
        (λ pays-it. (
          left_at now state.rows runner payment pays_fairly good.sound.kept k (pays_at payment k (some k here) ∙ pays-it) ∙ had_is k here,
          due_in k here pays-it,
        )),
        ⊎_elim inl (λ other. inr (⊎_elim inl (λ cut. inr ((cut.0, cut.1, cut.2), cut.3)) other)) (turned_entry k here).account,
      )

  -- what is said of a granted tick and of a refused one is said of any
  tick_unless : (P : Entry R → Type 0) (state : State R) (finished : Bool) → ((told : R) → P (ticked_on state finished told)) → ((fault : CallFault) → P (record { before = state; call = tick finished; answer = passed (Err fault); after = state })) → P (entry_of choice step state (tick finished))
  tick_unless P state finished grants refuses =
      unless (λ answer after. P (record { before = state; call = tick finished; answer = passed answer; after = after }))
      (tick_refusal (choice state.rule state.instant) state.instant state.rows finished) _ state _ (grants _) refuses

  pub moves : (k : ℕ) → k < length terms → (state : State R) (call : Call) → Good terms state → Moves k (get_or terms k blank).budget (get_or terms k blank).period (entry_of choice step state call)
  moves k here state (arrive server) good =
      unless (λ answer after. Moves k (get_or terms k blank).budget (get_or terms k blank).period (record { before = state; call = arrive server; answer = arrived answer; after = after })) (arrival_refusal state.rows server) tt state _
      (stands_still terms k here state good (arrive server) (arrived (Ok tt)) _ refl refl (heard_at state.instant server k state.rows (within terms k here state good)))
      (λ fault. refused terms k here state good (arrive server) (arrived (Err fault)) refl)
  moves k here state who good = refused terms k here state good who _ refl
  moves k here state (tick finished) good =
      tick_unless (Moves k (get_or terms k blank).budget (get_or terms k blank).period) state finished (λ told. tick_moves state finished told good k here)
      (λ fault. refused terms k here state good (tick finished) (passed (Err fault)) refl)

  -- a call that is no tick has no runner and no payer
  pub one_pays : (state : State R) (call : Call) → Good terms state → OnePayer terms (entry_of choice step state call)
  one_pays state (arrive server) good = λ i is other. absurd (false≢true is)
  one_pays state who good = λ i is other. absurd (false≢true is)
  one_pays state (tick finished) good = tick_unless (OnePayer terms) state finished (λ told. one_pays_in state finished told good) (λ fault i is other. absurd (false≢true is))

  pub isolated_supplies : (state : State R) (call : Call) → Good terms state → Isolation terms (entry_of choice step state call)
  isolated_supplies state (arrive server) good = λ k here isolated is. absurd (false≢true is)
  isolated_supplies state who good = λ k here isolated is. absurd (false≢true is)
  isolated_supplies state (tick finished) good = tick_unless (Isolation terms) state finished (λ told. isolated_in state finished told good) (λ fault k here isolated is. absurd (false≢true is))

  pub accounts_kept : (state : State R) (call : Call) → Good terms state → Accounts terms (entry_of choice step state call)
  accounts_kept state (arrive server) good = λ k here is. absurd (false≢true is)
  accounts_kept state who good = λ k here is. absurd (false≢true is)
  accounts_kept state (tick finished) good = tick_unless (Accounts terms) state finished (λ told. accounts_in state finished told good) (λ fault k here is. absurd (false≢true is))
