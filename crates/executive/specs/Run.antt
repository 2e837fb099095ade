-- A run: what an executive heard, what it answered, and how it stood before and after each call. And the words
-- in which the law of shares speaks of a run.
use Rattle.std.specs.Prelude.{◌≡◌, ℕ, suc, ◌+◌, ◌<◌, ◌≤◌, Bool, true, false, cond, ◌&&◌, ◌⊎◌, List, [], ◌∷◌, is_some, Some, None, Ok, Err, count_by, Option, Result, ◌≢◌, nat_eq, nat_le, nat_lt, slice_index_or}
use Rattle.std.specs.List.{ContainsAt as Has}
use Rattle.server.specs.declared.row.Phase.TheVariants.{Resting, AtWork}
use Rattle.server.specs.declared.row.Row.{Row}
use Rattle.server.specs.declared.turn.Source.{Source}
use Rattle.server.specs.declared.turn.Source.TheVariants.{Own, Residual, Stolen, Idle, Empty}
use Rattle.server.specs.Row.{share_left}
use Rattle.server.specs.Turn.{blank_row}
use Rattle.executive.specs.declared.fault.CallFault.{CallFault}
pub use Rattle.executive.specs.Calls.{RuleChoice, RuleStep}
use Rattle.executive.specs.Calls.{State, Who, Ticked, arrive_answer, after_arrive, who_of, tick_of, ticked_by}

-- what an executive can hear, with any arguments
pub data Call : Type 0 where
  arrive : ℕ → Call
  who : Call
  tick : Bool → Call

-- what it answers
pub data Answer : Type 0 where
  arrived : Result (Unit {0}) CallFault → Answer
  shown : Who → Answer
  passed : Result Ticked CallFault → Answer

-- one call of a run
pub record Entry (R : Type 0) : Type 0 where
  pub before : State R
  pub call : Call
  pub answer : Answer
  pub after : State R

module _ {R : Type 0} (choice : RuleChoice R) (step : RuleStep R) where
  -- what each call answers and leaves, as its contract promises
  abbrev pub answer_to : State R → Call → Answer
  answer_to state (arrive server) = arrived (arrive_answer state.rows server)
  answer_to state who = shown (who_of choice state)
  answer_to state (tick finished) = passed (tick_of choice state finished)

  abbrev pub after_call : State R → Call → State R
  after_call state (arrive server) = after_arrive state server
  after_call state who = state
  after_call state (tick finished) = ticked_by choice step state finished

  abbrev pub entry_of : State R → Call → Entry R
  entry_of state call = record { before = state; call = call; answer = answer_to state call; after = after_call state call }

  -- the run of a list of calls: each finds the executive as the call before it left it
  abbrev pub run_from : State R → List Call → List (Entry R)
  run_from state [] = []
  run_from state (call ∷ calls) = entry_of state call ∷ run_from (after_call state call) calls

-- The words. A server's row in a state.
abbrev pub row_of : {R : Type 0} → ℕ → State R → Row
row_of k state = slice_index_or state.rows k blank_row

-- what a row holds: its own capacity and what it supplies
abbrev pub holds : Row → ℕ
holds row = row.account.capacity + row.account.residual

-- the parts of what a tick answers
abbrev pub runner_in : Ticked → ℕ
runner_in answer = answer.0

abbrev pub payer_in : Ticked → ℕ
payer_in answer = answer.1

abbrev pub is_stolen : Source → Bool
is_stolen Own = false
is_stolen Residual = false
is_stolen Stolen = true
is_stolen Idle = false
is_stolen Empty = false

abbrev pub stolen_in : Ticked → Bool
stolen_in answer = is_stolen answer.2

-- what a granted tick answered; a refused call is no tick
abbrev pub granted_of : Answer → Option Ticked
granted_of (arrived answer) = None
granted_of (shown answer) = None
granted_of (passed (Ok answer)) = Some answer
granted_of (passed (Err fault)) = None

abbrev pub read_or : {X : Type 0} → (Ticked → X) → X → Option Ticked → X
read_or read none None = none
read_or read none (Some answer) = read answer

module _ {R : Type 0} where
  abbrev pub is_tick : Entry R → Bool
  is_tick e = is_some (granted_of e.answer)

  -- it is a tick at one of the instants s to u − 1: a tick bears the instant at which it is called
  abbrev pub is_tick_in : ℕ → ℕ → Entry R → Bool
  is_tick_in s u e = is_tick e && (nat_le s e.before.instant && nat_lt e.before.instant u)

  -- how many of the ticks s to u − 1 are of a kind
  abbrev pub ticks_in : ℕ → ℕ → (Entry R → Bool) → List (Entry R) → ℕ
  ticks_in s u kind run = count_by (λ e. is_tick_in s u e && kind e) run

  -- a server runs in a tick that answers it as runner, and pays in one that answers it as payer
  abbrev pub runs : ℕ → Entry R → Bool
  runs k e = read_or (λ answer. nat_eq (runner_in answer) k) false (granted_of e.answer)

  abbrev pub pays : ℕ → Entry R → Bool
  pays k e = read_or (λ answer. nat_eq (payer_in answer) k) false (granted_of e.answer)

  abbrev pub paid_by : ℕ → Entry R → ℕ
  paid_by k e = cond (pays k e) 1 0

  -- the payer's deadline and what is left of the capacity charged, as the tick answered them
  abbrev pub deadline_in : Entry R → ℕ
  deadline_in e = read_or (λ answer. answer.3) 0 (granted_of e.answer)

  abbrev pub left_in : Entry R → ℕ
  left_in e = read_or (λ answer. answer.4) 0 (granted_of e.answer)

  -- server k is recharged to be stolen from: it pays for a stolen tick, and its deadline has come
  abbrev pub renewed_for_theft : ℕ → Entry R → Bool
  renewed_for_theft k e = read_or stolen_in false (granted_of e.answer) && (pays k e && nat_le (row_of k e.before).account.deadline e.before.instant)

  -- what server k, of budget Q, has for a tick: what it holds, or its budget if it is recharged to be stolen from
  abbrev pub available : ℕ → ℕ → Entry R → ℕ
  available k Q e = cond (renewed_for_theft k e) Q (holds (row_of k e.before))

  -- its deadline comes with the tick
  abbrev pub DeadlineComes : ℕ → Entry R → Type 0
  DeadlineComes k e = (row_of k e.before).account.deadline ≡ suc e.before.instant

  -- it rests with its deadline still to come, and was cut to its share up to there
  abbrev pub WasCut : ℕ → Entry R → Type 0
  WasCut k e =
      ((row_of k e.after).phase ≡ Resting)
      × (suc e.before.instant ≤ (row_of k e.after).account.deadline)
      × (holds (row_of k e.after) ≡ share_left (suc e.before.instant) (row_of k e.after))

  -- the call recharges server k, of period T, at instant s: it sets its deadline anew, to s + T
  abbrev pub RechargedBy : ℕ → ℕ → ℕ → Entry R → Type 0
  RechargedBy k T s e =
      ((row_of k e.after).account.deadline ≡ s + T)
      × ((row_of k e.after).account.deadline ≢ (row_of k e.before).account.deadline)

  -- a call of the run does
  abbrev pub Recharged : ℕ → ℕ → ℕ → List (Entry R) → Type 0
  Recharged k T s run = (e : Entry R) × (Has run e) × RechargedBy k T s e

  -- none does at an instant after s and before u
  abbrev pub NoRechargeBetween : ℕ → ℕ → ℕ → ℕ → List (Entry R) → Type 0
  NoRechargeBetween k T s u run = (v : ℕ) (e : Entry R) → Has run e → RechargedBy k T v e → s < v → v < u → ⊥

  -- server k is at work at each of the ticks s to u − 1, and each of them is in the run
  abbrev pub WorksThrough : ℕ → ℕ → ℕ → List (Entry R) → Type 0
  WorksThrough k s u run =
      (v : ℕ) → s ≤ v → v < u → (e : Entry R) × (Has run e) × (is_tick e ≡ true) × (e.before.instant ≡ v) × ((row_of k e.before).phase ≡ AtWork)

  -- the call f comes after the call e
  abbrev pub Follows : List (Entry R) → Entry R → Entry R → Type 0
  Follows [] e f = ⊥
  Follows (first ∷ run) e f = ((first ≡ e) × Has run f) ⊎ Follows run e f
