-- What the calls arrive, who and tick answer, and how they leave the executive, for any donor choice.
use Rattle.std.specs.Prelude.{ℕ, suc, Bool, cond, not, ◌&&◌, List, length, get_or, is_some, Some, None, Ok, Err, Option, Result, nat_le, slice_index_or}
use Rattle.plan.specs.declared.terms.Terms.{Terms}
use Rattle.donor.specs.declared.offer.Offer.{Offer}
use Rattle.server.specs.declared.row.Row.{Row}
use Rattle.server.specs.declared.turn.Payment.{Payment}
use Rattle.server.specs.declared.turn.Source.{Source}
use Rattle.server.specs.declared.turn.Source.TheVariants.{Own, Residual, Stolen, Idle, Empty}
use Rattle.server.specs.Clock.{last_instant}
use Rattle.server.specs.Row.{most_jobs}
use Rattle.server.specs.Turn.{Choice, blank_row, runner_of, payment_of}
use Rattle.server.specs.Tick.{arrived_at, paid, ticked, fresh_rows}
use Rattle.executive.specs.declared.fault.CallFault.{CallFault}
use Rattle.executive.specs.declared.fault.CallFault.TheVariants.{NoServer, Jobs, Clock, Finish}

-- a donor rule's choice by its present state, and its next state
abbrev pub RuleChoice : Type 0 → Type 0
RuleChoice R = R → ℕ → ℕ → List Offer → Option ℕ

abbrev pub RuleStep : Type 0 → Type 0
RuleStep R = R → ℕ → ℕ → ℕ → R

-- an executive, as the calls know it: the instant, the rows of its servers, and its donor rule
pub record State (R : Type 0) : Type 0 where
  pub instant : ℕ
  pub rows : List Row
  pub rule : R

-- one that has just been made of the terms of a plan and a rule
abbrev pub fresh_state : {R : Type 0} → List Terms → R → State R
fresh_state terms rule = record { instant = 0; rows = fresh_rows 0 terms; rule = rule }

-- what a call answers that has this reason to refuse, or none
abbrev pub answer_unless : {A : Type 0} → Option CallFault → A → Result A CallFault
answer_unless None answer = Ok answer
answer_unless (Some fault) answer = Err fault

-- what it leaves: a refused call leaves all as it was
abbrev pub left_unless : {S : Type 0} → Option CallFault → S → S → S
left_unless None before after = after
left_unless (Some fault) before after = before

-- arrive: the first reason to refuse that applies, the answer, and the executive afterwards
abbrev pub arrival_refusal : List Row → ℕ → Option CallFault
arrival_refusal rows server =
    cond (nat_le (length rows) server) (Some NoServer)
    (cond (nat_le most_jobs (get_or rows server blank_row).account.jobs) (Some Jobs) None)

abbrev pub arrive_answer : List Row → ℕ → Result (Unit {0}) CallFault
arrive_answer rows server = answer_unless (arrival_refusal rows server) tt

abbrev pub after_arrive : {R : Type 0} → State R → ℕ → State R
after_arrive state server =
    left_unless (arrival_refusal state.rows server) state
    (record { instant = state.instant; rows = arrived_at state.instant server state.rows; rule = state.rule })

-- nobody, as the number of a server: no server has it
abbrev pub nobody : ℕ
nobody = 65535

-- who: the runner, the payer and the source
abbrev pub Who : Type 0
Who = ℕ × ℕ × Source

abbrev pub runner_number : Option ℕ → ℕ
runner_number None = nobody
runner_number (Some k) = k

abbrev pub payer_number : Option Payment → ℕ
payer_number None = nobody
payer_number (Some payment) = payment.payer

abbrev pub source_of : Option Payment → Source
source_of None = Empty
source_of (Some payment) = payment.source

abbrev pub who_runs : Option ℕ → Option Payment → Who
who_runs runner payment = (runner_number runner, payer_number payment, source_of payment)

-- who pays in a tick at instant t
abbrev pub payment_at : Choice → ℕ → List Row → Option Payment
payment_at choice t rows = payment_of choice t rows (runner_of choice t rows)

abbrev pub who_answer : Choice → ℕ → List Row → Who
who_answer choice t rows = who_runs (runner_of choice t rows) (payment_at choice t rows)

-- tick: what who answers, then the payer's deadline and what is left of the capacity charged, both right
-- after the charge; both are 0 where nobody pays
abbrev pub Ticked : Type 0
Ticked = ℕ × ℕ × Source × ℕ × ℕ

abbrev pub left_of : Source → Row → ℕ
left_of Own row = row.account.capacity
left_of Residual row = row.account.residual
left_of Stolen row = row.account.capacity
left_of Idle row = row.account.residual
left_of Empty row = 0

abbrev pub payer_deadline : Option Payment → List Row → ℕ
payer_deadline None rows = 0
payer_deadline (Some payment) rows = (get_or rows payment.payer blank_row).account.deadline

abbrev pub payer_left : Option Payment → List Row → ℕ
payer_left None rows = 0
payer_left (Some payment) rows = left_of payment.source (slice_index_or rows payment.payer blank_row)

abbrev pub ticked_with : Option ℕ → Option Payment → List Row → Ticked
ticked_with runner payment rows = (runner_number runner, payer_number payment, source_of payment, payer_deadline payment rows, payer_left payment rows)

abbrev pub tick_refusal : Choice → ℕ → List Row → Bool → Option CallFault
tick_refusal choice t rows finished =
    cond (nat_le last_instant t) (Some Clock)
    (cond (finished && not (is_some (runner_of choice t rows))) (Some Finish) None)

abbrev pub tick_answer : Choice → ℕ → List Row → Bool → Result Ticked CallFault
tick_answer choice t rows finished =
    answer_unless (tick_refusal choice t rows finished)
    (ticked_with (runner_of choice t rows) (payment_at choice t rows) (paid t (payment_at choice t rows) rows))

-- the rule is told of a stolen tick, and of no other
abbrev pub told_of : {R : Type 0} → (R → ℕ → ℕ → ℕ → R) → Source → R → ℕ → ℕ → ℕ → R
told_of step Own rule t thief payer = rule
told_of step Residual rule t thief payer = rule
told_of step Stolen rule t thief payer = step rule t thief payer
told_of step Idle rule t thief payer = rule
told_of step Empty rule t thief payer = rule

abbrev pub after_tick : {R : Type 0} → (R → ℕ → ℕ → ℕ → R) → Choice → State R → Bool → State R
after_tick step choice state finished =
    left_unless (tick_refusal choice state.instant state.rows finished) state
    (record {
      instant = suc state.instant;
      rows = ticked choice state.instant finished state.rows;
      rule = told_of step (source_of (payment_at choice state.instant state.rows)) state.rule state.instant (runner_number (runner_of choice state.instant state.rows)) (payer_number (payment_at choice state.instant state.rows));
    })

-- who and tick under a donor rule: what is chosen is the rule's choice in its present state, at the present instant
abbrev pub choice_at : {R : Type 0} → RuleChoice R → State R → Choice
choice_at choice state = choice state.rule state.instant

abbrev pub who_of : {R : Type 0} → RuleChoice R → State R → Who
who_of choice state = who_answer (choice_at choice state) state.instant state.rows

abbrev pub tick_of : {R : Type 0} → RuleChoice R → State R → Bool → Result Ticked CallFault
tick_of choice state finished = tick_answer (choice_at choice state) state.instant state.rows finished

abbrev pub ticked_by : {R : Type 0} → RuleChoice R → RuleStep R → State R → Bool → State R
ticked_by choice step state finished = after_tick step (choice_at choice state) state finished
