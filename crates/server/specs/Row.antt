-- One server's row, and what is done to it. All functions are plain: they give the row afterwards.
use Rattle.std.specs.Prelude.{ℕ, ◌+◌, ◌-◌, ◌*◌, ◌/◌, min, cond, ◌==◌, nat_le}
use Rattle.plan.specs.declared.terms.Terms.{Terms}
use Rattle.server.specs.declared.row.Event.{Event}
use Rattle.server.specs.declared.row.Event.TheVariants.{Arrival, Finish, Deadline}
use Rattle.server.specs.declared.row.Phase.{Phase}
use Rattle.server.specs.declared.row.Phase.TheVariants.{Resting, AtWork, Supplying}
use Rattle.server.specs.declared.row.Row.{Row}

-- the most jobs that a row counts
abbrev pub most_jobs : ℕ
most_jobs = 255

-- a row that has done nothing yet
abbrev pub fresh_row : ℕ → Terms → Row
fresh_row number terms = record { number = number; terms = terms; phase = Resting; account = record { capacity = 0; residual = 0; deadline = 0; jobs = 0 } }

abbrev pub with_phase : Phase → Row → Row
with_phase phase row = record { number = row.number; terms = row.terms; phase = phase; account = row.account }

abbrev pub with_jobs : ℕ → Row → Row
with_jobs jobs row = record { number = row.number; terms = row.terms; phase = row.phase; account = record { capacity = row.account.capacity; residual = row.account.residual; deadline = row.account.deadline; jobs = jobs } }

abbrev pub with_capacities : ℕ → ℕ → Row → Row
with_capacities c r row = record { number = row.number; terms = row.terms; phase = row.phase; account = record { capacity = c; residual = r; deadline = row.account.deadline; jobs = row.account.jobs } }

-- a recharge at instant t: the whole budget, nothing supplied, and the deadline a period away
abbrev pub recharged : ℕ → Row → Row
recharged t row = record { number = row.number; terms = row.terms; phase = row.phase; account = record { capacity = row.terms.budget; residual = 0; deadline = t + row.terms.period; jobs = row.account.jobs } }

-- one job more
abbrev pub one_more : Row → Row
one_more row = with_jobs (min most_jobs (row.account.jobs + 1)) row

-- a resting row goes to work; if its deadline has passed it is recharged first
abbrev pub woken : ℕ → Row → Row
woken t row = with_phase AtWork (cond (nat_le row.account.deadline t) (recharged t row) row)

-- the job that runs is done: after the last one the row supplies what it has left
abbrev pub done : Row → Row
done row = cond (nat_le row.account.jobs 1) (with_phase Supplying (with_jobs 0 (with_capacities 0 row.account.capacity row))) (with_jobs (row.account.jobs - 1) row)

-- back to work with a new budget, for the jobs that wait
abbrev pub renewed : ℕ → Row → Row
renewed t row = with_phase AtWork (recharged t row)

-- a supplying row at its deadline: back to work if jobs wait, else it rests with nothing
abbrev pub supplied : ℕ → Row → Row
supplied t row = cond (row.account.jobs == 0) (with_phase Resting (with_capacities 0 0 row)) (renewed t row)

-- what an event at instant t does, by the phase and the event together
abbrev pub happens_in : Phase → Event → ℕ → Row → Row
happens_in Resting Arrival t row = one_more (woken t row)
happens_in AtWork Arrival t row = one_more row
happens_in Supplying Arrival t row = one_more row
happens_in Resting Finish t row = row
happens_in AtWork Finish t row = done row
happens_in Supplying Finish t row = row
happens_in Resting Deadline t row = row
happens_in AtWork Deadline t row = renewed t row
happens_in Supplying Deadline t row = supplied t row

abbrev pub happens : Event → ℕ → Row → Row
happens event t row = happens_in row.phase event t row

-- one tick charged to the own capacity, or to what is supplied
abbrev pub charged_own : Row → Row
charged_own row = with_capacities (row.account.capacity - 1) row.account.residual row

abbrev pub charged_residual : Row → Row
charged_residual row = with_capacities row.account.capacity (row.account.residual - 1) row

-- the share of its budget that a row may hold at instant t with its deadline still to come
abbrev pub share_left : ℕ → Row → ℕ
share_left t row = (row.account.deadline - t) * row.terms.budget / row.terms.period

-- The cut: a resting row whose deadline has not passed holds no more than its share up to the deadline.
-- Without it a row that was robbed in part could wake late with all that was left, and the bound of specs/Demand
-- would be false. The smallest example: server 0 of (3, 4) and server 1 of (1, 5), neither isolated. Server 1 has a job
-- at 0, runs tick 0 on its own, steals tick 1 from server 0 and finishes; so 0 rests with 2 ticks and the deadline 5.
-- A job for it at instant 4 would find 2 ticks owed by 5 and one tick to run in, and one is left at the deadline.
-- The cut leaves it (5 − 4) × 3 ÷ 4 = 0.
abbrev pub cut_in : Phase → ℕ → Row → Row
cut_in Resting t row = cond (nat_le t row.account.deadline) (with_capacities (min row.account.capacity (share_left t row)) row.account.residual row) row
cut_in AtWork t row = row
cut_in Supplying t row = row

abbrev pub cut_at : ℕ → Row → Row
cut_at t row = cut_in row.phase t row
