-- What an arrival and a tick do to the rows of a table, for any donor choice.
use Rattle.std.specs.Prelude.{ℕ, suc, Bool, true, false, cond, List, [], ◌∷◌, map, Some, None, Option, ◌==◌, nat_le, slice_index_or, slice_set}
use Rattle.plan.specs.declared.terms.Terms.{Terms}
use Rattle.server.specs.declared.row.Event.TheVariants.{Arrival, Finish, Deadline}
use Rattle.server.specs.declared.row.Row.{Row}
use Rattle.server.specs.declared.turn.Payment.{Payment}
use Rattle.server.specs.declared.turn.Source.{Source}
use Rattle.server.specs.declared.turn.Source.TheVariants.{Own, Residual, Stolen, Idle, Empty}
use Rattle.server.specs.Row.{fresh_row, recharged, happens, charged_own, charged_residual, cut_at}
use Rattle.server.specs.Turn.{Choice, blank_row, runner_of, payment_of}

-- one row changed, every other row as it was
abbrev pub changed : (Row → Row) → ℕ → List Row → List Row
changed f k rows = slice_set rows k (f (slice_index_or rows k blank_row))

-- an arrival at a server
abbrev pub arrived_at : ℕ → ℕ → List Row → List Row
arrived_at t k rows = changed (happens Arrival t) k rows

-- a row that is stolen from: recharged first, if its deadline has come
abbrev pub ready_to_pay : ℕ → Row → Row
ready_to_pay t row = cond (nat_le row.account.deadline t) (recharged t row) row

-- the payer after its charge
abbrev pub charged_for : Source → ℕ → Row → Row
charged_for Own t row = charged_own row
charged_for Residual t row = charged_residual row
charged_for Stolen t row = charged_own (ready_to_pay t row)
charged_for Idle t row = charged_residual row
charged_for Empty t row = row

-- the rows after the charge
abbrev pub paid : ℕ → Option Payment → List Row → List Row
paid t None rows = rows
paid t (Some payment) rows = changed (charged_for payment.source t) payment.payer rows

-- the rows after the runner's finish, if there is one
abbrev pub finished_by : Bool → ℕ → Option ℕ → List Row → List Row
finished_by false t runner rows = rows
finished_by true t None rows = rows
finished_by true t (Some k) rows = changed (happens Finish t) k rows

-- a row as the clock comes to instant t: its deadline if that has come, and then the cut
abbrev pub due : ℕ → Row → Row
due t row = cond (row.account.deadline == t) (happens Deadline t row) row

abbrev pub passed : ℕ → Row → Row
passed t row = cut_at t (due t row)

-- the rows after the charge and the finish of a tick at instant t, before any deadline is handled
abbrev pub settled : Choice → ℕ → Bool → List Row → List Row
settled choice t finished rows = finished_by finished t (runner_of choice t rows) (paid t (payment_of choice t rows (runner_of choice t rows)) rows)

-- the rows after a tick at instant t
abbrev pub ticked : Choice → ℕ → Bool → List Row → List Row
ticked choice t finished rows = map (passed (suc t)) (settled choice t finished rows)

-- the rows of a fresh table, numbered from a number on
abbrev pub fresh_rows : ℕ → List Terms → List Row
fresh_rows number [] = []
fresh_rows number (terms ∷ more) = fresh_row number terms ∷ fresh_rows (suc number) more
