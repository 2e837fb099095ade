use Rattle.std.proofs.Common.{◌≡◌, ◌+◌, ◌-◌, ◌*◌}
use Rattle.plan.specs.Plan.{rows_of}
use Rattle.records.specs.PlanFile.{rows_from}
use Rattle.records.proofs.reading.take_rows.Given as goal

abbrev pub invariant-loop-k : goal.invariant-loop-k
invariant-loop-k l = rows_from l.bytes (1 + 4 * l.k) (l.count - l.k) (rows_of l.plan) ≡ rows_from l.bytes 1 l.count (rows_of l.initial.plan)
