use Rattle.std.proofs.Common.{◌≡◌, length, take}
use Rattle.plan.specs.Terms.{most_rows}
use Rattle.server.specs.Tick.{fresh_rows}
use Rattle.server.proofs.table.Table.of.Given as goal

abbrev pub invariant-loop-k : goal.invariant-loop-k
invariant-loop-k l = (length l.rows ≡ most_rows) × (take l.k l.rows ≡ fresh_rows 0 (take l.k l.all))
