use Rattle.std.proofs.Common.{◌≡◌, ◌++◌, map, take, drop}
use Rattle.server.specs.Tick.{passed}
use Rattle.server.proofs.table.changing.pass_all.Given as goal

abbrev pub invariant-loop-row : goal.invariant-loop-row
invariant-loop-row l = l.rows ≡ map (passed l.at.ticks) (take l.row-index l.initial.rows) ++ drop l.row-index l.initial.rows
