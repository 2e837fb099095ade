use Rattle.std.proofs.Common.{◌≡◌, ◌≤◌, take}
use Rattle.server.specs.Turn.{offers_to}
use Rattle.server.specs.Gathered.{gathered}
use Rattle.server.proofs.table.Table.offers.Given as goal

abbrev pub invariant-loop-row : goal.invariant-loop-row
invariant-loop-row l = (l.offers.count ≤ l.row-index) × (gathered l.offers ≡ offers_to l.at.ticks l.deadline (take l.row-index l.row-items))
