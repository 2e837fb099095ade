-- Which rows take part when the earliest of those that supply is sought.
use Rattle.std.specs.Prelude.{Bool}
use Rattle.server.specs.declared.row.Row.{Row}
use Rattle.server.specs.declared.turn.marks.Mark.{Mark}
use Rattle.server.specs.declared.turn.marks.Mark.TheVariants.{Supplying, SupplyingBy}
use Rattle.server.specs.Turn.{supplies, supplies_by}

abbrev pub marked : Mark → Row → Bool
marked Supplying row = supplies row
marked (SupplyingBy deadline) row = supplies_by deadline row
