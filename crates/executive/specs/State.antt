-- The state of an executive: what its calls know of it.
use Rattle.server.specs.Table.{table_rows}
use Rattle.executive.specs.declared.executive.Executive.TheInside.{Inside}
use Rattle.executive.specs.Calls.{State}

abbrev pub state_of : {R : Type 0} → Inside R → State R
state_of e = record { instant = e.instant.ticks; rows = table_rows e.table; rule = e.rule }
