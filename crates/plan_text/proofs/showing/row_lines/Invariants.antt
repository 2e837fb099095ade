-- The lines so far and those of the rows that are left are all lines.
use Rattle.std.proofs.Common.{string_bytes}
use Rattle.plan_text.proofs.Tables.{Sofar}
use Rattle.plan_text.proofs.showing.row_lines.Given as goal

abbrev pub invariant-loop-server : goal.invariant-loop-server
invariant-loop-server l = Sofar l.rows l.server (string_bytes l.out)
