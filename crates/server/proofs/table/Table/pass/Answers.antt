use Rattle.std.proofs.Common.{◌-◌, arith}
use Rattle.server.specs.Tick.{passed}
use Rattle.server.specs.Table.{table_rows}
use Rattle.server.proofs.Places.{front_rows}
use Rattle.server.proofs.Keeping.{passed_keeps}
use Rattle.server.proofs.table.Table.pass.Goals as goal

pub returns : goal.returns
returns c =
    let table = c.args.self.now in
    let t = c.args.at.ticks in
    let is = front_rows (passed t) table.rows c.pass_all.new.rows table.count (table.count - 0) (omega arith) (omega (arith, table.whole, table.room)) c.pass_all.ensures in
    record { rows = is; kept = passed_keeps t (table_rows table) _ is }
