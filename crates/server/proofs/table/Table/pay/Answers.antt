use Rattle.std.proofs.Common.{get_or, refl, arith}
use Rattle.server.specs.Tick.{charged_for}
use Rattle.server.specs.Table.{table_rows}
use Rattle.server.specs.Turn.{blank_row}
use Rattle.server.proofs.Places.{changed_inside}
use Rattle.server.proofs.Keeping.{charge_keeps}
use Rattle.server.proofs.table.Table.pay.Goals as goal

pub returns-then-place-self : goal.returns-then-place-self
returns-then-place-self c =
    let table = c.args.self.now in
    let t = c.args.at.ticks in
    let payment = c.args.payment in
    let is = changed_inside (charged_for payment.source t) table.rows table.count payment.payer (get_or table.rows payment.payer blank_row) c.pay.new.self (omega arith) refl c.pay.ensures in
    record { rows = is; kept = charge_keeps payment.source t payment.payer (table_rows table) _ is }
