use Rattle.std.proofs.Common.{get_or, refl, arith}
use Rattle.server.specs.Row.{happens}
use Rattle.server.specs.Table.{table_rows}
use Rattle.server.specs.Turn.{blank_row}
use Rattle.server.proofs.Places.{changed_inside}
use Rattle.server.proofs.Keeping.{event_keeps}
use Rattle.server.proofs.table.Table.happens.Goals as goal

pub returns-then-place-self : goal.returns-then-place-self
returns-then-place-self c =
    let table = c.args.self.now in
    let t = c.args.at.ticks in
    let k = c.args.server in
    let event = c.args.event in
    let is = changed_inside (happens event t) table.rows table.count k (get_or table.rows k blank_row) c.happens.new.self (omega arith) refl c.happens.ensures in
    let keeps = event_keeps event t k (table_rows table) _ is in
    record { rows = is; kept = keeps.0; bound = keeps.1 }
