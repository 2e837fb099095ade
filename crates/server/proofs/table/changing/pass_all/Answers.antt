use Rattle.std.proofs.Common.{get_or, set, ap, ◌∙◌, arith}
use Rattle.std.proofs.lemmas.List.Edits.{map_over_more}
use Rattle.std.proofs.lemmas.List.{get_or_default}
use Rattle.server.specs.declared.row.Row.{Row}
use Rattle.server.specs.Turn.{blank_row}
use Rattle.server.specs.Tick.{passed}
use Rattle.server.proofs.table.changing.pass_all.Goals as goal

pub loop-row-preserved : goal.loop-row-preserved
loop-row-preserved c =
    let rows = c.loop-row.rows in
    let i = c.loop-row.row-index in
    let row = get_or rows i blank_row in
    ap (λ (after : Row). set rows i after) c.pass.ensures
    ∙ map_over_more (passed c.args.at.ticks) c.args.rows.now rows i row (omega arith) c.loop-row.invariant (get_or_default rows i blank_row row (omega (arith, c.loop-row.auto.rows)))
