use Rattle.std.proofs.Common.{arith}
use Rattle.plan.specs.Plan.{rows_of}
use Rattle.plan.proofs.Adding.{refused_keeps}
use Rattle.records.proofs.reading.take_row.Goals as goal

pub returns-in_err-add-clause-rows : goal.returns-in_err-add-clause-rows
returns-in_err-add-clause-rows c =
    let kept = refused_keeps (rows_of c.args.plan.now) c.in_ok-terms.terms _ c.in_err-add.ensures.answer in
    grind arith
