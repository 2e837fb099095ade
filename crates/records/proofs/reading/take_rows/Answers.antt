-- What is left to read gives the same answer as the whole.
use Rattle.std.proofs.Common.{sym, ap, ◌∙◌, arith}
use Rattle.std.proofs.lemmas.Result.{err_from_is_err_and}
use Rattle.plan.specs.Plan.{rows_of}
use Rattle.records.specs.PlanFile.{answer_of}
use Rattle.records.proofs.Taken.{row_stops, row_goes_on}
use Rattle.records.proofs.reading.take_rows.Goals as goal

pub returns-in_err-located-clause-answer : goal.returns-in_err-located-clause-answer
returns-in_err-located-clause-answer c =
    let x = err_from_is_err_and c.from_residual.result c.from_residual.ensures.1 in
    let stops = row_stops c.args.bytes.now c.args.count c.loop-k.k (rows_of c.loop-k.plan) (omega arith) c.take_row.result _ c.take_row.ensures.answer c.in_err-located.ensures in
    rw (x.1, x.2) (sym (ap answer_of (sym c.loop-k.invariant ∙ stops)))

pub loop-k-preserved : goal.loop-k-preserved
loop-k-preserved c =
    row_goes_on c.args.bytes.now c.args.count c.loop-k.k (rows_of c.loop-k.plan) (omega arith) c.take_row.result _ c.take_row.ensures.answer c.take_row.ensures.rows c.in_ok-located.ensures
    ∙ c.loop-k.invariant
