-- The parts of the table, in their order.
use Rattle.std.proofs.Common.{◌≡◌, string_bytes, ap, ◌∙◌}
use Rattle.std.proofs.lemmas.Result.{IfOk-weaker}
use Rattle.plan.specs.Plan.{rows_of}
use Rattle.plan_text.specs.Table.{row_lines, sum_lines, table_text}
use Rattle.plan_text.proofs.Tables.{table_lines}
use Rattle.plan_text.proofs.showing.table.Goals as goal

pub returns : goal.returns
returns c =
    let rows = rows_of c.args.plan.now in
    let file = c.args.file_length in
    IfOk-weaker c.format.result _ (λ s. string_bytes s ≡ table_text rows file)
    (λ s. table_lines rows _ _ file _ _ (string_bytes s) (c.in_ok-lines.ensures ∙ ap (row_lines 0) c.rows.ensures) (c.in_ok-sums.ensures ∙ (λ i. sum_lines (c.load.ensures i) (c.free.ensures i))))
    c.format.ensures.ok
