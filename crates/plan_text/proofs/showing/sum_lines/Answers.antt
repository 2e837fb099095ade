-- The columns of the two lines, one after another.
use Rattle.std.proofs.Common.{◌≡◌, string_bytes, ap, ◌∙◌, lit<}
use Rattle.std.proofs.lemmas.Result.{IfOk-weaker}
use Rattle.plan_text.specs.Table.{pad_left, hundredths, sum_lines}
use Rattle.plan_text.proofs.Columns.{number_column, hundredths_column}
use Rattle.plan_text.proofs.Tables.{sums_printed}
use Rattle.plan_text.proofs.showing.sum_lines.Goals as goal

pub returns : goal.returns
returns c =
    let load = c.args.load in
    let free = c.args.free in
    IfOk-weaker c.format.result _ (λ s. string_bytes s ≡ sum_lines load free)
    (λ s. sums_printed load free _ _ _ _ (string_bytes s)
    (number_column 44 load (lit< tt) c.laid_out.ensures)
    (hundredths_column 10 _ _ (lit< tt) c.share.type_inv c.laid_out-2.ensures c.in_ok-taken.ensures ∙ ap (λ n. pad_left 10 (hundredths n)) c.share.ensures)
    (number_column 44 free (lit< tt) c.laid_out-3.ensures)
    (hundredths_column 10 _ _ (lit< tt) c.share-2.type_inv c.laid_out-4.ensures c.in_ok-left.ensures ∙ ap (λ n. pad_left 10 (hundredths n)) c.share-2.ensures))
    c.format.ensures.ok
