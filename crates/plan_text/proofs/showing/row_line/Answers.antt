-- The columns of a row, one after another.
use Rattle.std.proofs.Common.{◌≡◌, ◌<◌, ◌^◌, decimal, string_bytes, ap, ◌∙◌, lit<, arith}
use Rattle.std.proofs.lemmas.Result.{IfOk-weaker}
use Rattle.plan_text.specs.Table.{pad_left, hundredths, milliseconds_of, share_of, row_line}
use Rattle.plan_text.proofs.Columns.{number_column, kind_column, hundredths_column}
use Rattle.plan_text.proofs.Tables.{row_printed}
use Rattle.plan_text.proofs.showing.row_line.Goals as goal

pub returns : goal.returns
returns c =
    let t = c.args.terms.now in
    let fits : milliseconds_of t.period < 2 ^ 64 = omega (arith, c.fits-terms) in
    let weight = number_column 8 _ (lit< tt) c.laid_out-6.ensures ∙ ap (λ n. pad_left 8 (decimal n)) c.weight-weight.ensures in
    let share = c.share.ensures ∙ ap share_of c.weight-weight.ensures in
    let percent = hundredths_column 10 _ _ (lit< tt) c.share.type_inv c.laid_out-7.ensures c.in_ok-percent.ensures ∙ ap (λ n. pad_left 10 (hundredths n)) share in
    IfOk-weaker c.format.result _ (λ s. string_bytes s ≡ row_line c.args.server t)
    (λ s. row_printed c.args.server t _ _ _ _ _ _ _ (string_bytes s)
    (number_column 6 _ (lit< tt) c.laid_out.ensures)
    (kind_column t.kind _ c.laid_out-2.ensures c.kind_word-kind.ensures)
    (number_column 8 _ (lit< tt) c.laid_out-3.ensures)
    (number_column 7 _ (lit< tt) c.laid_out-4.ensures)
    (hundredths_column 11 _ _ (lit< tt) fits c.laid_out-5.ensures (c.in_ok-milliseconds.ensures ∙ ap (λ p. hundredths (milliseconds_of p)) c.from.ensures))
    weight percent)
    c.format.ensures.ok
