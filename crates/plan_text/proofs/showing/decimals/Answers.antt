-- The decimals are two digits.
use Rattle.std.proofs.Common.{◌≡◌, ◌/◌, ◌++◌, string_bytes, codes, decimal, ap, ◌∙◌}
use Rattle.std.proofs.lemmas.Result.{IfOk-weaker}
use Rattle.plan_text.specs.Table.{hundredths}
use Rattle.plan_text.proofs.Columns.{two_decimals}
use Rattle.plan_text.proofs.showing.decimals.Goals as goal

pub returns : goal.returns
returns c =
    let n = c.args.n in
    IfOk-weaker c.format.result _ (λ s. string_bytes s ≡ hundredths n)
    (λ s is. is ∙ ap (λ ds. decimal (n / 100) ++ (codes "." ++ ds)) (two_decimals n c.laid_out.ensures))
    c.format.ensures.ok
