-- What was chosen is the richest, as the choice by recursion is.
use Rattle.std.proofs.Common.{◌≡◌, Some, sym, subst, arith}
use Rattle.richest.specs.Richest.{richest_choice, IsRichest}
use Rattle.richest.specs.Leading.{all_done, is_richest, some_choice}
use Rattle.richest.proofs.RichestDonorRule.choose.Goals as goal

pub returns-clause-richest : goal.returns-clause-richest
returns-clause-richest c =
    let offers = c.args.offers.now in
    let value : Some c.loop-k.best.position ≡ richest_choice offers = grind (arith, all_done, some_choice) in
    subst (IsRichest offers) (sym value) (is_richest offers)
