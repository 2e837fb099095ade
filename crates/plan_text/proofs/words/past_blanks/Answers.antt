-- The iterator counts the blanks at the front.
use Rattle.std.proofs.Common.{drop, ap, ◌∙◌, rules, tests}
use Rattle.std.proofs.lemmas.Iterator.{YieldsList-from_slice}
use Rattle.plan_text.specs.Bytes.{blank}
use Rattle.plan_text.proofs.Fronts.{counted}
use Rattle.plan_text.proofs.words.past_blanks.Goals as goal

pub returns : goal.returns
returns c =
    let bytes = c.args.bytes.now in
    let iterator = c.take_while.ensures in
    c.split_at.ensures.back
    ∙ ap (λ n. drop n bytes) (counted _ blank bytes c.count-end.result (YieldsList-from_slice bytes cc) iterator.source iterator.closure iterator.done (λ x b q k. search (rules, tests)) c.count-end.ensures.ran)
