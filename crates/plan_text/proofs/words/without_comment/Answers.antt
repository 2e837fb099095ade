-- The iterator counts the bytes before the first that starts a comment.
use Rattle.std.proofs.Common.{take, ap, rules, tests}
use Rattle.std.proofs.lemmas.Iterator.{YieldsList-from_slice}
use Rattle.plan_text.specs.Bytes.{in_code}
use Rattle.plan_text.proofs.Fronts.{counted}
use Rattle.plan_text.proofs.words.without_comment.Goals as goal

pub returns : goal.returns
returns c =
    let line = c.args.line.now in
    let iterator = c.take_while.ensures in
    ap (λ n. take n line) (counted _ in_code line c.count-end.result (YieldsList-from_slice line cc) iterator.source iterator.closure iterator.done (λ x b q k. search (rules, tests)) c.count-end.ensures.ran)
