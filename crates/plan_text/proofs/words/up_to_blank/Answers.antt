-- The iterator counts the bytes before the first blank.
use Rattle.std.proofs.Common.{◌≡◌, take, drop, ap, ◌∙◌, rules, tests}
use Rattle.std.specs.List.{prefix_len}
use Rattle.std.proofs.lemmas.Iterator.{YieldsList-from_slice}
use Rattle.plan_text.specs.Bytes.{in_word}
use Rattle.plan_text.proofs.Fronts.{counted}
use Rattle.plan_text.proofs.words.up_to_blank.Goals as goal

length_is : (c : goal.After-split_at) → c.count-length.result ≡ prefix_len in_word c.args.bytes.now
length_is c =
    let bytes = c.args.bytes.now in
    let iterator = c.take_while.ensures in
    counted _ in_word bytes c.count-length.result (YieldsList-from_slice bytes cc) iterator.source iterator.closure iterator.done (λ x b q k. search (rules, tests)) c.count-length.ensures.ran

pub returns-clause-front : goal.returns-clause-front
returns-clause-front c = c.split_at.ensures.front ∙ ap (λ n. take n c.args.bytes.now) (length_is c)

pub returns-clause-back : goal.returns-clause-back
returns-clause-back c = c.split_at.ensures.back ∙ ap (λ n. drop n c.args.bytes.now) (length_is c)
