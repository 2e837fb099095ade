-- The word stands behind the blanks at the front, and reaches to the next one.
use Rattle.std.proofs.Common.{◌≡◌, not, eqb, Bor, List, ℕ, length, Option, sym, ap, ◌∙◌, rules}
use Rattle.std.specs.Bool.{then_some}
use Rattle.std.specs.Option.{option_copied}
use Rattle.plan_text.specs.Bytes.{blank, in_word, front, back}
use Rattle.plan_text.specs.Words.{words_in, with_taken}
use Rattle.plan_text.proofs.Splitting.{word_taken}
use Rattle.plan_text.proofs.words.Words.take_word.Goals as goal

rest_is : (c : goal.After-then_some) → c.up_to_blank.result.1.now ≡ back in_word (back blank c.args.self.now.rest.now)
rest_is c = c.up_to_blank.ensures.back ∙ ap (back in_word) c.past_blanks.ensures

pub returns-clause-word : goal.returns-clause-word
returns-clause-word c =
    let word = c.up_to_blank.result.0 in
    let rest = c.up_to_blank.result.1.now in
    let taken : c.then_some.result ≡ then_some (not (eqb (length word.now) 0)) word = search rules in
    word_taken c.args.self.now.rest.now word rest (c.up_to_blank.ensures.front ∙ ap (front in_word) c.past_blanks.ensures) (rest_is c)
    ∙ ap (λ (o : Option (Bor (List ℕ))). with_taken (option_copied o) (words_in rest)) (sym taken)

pub returns-clause-rest : goal.returns-clause-rest
returns-clause-rest c = rest_is c
