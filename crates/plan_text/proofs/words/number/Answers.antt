-- The two passes over the word: all are digits, and what they stand for.
use Rattle.std.proofs.Common.{Some, sym, refl, ap, ◌∙◌, rules, tests}
use Rattle.std.specs.Char.{is_ascii_digit}
use Rattle.std.proofs.lemmas.Iterator.{YieldsList-from_slice}
use Rattle.std.proofs.lemmas.Iterator.Consumers.{fold_from_yields_List}
use Rattle.std.proofs.lemmas.Iterator.Search.{all_from_yields_List}
use Rattle.plan_text.proofs.Numbers.{all_digits, held_step, fold_held}
use Rattle.plan_text.proofs.words.number.Goals.{then-is_empty-via-then-is_empty, then-is_empty-via-else-is_empty+then-not-all}
use Rattle.plan_text.proofs.words.number.Goals as goal

pub returns-then-is_empty : goal.returns-then-is_empty
returns-then-is_empty c =
    let word = c.args.word.now in
    elim c.then-is_empty.branch [
      | then-is_empty-via-then-is_empty w ↦ search rules
      | then-is_empty-via-else-is_empty+then-not-all w ↦
          let all = all_from_yields_List is_ascii_digit _ _ _ w.all.ensures.ran (YieldsList-from_slice word cc) (λ x b q k. search (rules, tests)) ∙ all_digits word in
          rw (sym w.if-is_empty.ensures, sym all ∙ w.if-not-all.true) refl
    ]

pub returns : goal.returns
returns c =
    let word = c.args.word.now in
    let all = all_from_yields_List is_ascii_digit _ _ _ c.all.ensures.ran (YieldsList-from_slice word cc) (λ x b q k. search (rules, tests)) ∙ all_digits word in
    let value = fold_from_yields_List _ held_step _ _ c.fold.ensures.ran (YieldsList-from_slice word cc) (λ a x b q k. search (rules, tests)) ∙ fold_held 0 word in
    rw (sym c.if-is_empty.ensures, sym all ∙ c.if-not-all.false) (ap Some value)
