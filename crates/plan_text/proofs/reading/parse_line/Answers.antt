-- Four words suffice to tell what a line stands for.
use Rattle.std.proofs.Common.{Some, sym, ap, ◌∙◌}
use Rattle.std.specs.Option.{option_copied}
use Rattle.plan_text.specs.Words.{words_in, with_taken}
use Rattle.plan_text.specs.Reading.{terms_of}
use Rattle.plan_text.proofs.Splitting.{four_taken}
use Rattle.plan_text.proofs.reading.parse_line.Goals as goal

pub returns : goal.returns
returns c =
    let o₁ = Some c.in-Some.first.now in
    let o₂ = option_copied c.take_word-2.result in
    let o₃ = option_copied c.take_word-3.result in
    let o₄ = option_copied c.take_word-4.result in
    let words =
    c.take_word.ensures.word
    ∙ ap (λ o. with_taken (option_copied o) (words_in c.take_word.new.self.rest.now)) c.in-Some.is
    ∙ ap (with_taken o₁) (c.take_word-2.ensures.word ∙ ap (with_taken o₂) (c.take_word-3.ensures.word ∙ ap (with_taken o₃) c.take_word-4.ensures.word)) in
    c.terms_of.ensures
    ∙ sym (four_taken o₁ o₂ o₃ o₄ (words_in c.take_word-4.new.self.rest.now))
    ∙ ap terms_of (sym words ∙ ap words_in (c.of-words.ensures ∙ c.without_comment.ensures))
