-- Each part of the line stands behind the one before it.
use Rattle.std.proofs.Common.{ℕ, List, [], ◌∷◌, ◌++◌, decimal, ap, ◌∙◌, arith, length-append}
use Rattle.flight.specs.Page.{fitting}
use Rattle.flight.specs.Listing.{source_letter, column_text, newline}
use Rattle.flight.proofs.Fitting.{grown, length-decimal-le10}
use Rattle.flight.proofs.page.Page.put_line.Goals as goal

pub returns-clause-text : goal.returns-clause-text
returns-clause-text c =
    let answer = c.args.answer in
    let payer = answer.1 in
    let text3 = c.put.new.self in
    let text4 = c.put-2.new.self in
    let text5 = c.put_column-2.new.self in
    let text6 = c.put_column-3.new.self in
    let text8 = c.put-3.new.self in
    let letter : List ℕ = source_letter answer.2 ∷ [] in
    let after6 : List ℕ = column_text payer answer.4 ++ newline in
    let after5 : List ℕ = column_text payer answer.3 ++ after6 in
    let after4 : List ℕ = column_text payer payer ++ after5 in
    let after2 : List ℕ = (32 ∷ letter) ++ after4 in
    let lettered = c.put-2.ensures ∙ ap (λ (x : ℕ). fitting (text3 ++ (x ∷ []))) c.letter_of.ensures in
    grown c.args.self.now c.put_number.new.self text8 (decimal c.args.instant) (column_text answer.0 answer.0 ++ after2) c.put_number.ensures
    (grown c.put_number.new.self c.put_column.new.self text8 (column_text answer.0 answer.0) after2 c.put_column.ensures.text
    (grown c.put_column.new.self text4 text8 (32 ∷ letter) after4 (grown c.put_column.new.self text3 text4 (32 ∷ []) letter c.put.ensures lettered)
    (grown text4 text5 text8 (column_text payer payer) after5 c.put_column-2.ensures.text
    (grown text5 text6 text8 (column_text payer answer.3) after6 c.put_column-3.ensures.text
    (grown text6 c.put_column-4.new.self text8 (column_text payer answer.4) newline c.put_column-4.ensures.text
    c.put-3.ensures)))))

pub returns-clause-short : goal.returns-clause-short
returns-clause-short c =
    simp length-append (omega (arith, length-decimal-le10 c.args.instant (omega arith), c.put_column.ensures.short, c.put_column-2.ensures.short, c.put_column-3.ensures.short, c.put_column-4.ensures.short))
