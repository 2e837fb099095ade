-- Each line that is read leaves the answer of the whole text to the lines that follow.
use Rattle.std.proofs.Common.{◌≡◌, ◌+◌, Ok, Err, sym, refl, ap, ◌∙◌, rules, tests}
use Rattle.plan.specs.Plan.{rows_of}
use Rattle.plan_text.specs.declared.fault.LineFault.{LineFault}
use Rattle.plan_text.specs.Words.{lines_of}
use Rattle.plan_text.specs.Reading.{answer_of, rows_or, rows_after_line, rows_after_lines}
use Rattle.plan_text.proofs.Lines.{err_answer, ok_answer, numbered, next_line, no_line, line_more, line_fault}
use Rattle.plan_text.proofs.reading.parse_plan.Goals as goal

-- `cc` names no call, since an edit that has to fail takes the call of `new` away
pub loop-before-init : goal.loop-before-init
loop-before-init c =
    let text = c.args.text.now in
    (0, lines_of text, numbered _ text c.into_iter-before-iterator.ensures.into_iter_gives c.enumerate-before-items.ensures.source c.enumerate-before-items.ensures.count c.split.ensures.rest c.split.ensures.done c.split.ensures.closure (λ x b q k. search (rules, tests)), cc)

pub loop-before-preserved : goal.loop-before-preserved
loop-before-preserved c =
    let rows = rows_of c.loop-before.read in
    let i = c.loop-before.invariant in
    let l = next_line i.0 i.1 c.loop-before.before-iterator c.next.new.self c.next.result (c.in-Some.before, c.in-Some.line) i.2 c.in-Some.is c.next.ensures.steps in
    let ok : c.add_line.result ≡ Ok tt = search rules in
    let more = ok_answer (rows_after_line rows c.in-Some.line.now) _ rows (sym ok ∙ c.add_line.ensures.answer) c.add_line.ensures.rows in
    (i.0 + 1, l.0, l.3, sym (ap (rows_after_lines i.0 rows) l.1 ∙ line_more i.0 rows _ c.in-Some.line.now l.0 more) ∙ i.3)

pub returns-in_err-map_err : goal.returns-in_err-map_err
returns-in_err-map_err c =
    let rows = rows_of c.loop-before.read in
    let i = c.loop-before.invariant in
    let l = next_line i.0 i.1 c.loop-before.before-iterator c.next.new.self c.next.result (c.in-Some.before, c.in-Some.line) i.2 c.in-Some.is c.next.ensures.steps in
    let wrong : (f : LineFault) × (c.add_line.result ≡ Err f) × (c.from_residual.result ≡ Err (record { line = c.in-Some.before + 1; fault = f })) =
    elim c.add_line.result as (λ r. c.add_line.result ≡ r → (f : LineFault) × (c.add_line.result ≡ Err f) × (c.from_residual.result ≡ Err (record { line = c.in-Some.before + 1; fault = f }))) [
      | Ok x ↦ λ e. search rules
      | Err f ↦ λ e. (f, e, search rules)
    ] refl in
    let fault = err_answer (rows_after_line rows c.in-Some.line.now) wrong.0 (sym wrong.1 ∙ c.add_line.ensures.answer) in
    let whole = sym i.3 ∙ ap (rows_after_lines i.0 rows) l.1 ∙ line_fault i.0 rows wrong.0 c.in-Some.line.now l.0 fault ∙ ap (λ n. Err (record { line = n + 1; fault = wrong.0 })) l.2 in
    record { answer = wrong.2 ∙ sym (ap answer_of whole); rows = sym (ap (λ x. rows_or x (rows_of c.args.plan.now)) whole) }

pub returns : goal.returns
returns c =
    let i = c.loop-before.invariant in
    let none = no_line i.0 i.1 c.loop-before.before-iterator c.next.new.self c.next.result i.2 c.in-None.is c.next.ensures.steps in
    let whole = sym i.3 ∙ ap (rows_after_lines i.0 (rows_of c.loop-before.read)) none in
    record { answer = sym (ap answer_of whole); rows = sym (ap (λ x. rows_or x (rows_of c.args.plan.now)) whole) }
