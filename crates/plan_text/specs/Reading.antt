-- What a written plan means: a row to a line, added in order to a plan with no rows.
use Rattle.std.specs.Prelude.{ℕ, ◌+◌, List, [], ◌∷◌, ◌++◌, Some, None, Ok, Err, Option, Result}
use Rattle.plan.specs.declared.fault.PlanFault.{PlanFault}
use Rattle.plan.specs.declared.terms.Kind.{Kind}
use Rattle.plan.specs.declared.terms.Terms.{Terms}
use Rattle.plan.specs.Plan.{refusal}
use Rattle.plan_text.specs.declared.fault.LineFault.{LineFault}
use Rattle.plan_text.specs.declared.fault.LineFault.TheVariants.{Words, Number, Refused}
use Rattle.plan_text.specs.declared.fault.LineFault.TheVariants as fault
use Rattle.plan_text.specs.declared.fault.TextFault.{TextFault}
use Rattle.plan_text.specs.Words.{lines_of, words_of}
use Rattle.plan_text.specs.Kinds.{kind_of}
use Rattle.plan_text.specs.Numbers.{number_of}

-- the terms that these parts make, if there are all of them
abbrev pub terms_from : Option Kind → Option ℕ → Option ℕ → Result (Option Terms) LineFault
terms_from None q t = Err fault.Kind
terms_from (Some k) None t = Err Number
terms_from (Some k) (Some q) None = Err Number
terms_from (Some k) (Some q) (Some t) = Ok (Some (record { kind = k; budget = q; period = t }))

-- the terms that the words of a line stand for: none if there are no words
abbrev pub terms_of : List (List ℕ) → Result (Option Terms) LineFault
terms_of [] = Ok None
terms_of (k ∷ []) = Err Words
terms_of (k ∷ q ∷ []) = Err Words
terms_of (k ∷ q ∷ t ∷ []) = terms_from (kind_of k) (number_of q) (number_of t)
terms_of (k ∷ q ∷ t ∷ u ∷ more) = Err Words

-- the same, by the first four words, each of them taken if there is one
abbrev pub terms_of_taken : Option (List ℕ) → Option (List ℕ) → Option (List ℕ) → Option (List ℕ) → Result (Option Terms) LineFault
terms_of_taken None q t u = Ok None
terms_of_taken (Some k) None t u = Err Words
terms_of_taken (Some k) (Some q) None u = Err Words
terms_of_taken (Some k) (Some q) (Some t) None = terms_from (kind_of k) (number_of q) (number_of t)
terms_of_taken (Some k) (Some q) (Some t) (Some u) = Err Words

-- the rows with one more at the end, if the plan has no reason to refuse it
abbrev pub rows_adding : Option PlanFault → List Terms → Terms → Result (List Terms) LineFault
rows_adding None rows t = Ok (rows ++ (t ∷ []))
rows_adding (Some f) rows t = Err (Refused f)

-- the rows after a line that stands for these terms, or what is wrong with it
abbrev pub rows_with : List Terms → Result (Option Terms) LineFault → Result (List Terms) LineFault
rows_with rows (Err f) = Err f
rows_with rows (Ok None) = Ok rows
rows_with rows (Ok (Some t)) = rows_adding (refusal rows t) rows t

-- the rows after a line
abbrev pub rows_after_line : List Terms → List ℕ → Result (List Terms) LineFault
rows_after_line rows line = rows_with rows (terms_of (words_of line))

-- the rows after all lines, where n lines have gone before: the first fault, with its line, ends the reading
abbrev pub rows_after_lines : ℕ → List Terms → List (List ℕ) → Result (List Terms) TextFault
rows_after_lines n rows [] = Ok rows
rows_after_lines n rows (l ∷ ls) =
    elim (rows_after_line rows l) [ Ok more ↦ rows_after_lines (n + 1) more ls | Err f ↦ Err (record { line = n + 1; fault = f }) ]

-- the rows that a text stands for, or its first fault
abbrev pub plan_of_text : List ℕ → Result (List Terms) TextFault
plan_of_text text = rows_after_lines 0 [] (lines_of text)

-- what a reader answers, and the rows that it leaves, where the rows were old
abbrev pub answer_of : {E : Type 0} → Result (List Terms) E → Result (Unit {0}) E
answer_of (Ok rows) = Ok tt
answer_of (Err f) = Err f

abbrev pub rows_or : {E : Type 0} → Result (List Terms) E → List Terms → List Terms
rows_or (Ok rows) old = rows
rows_or (Err f) old = old
