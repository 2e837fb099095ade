-- The lines that are left, after the rows so far, give the same as the whole text.
use Rattle.std.proofs.Common.{◌≡◌, ℕ, List}
use Rattle.std.specs.List.{enumerate_from}
use Rattle.std.proofs.lemmas.Iterator.{YieldsList}
use Rattle.plan.specs.Plan.{rows_of}
use Rattle.plan_text.specs.Reading.{rows_after_lines, plan_of_text}
use Rattle.plan_text.proofs.reading.parse_plan.Given as goal

abbrev pub invariant-loop-before : goal.invariant-loop-before
invariant-loop-before l =
    (n : ℕ) × (lines : List (List ℕ)) × YieldsList (goal.iterator-loop-before).next_gives (λ p. (p.0, p.1.now)) l.before-iterator (enumerate_from n lines)
    × (rows_after_lines n (rows_of l.read) lines ≡ plan_of_text l.text)
