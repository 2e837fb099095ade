-- One record of a plan file: what reading it and giving it to `add` comes to.
use Rattle.std.proofs.Common.{◌≡◌, ℕ, suc, ◌+◌, ◌-◌, ◌*◌, ◌<◌, List, Ok, Err, Result, arith}
use Rattle.plan.specs.declared.terms.Terms.{Terms}
use Rattle.records.specs.declared.fault.PlanFileFault.{PlanFileFault}
use Rattle.faults.specs.declared.placed.Placed.{Placed}
use Rattle.records.specs.Faults.{placed_at}
use Rattle.records.specs.PlanFile.{row_taken, rows_from, answer_of, rows_left}

-- the rows from row k on, by what `take_row` answers for that row and what rows it leaves
module _ (b : List ℕ) (count k : ℕ) (rows : List Terms) (inside : k < count) (res : Result (Unit {0}) PlanFileFault) where
  left : count - k ≡ suc (count - (k + 1))
  left = omega arith

  pub row_stops : (p : Placed PlanFileFault) → res ≡ answer_of (row_taken b (1 + 4 * k) rows) → Err p ≡ placed_at res (1 + 4 * k) → rows_from b (1 + 4 * k) (count - k) rows ≡ Err p
  row_stops p answer e = rw left (grind arith)

  pub row_goes_on : (more : List Terms) → res ≡ answer_of (row_taken b (1 + 4 * k) rows) → more ≡ rows_left (row_taken b (1 + 4 * k) rows) rows → Ok tt ≡ placed_at res (1 + 4 * k) → rows_from b (1 + 4 * (k + 1)) (count - (k + 1)) more ≡ rows_from b (1 + 4 * k) (count - k) rows
  row_goes_on more answer same e = rw left (grind arith)
