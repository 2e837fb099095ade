-- What a refused row leaves, when `add` has no reason to refuse one, and what the rows of a plan keep.
use Rattle.std.proofs.Common.{◌≡◌, ℕ, ◌+◌, ◌%◌, ◌<◌, ◌≤◌, List, length, get_or, None, Err, mod-eq_of_lt, arith}
use Rattle.std.specs.List.{AllByRecursion}
use Rattle.std.proofs.lemmas.Bool.Decides.{nat_tests}
use Rattle.std.proofs.lemmas.List.{get_or-take, length-take}
use Rattle.std.proofs.ByRecursion.{All-from_get_or}
use Rattle.plan.specs.declared.fault.PlanFault.{PlanFault}
use Rattle.plan.specs.declared.table.Plan.{Plan}
use Rattle.plan.specs.declared.terms.Terms.{Terms}
use Rattle.plan.specs.Terms.{common_multiple, most_rows, weight_of, blank}
use Rattle.plan.specs.Plan.{rows_of, refusal, load_of, added, rows_after}

-- what a row's own terms keep
abbrev pub Sound : Terms → Type 0
Sound t = (1 ≤ t.budget) × (t.budget ≤ t.period) × (common_multiple % t.period ≡ 0)

-- a refusal leaves the rows
pub refused_keeps : (rows : List Terms) (t : Terms) (f : PlanFault) → Err f ≡ added rows t → rows_after rows t ≡ rows
refused_keeps rows t f e = grind arith

-- sound terms that the rows have room for are taken
pub takes_sound : (rows : List Terms) (t : Terms) → length rows < most_rows → Sound t → load_of rows + weight_of t ≤ common_multiple → refusal rows t ≡ None
takes_sound rows t few sound light = grind (arith, nat_tests)

-- a period is no longer than the common multiple
pub period_le : (t : Terms) → Sound t → t.period ≤ common_multiple
period_le t sound = grind (arith, mod-eq_of_lt)

-- the rows of a plan are sound
pub row_sound : (p : Plan) (k : ℕ) → k < p.count → Sound (get_or (rows_of p) k blank)
row_sound p k inside = rw get_or-take (p.sound k inside)

pub rows_sound : (p : Plan) → AllByRecursion Sound (rows_of p)
rows_sound p = All-from_get_or Sound (rows_of p) blank (λ k h. row_sound p k (omega (arith, length-take p.count p.rows)))
