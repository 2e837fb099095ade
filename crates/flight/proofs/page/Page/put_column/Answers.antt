use Rattle.std.proofs.Common.{ℕ, ◌<◌, ◌≤◌, ◌^◌, Bool, true, false, cond, [], ◌∷◌, length, decimal, ◌==◌, arith}
use Rattle.executive.specs.Calls.{nobody}
use Rattle.flight.specs.Listing.{unless_nobody}
use Rattle.flight.proofs.Fitting.{grown, length-decimal-le10}
use Rattle.flight.proofs.page.Page.put_column.Goals as goal

pub returns-clause-text : goal.returns-clause-text
returns-clause-text c = grown c.args.self.now c.put.new.self c.put_unless_nobody.new.self (32 ∷ []) (unless_nobody c.args.server c.args.n) c.put.ensures c.put_unless_nobody.ensures

short : (dash : Bool) (n : ℕ) → n < 2 ^ 32 → length (cond dash (45 ∷ []) (decimal n)) ≤ 10
short true n small = omega arith
short false n small = length-decimal-le10 n small

pub returns-clause-short : goal.returns-clause-short
returns-clause-short c = omega (arith, short (c.args.server == nobody) c.args.n (omega arith))
