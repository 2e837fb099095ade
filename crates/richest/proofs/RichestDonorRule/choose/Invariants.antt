use Rattle.std.proofs.Common.{◌≡◌, drop}
use Rattle.richest.specs.Richest.{richest_from, start}
use Rattle.richest.proofs.RichestDonorRule.choose.Given as goal

abbrev pub invariant-loop-k : goal.invariant-loop-k
invariant-loop-k l = richest_from l.best l.k (drop l.k l.offers) ≡ richest_from start 0 l.offers
