use Rattle.std.proofs.Common.{◌≡◌, drop}
use Rattle.donor.specs.Rules.{first_above}
use Rattle.donor.proofs.turns.first_above.Given as goal

abbrev pub invariant-loop-k : goal.invariant-loop-k
invariant-loop-k l = first_above l.server l.k (drop l.k l.offers) ≡ first_above l.server 0 l.offers
