-- The closure tells each record's own mark.
use Rattle.std.proofs.Common.{rules}
use Rattle.earliest.proofs.search.earliest.Goals as goal

pub returns-clause-earliest : goal.returns-clause-earliest
returns-clause-earliest g c = c.earliest_where.ensures.earliest (g.C.Contender.takes c.args.ask) (λ x r call. search rules)
