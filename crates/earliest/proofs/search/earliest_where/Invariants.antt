use Rattle.std.proofs.Common.{◌≡◌, ◌<◌, Bool, drop, length, None, IfSome}
use Rattle.earliest.specs.Earliest.{Tells, after_all}
use Rattle.earliest.proofs.search.earliest_where.Given as goal

abbrev pub invariant-loop-position : goal.invariant-loop-position
invariant-loop-position g l =
    let m = g.C.Contender in
    IfSome l.best (λ best. best.position < length l.items)
    × ((takes : _ → Bool) → Tells g.F.Fn l.takes_part takes → after_all m.deadline m.number takes l.best l.position (drop l.position l.items) ≡ after_all m.deadline m.number takes None 0 l.items)
