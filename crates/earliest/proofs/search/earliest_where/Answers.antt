-- What is left to look at gives the same answer as the whole.
use Rattle.std.proofs.Common.{◌≡◌, ◌+◌, ◌<◌, drop, length, IfSome, sym, ap, ◌∙◌, subst, arith, refl}
use Rattle.std.proofs.lemmas.Grind.{common_steps}
use Rattle.earliest.specs.Earliest.{after, after_all, earliest_of, IsEarliest}
use Rattle.earliest.proofs.First.{against_inside, one_more, is_earliest}
use Rattle.earliest.proofs.search.earliest_where.Goals as goal
use Rattle.earliest.proofs.search.earliest_where.Goals.{then-takes_part, else-takes_part}

pub loop-position-preserved : goal.loop-position-preserved
loop-position-preserved g c =
    let m = g.C.Contender in
    let xs = c.args.items.now in
    let i = c.loop-position.position in
    let x = c.index-items-position.result in
    let old = c.loop-position.best in (
      elim c.if-takes_part.branch [
        | then-takes_part w ↦ subst (λ best. IfSome best (λ b. b.position < length xs)) (sym (w.best-is ∙ w.earlier.ensures)) (against_inside (length xs) old _ c.loop-position.invariant.0 (omega arith))
        | else-takes_part w ↦ subst (λ best. IfSome best (λ b. b.position < length xs)) (sym w.best-is) c.loop-position.invariant.0
      ],
      λ takes tells.
          let told : c.takes_part.result ≡ takes x = tells x c.takes_part.result (record { shown = _; shows = refl; says = record { met = c.takes_part.ensures } }) in
          let held : c.if-takes_part.best ≡ after m.deadline m.number takes old i x = elim c.if-takes_part.branch [
            | then-takes_part w ↦ rw (← told, w.if-takes_part.true) (w.best-is ∙ w.earlier.ensures)
            | else-takes_part w ↦ rw (← told, w.if-takes_part.false) w.best-is
          ] in
          ap (λ best. after_all m.deadline m.number takes best (i + 1) (drop (i + 1) xs)) held
          ∙ sym (one_more m.deadline m.number takes xs old i x (omega arith) c.index-items-position.is)
          ∙ c.loop-position.invariant.1 takes tells,
    )

pub returns-clause-value : goal.returns-clause-value
returns-clause-value g c = λ takes tells. grind (arith, common_steps)

pub returns-clause-earliest : goal.returns-clause-earliest
returns-clause-earliest g c = λ takes tells.
    let m = g.C.Contender in
    let xs = c.args.items.now in
    let value : c.map.result ≡ earliest_of m.deadline m.number takes xs = returns-clause-value g c takes tells in
    subst (IsEarliest m.deadline m.number takes xs) (sym value) (is_earliest m.deadline m.number takes xs)
