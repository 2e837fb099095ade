-- Row by row the fresh rows of the plan; and a fresh table keeps the bound.
use Rattle.std.proofs.Common.{◌≡◌, ℕ, ◌≤◌, List, [], ◌∷◌, ◌++◌, length, take, sym, ap, ◌∙◌, subst, arith, length-set}
use Rattle.std.proofs.lemmas.List.{take_more_set, take_all, length-take}
use Rattle.plan.specs.Plan.{rows_of}
use Rattle.plan.proofs.Adding.{rows_sound}
use Rattle.server.specs.declared.row.Row.{Row}
use Rattle.server.specs.Tick.{fresh_rows}
use Rattle.server.specs.Demand.{Sound}
use Rattle.server.proofs.Bound.{arrival_keeps, tick_keeps, nothing_left}
use Rattle.server.proofs.Fresh.{fresh_keeps, fresh_more}
use Rattle.server.proofs.table.Table.of.Goals as goal

pub loop-k-preserved : goal.loop-k-preserved
loop-k-preserved c =
    let all = c.rows-all.result.now in
    let rows = c.loop-k.rows in
    let k = c.loop-k.k in
    let few : length all ≤ 32 = omega (arith, ap length c.rows-all.ensures, length-take c.args.plan.now.count c.args.plan.now.rows, c.args.plan.now.room) in (
      length-set rows k c.fresh.result ∙ c.loop-k.invariant.0,
      take_more_set rows k c.fresh.result (omega (arith, c.loop-k.invariant.0, few))
          ∙ ap (λ (s : List Row). s ++ (c.fresh.result ∷ [])) c.loop-k.invariant.1
          ∙ ap (λ (row : Row). fresh_rows 0 (take k all) ++ (row ∷ [])) c.fresh.ensures
          ∙ sym (fresh_more all k (omega arith)),
    )

pub returns : goal.returns
returns c =
    let all = c.rows-all.result.now in
    let p = c.args.plan.now in
    let k = c.loop-k.k in
    let last : k ≡ length all = omega arith in
    let whole : take (length all) c.loop-k.rows ≡ fresh_rows 0 (rows_of p) =
    ap (λ (n : ℕ). take n c.loop-k.rows) (sym last)
    ∙ c.loop-k.invariant.1
    ∙ ap (fresh_rows 0) (take_all k all (omega arith))
    ∙ ap (fresh_rows 0) c.rows-all.ensures in
    record {
      rows = whole;
      bound = subst (Sound 0) (sym whole) (fresh_keeps (rows_of p) (rows_sound p) (omega (arith, p.light, p.loads)));
      arrival = arrival_keeps;
      tick = tick_keeps;
      nothing_left = nothing_left;
    }
