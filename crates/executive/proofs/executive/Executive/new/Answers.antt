-- The law holds of every run from a fresh state.
use Rattle.std.proofs.Common.{ℕ, ◌≤◌, List, sum_by, sym, ap, ◌∙◌, subst, arith}
use Rattle.plan.specs.Plan.{rows_of}
use Rattle.plan.specs.Terms.{common_multiple, weight_of}
use Rattle.plan.proofs.Adding.{rows_sound}
use Rattle.server.specs.declared.row.Row.{Row}
use Rattle.server.specs.Table.{table_rows}
use Rattle.executive.specs.Shares.{LawOfShares}
use Rattle.executive.proofs.Law.{law}
use Rattle.executive.proofs.executive.Executive.new.Goals as goal

pub returns-clause-law : goal.returns-clause-law
returns-clause-law g c =
    let p = c.args.plan.now in
    let choice = g.R.DonorRule.choice in
    let step = g.R.DonorRule.step in
    let light : sum_by weight_of (rows_of p) ≤ common_multiple = omega (arith, p.light, p.loads) in
    let is =
    ap (λ (t : ℕ). record { instant = t; rows = table_rows c.of.result; rule = c.args.rule }) c.start.ensures
    ∙ ap (λ (rows : List Row). record { instant = 0; rows = rows; rule = c.args.rule }) c.of.ensures.rows in
    subst (LawOfShares choice step (rows_of p)) (sym is) (law choice step (λ rule t. g.met.R.DonorRule.inside rule t) (rows_of p) (rows_sound p) light c.args.rule)
