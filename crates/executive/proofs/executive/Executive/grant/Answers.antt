-- A tick that is granted keeps the bound.
use Rattle.std.proofs.Common.{◌≡◌, suc, ap, ◌∙◌, sym, subst}
use Rattle.server.specs.Table.{table_rows}
use Rattle.server.specs.Turn.{runner_of}
use Rattle.executive.specs.Calls.{choice_at, payment_at}
use Rattle.executive.proofs.Charging.{tick_sound}
use Rattle.executive.proofs.executive.Executive.grant.Goals as goal

pub invariant_of-self : goal.invariant_of-self
invariant_of-self g c =
    let before = c.self.inside in
    let turn = c.args.turn in
    let next = subst (λ s. c.args.next.ticks ≡ suc s.instant) (sym c.self.view_is) c.requires.next in
    let runner = subst (λ s. turn.runner ≡ runner_of (choice_at g.R.DonorRule.choice s) s.instant s.rows) (sym c.self.view_is) c.requires.runner in
    let payment = subst (λ s. turn.payment ≡ payment_at (choice_at g.R.DonorRule.choice s) s.instant s.rows) (sym c.self.view_is) c.requires.payment in
    tick_sound (g.R.DonorRule.choice before.rule before.instant.ticks) before.instant.ticks c.args.finished (table_rows before.table) (g.met.R.DonorRule.inside before.rule before.instant.ticks) c.self.invariant turn.runner turn.payment runner payment c.args.next.ticks (table_rows c.carry_out-answer.new.table) next c.carry_out-answer.ensures.rows

pub returns-clause-bound : goal.returns-clause-bound
returns-clause-bound g c = invariant_of-self g c
