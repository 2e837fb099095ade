-- A tick that is granted is followed by the others; one that is refused ends it.
use Rattle.std.proofs.Common.{◌≡◌, suc, ◌+◌, ◌-◌, Ok, Err, arith}
use Rattle.std.proofs.lemmas.Result.{err_from_is_err_and}
use Rattle.flight.proofs.Flying.{flies_landed, tick_more, tick_ended}
use Rattle.flight.proofs.playing.fly_ticks.Goals as goal

pub returns-in_err-fly_tick : goal.returns-in_err-fly_tick
returns-in_err-fly_tick g c =
    let left = c.args.count - (c.loop.counter + 1) in
    let next : c.args.count - c.loop.counter ≡ suc left = omega arith in
    let x = err_from_is_err_and c.from_residual.result c.from_residual.ensures.1 in
    rw (x.1, x.2)
    (c.loop.invariant (Err c.in_err-fly_tick.field-0.0) c.fly_tick.new.executive c.fly_tick.new.listener
    (rw next (tick_ended g.L.Listener.heard g.R.DonorRule.choice g.R.DonorRule.step left c.in_err-fly_tick.field-0.0 c.loop.executive c.fly_tick.new.executive c.loop.listener c.fly_tick.new.listener (rw c.in_err-fly_tick.was at c.fly_tick.ensures))))

pub loop-preserved : goal.loop-preserved
loop-preserved g c answer after new rest =
    let left = c.args.count - (c.loop.counter + 1) in
    let next : c.args.count - c.loop.counter ≡ suc left = omega arith in
    c.loop.invariant answer after new
    (rw next (tick_more g.L.Listener.heard g.R.DonorRule.choice g.R.DonorRule.step left c.loop.executive c.fly_tick.new.executive c.loop.listener c.fly_tick.new.listener (rw c.in_ok-fly_tick.was at c.fly_tick.ensures) answer after new rest))

pub returns : goal.returns
returns g c =
    let none : c.args.count - c.loop.counter ≡ 0 = omega arith in
    c.loop.invariant (Ok tt) c.loop.executive c.loop.listener (rw none (flies_landed g.L.Listener.heard c.loop.executive c.loop.listener))
