-- A record without a fault is followed by the others; one with a fault ends the flight.
use Rattle.std.proofs.Common.{◌≡◌, ◌+◌, ◌-◌, ◌/◌, ◌%◌, length, Ok, Err, sym, ap, ◌∙◌, arith}
use Rattle.std.proofs.lemmas.Result.{err_from_is_err_and}
use Rattle.flight.proofs.Flying.{flies_landed}
use Rattle.flight.proofs.Recording.{record_more, record_ended}
use Rattle.flight.proofs.playing.play.Goals as goal

pub returns-in_err-located : goal.returns-in_err-located
returns-in_err-located g c =
    let trace = c.args.trace.now in
    let n = length trace / 2 + length trace % 2 in
    let k = c.loop-byte.invariant.0 in
    let placed = c.in_err-located.field-0.0 in
    let after = c.fly_at.new.executive in
    let new = c.fly_at.new.listener in
    let x = err_from_is_err_and c.from_residual.result c.from_residual.ensures.1 in
    let last = record_ended g.L.Listener.heard g.R.DonorRule.choice g.R.DonorRule.step trace c.loop-byte.byte k (n - k) (n - (k + 1)) c.loop-byte.executive c.fly_at.result after c.loop-byte.listener new placed c.loop-byte.invariant.1 (omega arith) (sym c.located.ensures ∙ c.in_err-located.was) c.fly_at.ensures in
    let all = c.loop-byte.invariant.2 (Err placed) after new last in
    record { answer = x.1 ∙ ap Err x.2 ∙ all.answers; state = all.stands; heard = all.hears }

pub loop-byte-preserved : goal.loop-byte-preserved
loop-byte-preserved g c =
    let trace = c.args.trace.now in
    let n = length trace / 2 + length trace % 2 in
    let k = c.loop-byte.invariant.0 in
    let more = record_more g.L.Listener.heard g.R.DonorRule.choice g.R.DonorRule.step trace c.loop-byte.byte k (n - k) (n - (k + 1)) c.loop-byte.executive c.fly_at.result c.fly_at.new.executive c.loop-byte.listener c.fly_at.new.listener c.loop-byte.invariant.1 (omega arith) (sym c.located.ensures ∙ c.in_ok-located.was) c.fly_at.ensures in
    (k + 1, omega (arith, c.loop-byte.invariant.1), λ answer after new rest. c.loop-byte.invariant.2 answer after new (more answer after new rest))

pub returns : goal.returns
returns g c =
    let trace = c.args.trace.now in
    let state = c.loop-byte.executive in
    let listener = c.loop-byte.listener in
    let none : length trace / 2 + length trace % 2 - c.loop-byte.invariant.0 ≡ 0 = omega (arith, c.loop-byte.invariant.1) in
    let all = c.loop-byte.invariant.2 (Ok tt) state listener (rw none (flies_landed g.L.Listener.heard state listener)) in
    record { answer = all.answers; state = all.stands; heard = all.hears }

pub returns-in_ok-located : goal.returns-in_ok-located
returns-in_ok-located g c =
    let trace = c.args.trace.now in
    let n = length trace / 2 + length trace % 2 in
    let k = c.loop-byte.invariant.0 in
    let after = c.fly_at.new.executive in
    let new = c.fly_at.new.listener in
    let none : n - (k + 1) ≡ 0 = omega (arith, c.loop-byte.invariant.1) in
    let last = record_more g.L.Listener.heard g.R.DonorRule.choice g.R.DonorRule.step trace c.loop-byte.byte k (n - k) 0 c.loop-byte.executive c.fly_at.result after c.loop-byte.listener new c.loop-byte.invariant.1 (omega (arith, c.loop-byte.invariant.1)) (sym c.located.ensures ∙ c.in_ok-located.was) c.fly_at.ensures (Ok tt) after new (flies_landed g.L.Listener.heard after new) in
    let all = c.loop-byte.invariant.2 (Ok tt) after new last in
    record { answer = all.answers; state = all.stands; heard = all.hears }
