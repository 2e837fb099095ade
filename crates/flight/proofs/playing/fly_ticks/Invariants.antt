use Rattle.std.proofs.Common.{◌-◌}
use Rattle.flight.specs.Flight.{flown_ticks}
use Rattle.flight.proofs.Flying.{Completes}
use Rattle.flight.proofs.playing.fly_ticks.Given as goal

-- whoever flies the ticks that are left has flown them all
abbrev pub invariant-loop : goal.invariant-loop
invariant-loop g l =
    let ticks = flown_ticks g.R.DonorRule.choice g.R.DonorRule.step in
    Completes g.L.Listener.heard (ticks (l.count - l.counter) l.executive) l.listener (ticks l.count l.initial.executive) l.initial.listener
