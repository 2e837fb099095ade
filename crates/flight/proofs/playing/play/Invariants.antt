use Rattle.std.proofs.Common.{◌≡◌, ℕ, ◌+◌, ◌-◌, ◌*◌, ◌/◌, ◌%◌, length}
use Rattle.flight.specs.Flight.{flown_from, played}
use Rattle.flight.proofs.Flying.{Completes}
use Rattle.flight.proofs.playing.play.Given as goal

-- whoever flies the records that are left has flown the trace
abbrev pub invariant-loop-byte : goal.invariant-loop-byte
invariant-loop-byte g l =
    let from = flown_from g.R.DonorRule.choice g.R.DonorRule.step l.trace in
    let whole = played g.R.DonorRule.choice g.R.DonorRule.step l.trace l.initial.executive in
    (k : ℕ) × (l.byte ≡ 2 * k) × Completes g.L.Listener.heard (from k (length l.trace / 2 + length l.trace % 2 - k) l.executive) l.listener whole l.initial.listener

abbrev pub decreases-loop-byte : goal.decreases-loop-byte
decreases-loop-byte g l = length l.trace - l.byte
