-- The clock.
use Rattle.std.specs.Prelude.{ℕ}

-- the last instant: there the clock stops
abbrev pub last_instant : ℕ
last_instant = 4000000000
