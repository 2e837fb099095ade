-- Counts of stolen ticks in a frame, one for each server 0 to 31.
use Rattle.std.specs.Prelude.{ℕ, ◌+◌, ◌/◌, min, cond, List, replicate, ◌==◌, slice_index, slice_set}
use Rattle.donor.specs.declared.tally.Tally.{Tally}

-- how many ticks a frame has
abbrev pub frame_ticks : ℕ
frame_ticks = 14400

-- how many servers are counted
abbrev pub counted_servers : ℕ
counted_servers = 32

-- where a count stops
abbrev pub most_counted : ℕ
most_counted = 65535

-- the frame that an instant lies in
abbrev pub frame_of : ℕ → ℕ
frame_of instant = instant / frame_ticks

-- the counts as they read at an instant: in another frame than that of the last step they are all zero
abbrev pub counts_at : Tally → ℕ → List ℕ
counts_at tally instant = cond (tally.frame == frame_of instant) tally.counts (replicate counted_servers 0)

-- a server's count at an instant; a server that is not counted has none
abbrev pub count_at : Tally → ℕ → ℕ → ℕ
count_at tally instant server = slice_index (counts_at tally instant) server

-- one more for a server; one that is not counted changes nothing
abbrev pub counted_once : List ℕ → ℕ → List ℕ
counted_once counts server = slice_set counts server (min most_counted (slice_index counts server + 1))

-- the tally after a stolen tick at an instant
abbrev pub noted : Tally → ℕ → ℕ → Tally
noted tally instant server = record { frame = frame_of instant; counts = counted_once (counts_at tally instant) server }
