-- The plans of the worked flights, and their traces. Terms are written as a budget and a period.
use Rattle.std.specs.Prelude.{ℕ, List, [], ◌∷◌}
use Rattle.plan.specs.declared.terms.Kind.TheVariants.{NonIsolated, Isolated}
use Rattle.plan.specs.declared.terms.Terms.{Terms}

abbrev pub non_isolated : ℕ → ℕ → Terms
non_isolated budget period = record { kind = NonIsolated; budget = budget; period = period }

abbrev pub isolated : ℕ → ℕ → Terms
isolated budget period = record { kind = Isolated; budget = budget; period = period }

-- a full plan: one server that may be stolen from, and two that may not
abbrev pub survey : List Terms
survey = non_isolated 2 5 ∷ isolated 4 10 ∷ isolated 3 15 ∷ []

-- its file: the number of rows, and four bytes for each
abbrev pub survey_file : List ℕ
survey_file = 0x03 ∷ 0x00 ∷ 0x00 ∷ 0x80 ∷ 0x05 ∷ 0x80 ∷ 0x01 ∷ 0x00 ∷ 0x0A ∷ 0x80 ∷ 0x00 ∷ 0xC0 ∷ 0x0F ∷ []

-- jobs for 1 and 2, two ticks, a finish, six ticks, a job for 1, two ticks
abbrev pub survey_trace : List ℕ
survey_trace = 0x40 ∷ 0x01 ∷ 0x40 ∷ 0x02 ∷ 0x00 ∷ 0x02 ∷ 0x80 ∷ 0x00 ∷ 0x00 ∷ 0x06 ∷ 0x40 ∷ 0x01 ∷ 0x00 ∷ 0x02 ∷ []

-- server 0 wakes late
abbrev pub waker : List Terms
waker = non_isolated 8 20 ∷ isolated 2 4 ∷ isolated 1 30 ∷ []

-- a job for 2, a tick, a finish; fifteen ticks; jobs for 0 and 1, three ticks
abbrev pub waker_robbed : List ℕ
waker_robbed = 0x40 ∷ 0x02 ∷ 0x00 ∷ 0x01 ∷ 0x80 ∷ 0x00 ∷ []

abbrev pub waker_resting : List ℕ
waker_resting = 0x40 ∷ 0x02 ∷ 0x00 ∷ 0x01 ∷ 0x80 ∷ 0x00 ∷ 0x00 ∷ 0x0F ∷ []

abbrev pub waker_trace : List ℕ
waker_trace = 0x40 ∷ 0x02 ∷ 0x00 ∷ 0x01 ∷ 0x80 ∷ 0x00 ∷ 0x00 ∷ 0x0F ∷ 0x40 ∷ 0x00 ∷ 0x40 ∷ 0x01 ∷ 0x00 ∷ 0x03 ∷ []

-- two servers with half of the ticks each
abbrev pub halves : List Terms
halves = isolated 2 4 ∷ isolated 2 4 ∷ []

-- server 2 steals from 0 and 1
abbrev pub one_thief : List Terms
one_thief = non_isolated 2 4 ∷ non_isolated 1 4 ∷ isolated 2 8 ∷ []

-- a job for 2; three ticks, and a fourth
abbrev pub thief_before : List ℕ
thief_before = 0x40 ∷ 0x02 ∷ 0x00 ∷ 0x03 ∷ []

abbrev pub thief_trace : List ℕ
thief_trace = 0x40 ∷ 0x02 ∷ 0x00 ∷ 0x04 ∷ []
