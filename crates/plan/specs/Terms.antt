-- The terms of one server, their limits and what they weigh.
use Rattle.std.specs.Prelude.{ℕ, ◌*◌, ◌/◌, ◌%◌, Bool, not, ◌||◌, ◌==◌, cond, Ok, Err, Result, nat_lt}
use Rattle.plan.specs.declared.fault.PlanFault.{PlanFault}
use Rattle.plan.specs.declared.fault.PlanFault.TheVariants.{Period, Budget}
use Rattle.plan.specs.declared.terms.Kind.TheVariants.{NonIsolated}
use Rattle.plan.specs.declared.terms.Terms.{Terms}

-- the common multiple of all periods, in ticks
abbrev pub common_multiple : ℕ
common_multiple = 14400

-- how many rows a plan can have
abbrev pub most_rows : ℕ
most_rows = 32

-- a period that no server may have: zero, or no divisor of the common multiple
abbrev pub bad_period : ℕ → Bool
bad_period p = p == 0 || not (common_multiple % p == 0)

-- a budget that no server of this period may have: zero, or above the period
abbrev pub bad_budget : ℕ → ℕ → Bool
bad_budget q p = q == 0 || nat_lt p q

-- whether a server may have these terms: if not, the first limit that they break
abbrev pub checked : Terms → Result (Unit {0}) PlanFault
checked t = cond (bad_period t.period) (Err Period) (cond (bad_budget t.budget t.period) (Err Budget) (Ok tt))

-- what a server weighs: the ticks that it is owed in one common multiple
abbrev pub weight_of : Terms → ℕ
weight_of t = t.budget * (common_multiple / t.period)

-- the row that an unused place of a table holds
abbrev pub blank : Terms
blank = record { kind = NonIsolated; budget = 0; period = 0 }
