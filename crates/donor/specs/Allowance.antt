-- The allowance over any rule: at most so many stolen ticks for a thief in a frame.
use Rattle.std.specs.Prelude.{ℕ, Bool, cond, ◌&&◌, List, None, Option, nat_le, nat_lt}
use Rattle.donor.specs.declared.allowance.Allowance.{Allowance}
use Rattle.donor.specs.declared.offer.Offer.{Offer}
use Rattle.donor.specs.declared.tally.Tally.{Tally}
use Rattle.donor.specs.Tally.{counted_servers, count_at, noted}

-- whether a thief that is counted has reached the limit
abbrev pub at_limit : ℕ → Tally → ℕ → ℕ → Bool
at_limit limit tally instant thief = nat_lt thief counted_servers && nat_le limit (count_at tally instant thief)

-- a thief at the limit gets nobody, any other the choice of the rule below
abbrev pub allowance_choice : {R : Type 0} → (R → ℕ → ℕ → List Offer → Option ℕ) → Allowance R → ℕ → ℕ → List Offer → Option ℕ
allowance_choice choice a instant thief offers = cond (at_limit a.limit a.tally instant thief) None (choice a.below instant thief offers)

-- a step counts the thief, and makes the step of the rule below
abbrev pub allowance_step : {R : Type 0} → (R → ℕ → ℕ → ℕ → R) → Allowance R → ℕ → ℕ → ℕ → Allowance R
allowance_step step a instant thief payer = record { limit = a.limit; tally = noted a.tally instant thief; below = step a.below instant thief payer }
