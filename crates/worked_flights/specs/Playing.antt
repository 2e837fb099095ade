-- The three rules, as their implementations state them, and what is listed of a trace played under a rule from the start.
use Rattle.std.specs.Prelude.{ℕ, List, [], ◌∷◌, ◌++◌, length, replicate, Some, None, Ok, Err, codes, Option, Result}
use Prim.Native.String.{String}
use Rattle.plan.specs.declared.terms.Terms.{Terms}
use Rattle.faults.specs.declared.placed.Placed.{Placed}
use Rattle.donor.specs.declared.allowance.Allowance.{Allowance}
use Rattle.donor.specs.declared.earliest_first.EarliestFirst.{EarliestFirst}
use Rattle.donor.specs.declared.rule.DonorRule.{Ghosts}
use Rattle.donor.specs.declared.turns.Turns.{Turns}
use Rattle.donor.specs.contracts.allowance.AllowanceDonorRule.TheImpl as allowance_rule
use Rattle.donor.specs.contracts.earliest_first.EarliestFirst as earliest_type
use Rattle.donor.specs.contracts.earliest_first.EarliestFirstDonorRule.TheImpl as earliest_rule
use Rattle.donor.specs.contracts.turns.TurnsDonorRule.TheImpl as turns_rule
use Rattle.executive.specs.Calls.{State, fresh_state}
use Rattle.flight.specs.declared.fault.FlightFault.{FlightFault}
use Rattle.flight.specs.Flight.{Flown, played}
use Rattle.flight.specs.Listing.{newline, header_text, lines_text, end_text}

-- a rule: its letter, the choice and step of its implementation, and how it starts
pub record Rule (R : Type 0) : Type 1 where
  pub letter : ℕ
  pub ghosts : Ghosts R
  pub first : R

-- E: the earliest offer
abbrev pub E : Rule EarliestFirst
E = record { letter = 69; ghosts = earliest_rule.ghosts; first = record {} }

-- T: the offers in turns
abbrev pub T : Rule Turns
T = record { letter = 84; ghosts = turns_rule.ghosts; first = record { last = None } }

-- A: an allowance of one tick a frame over E
abbrev pub A : Rule (Allowance EarliestFirst)
A = record {
  letter = 65;
  ghosts = allowance_rule.ghosts earliest_type.the_row earliest_rule.ghosts earliest_rule.dict;
  first = record { limit = 1; tally = record { frame = 0; counts = replicate 32 0 }; below = record {} };
}

module _ {R : Type 0} (rule : Rule R) where
  -- a fresh executive of a plan
  abbrev pub start : List Terms → State R
  start plan = fresh_state plan rule.first

  -- what is flown when a trace is played on it
  abbrev pub flown : List Terms → List ℕ → Flown R (Placed FlightFault)
  flown plan trace = played rule.ghosts.choice rule.ghosts.step trace (start plan)

  -- the text that is listed
  abbrev pub listed : List Terms → List ℕ → List ℕ
  listed plan trace = header_text rule.letter (length plan) ++ (lines_text (flown plan trace).lines ++ end_text (flown plan trace).fault)

-- lines of text
abbrev pub text : List String → List ℕ
text [] = []
text (line ∷ lines) = codes line ++ (newline ++ text lines)

-- the number of an answer's fault, if it has one
abbrev pub number_in : {A F : Type 0} → (F → ℕ) → Result A F → Option ℕ
number_in number (Ok answer) = None
number_in number (Err fault) = Some (number fault)
