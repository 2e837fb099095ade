-- What each rule chooses, and how its state goes on.
use Rattle.std.specs.Prelude.{ℕ, suc, true, cond, List, [], ◌∷◌, Some, None, Option, nat_lt}
use Rattle.earliest.specs.Earliest.{earliest_of}
use Rattle.donor.specs.declared.offer.Offer.{Offer}
use Rattle.donor.specs.declared.turns.Turns.{Turns}

-- what stands in no place of the offers
abbrev pub blank_offer : Offer
blank_offer = record { server = 0; deadline = 0; capacity = 0 }

-- the step of a rule that remembers nothing
abbrev pub same_state : {R : Type 0} → R → ℕ → ℕ → ℕ → R
same_state rule instant thief payer = rule

-- nobody, whatever is offered
abbrev pub nobody_choice : List Offer → Option ℕ
nobody_choice offers = None

-- the earliest offer: the smallest deadline, then the smallest number
abbrev pub earliest_choice : List Offer → Option ℕ
earliest_choice offers = earliest_of (λ (o : Offer). o.deadline) (λ (o : Offer). o.server) (λ _. true) offers

-- the position, from i on, of the first offer numbered above a server
abbrev pub first_above : ℕ → ℕ → List Offer → Option ℕ
first_above server i [] = None
first_above server i (o ∷ offers) = cond (nat_lt server o.server) (Some i) (first_above server (suc i) offers)

-- the first offer, if there is one
abbrev pub first_of : List Offer → Option ℕ
first_of [] = None
first_of (o ∷ offers) = Some 0

abbrev pub or_else : Option ℕ → Option ℕ → Option ℕ
or_else None other = other
or_else (Some k) other = Some k

-- after nobody, the first offer; after a payer, the first numbered above it, else the first
abbrev pub turns_choice : Option ℕ → List Offer → Option ℕ
turns_choice None offers = first_of offers
turns_choice (Some payer) offers = or_else (first_above payer 0 offers) (first_of offers)

-- whoever pays is the last payer
abbrev pub turns_step : Turns → ℕ → ℕ → ℕ → Turns
turns_step rule instant thief payer = record { last = Some payer }
