-- Who runs and who pays, over the rows of a table, for any donor choice. A row's number is its place.
use Rattle.std.specs.Prelude.{ℕ, ◌+◌, Bool, true, false, cond, ◌&&◌, List, [], ◌∷◌, get_or, is_some, Some, None, Option, nat_le, nat_lt, slice_index_or}
use Rattle.earliest.specs.Earliest.{earliest_of}
use Rattle.plan.specs.declared.terms.Kind.{Kind}
use Rattle.plan.specs.declared.terms.Kind.TheVariants.{NonIsolated, Isolated}
use Rattle.donor.specs.declared.offer.Offer.{Offer}
use Rattle.donor.specs.Rules.{blank_offer}
use Rattle.plan.specs.Terms.{blank}
use Rattle.server.specs.declared.row.Phase.{Phase}
use Rattle.server.specs.declared.row.Phase.TheVariants.{Resting, AtWork, Supplying}
use Rattle.server.specs.declared.row.Row.{Row}
use Rattle.server.specs.declared.turn.Payment.{Payment}
use Rattle.server.specs.declared.turn.Source.TheVariants.{Own, Residual, Stolen, Idle}
use Rattle.server.specs.Row.{fresh_row}

-- a donor choice: by the thief's number and the offers, a position in the offers or nobody
abbrev pub Choice : Type 0
Choice = ℕ → List Offer → Option ℕ

-- the row that stands in no place
abbrev pub blank_row : Row
blank_row = fresh_row 0 blank

abbrev pub is_at_work : Phase → Bool
is_at_work Resting = false
is_at_work AtWork = true
is_at_work Supplying = false

abbrev pub is_supplying : Phase → Bool
is_supplying Resting = false
is_supplying AtWork = false
is_supplying Supplying = true

-- whether a row has something to supply, and whether it is due by a deadline
abbrev pub supplies : Row → Bool
supplies row = is_supplying row.phase && nat_lt 0 row.account.residual

abbrev pub supplies_by : ℕ → Row → Bool
supplies_by deadline row = supplies row && nat_le row.account.deadline deadline

-- the earliest row that a mark holds of: the smallest deadline, then the smallest number
abbrev pub earliest_row : (Row → Bool) → List Row → Option ℕ
earliest_row takes rows = earliest_of (λ (row : Row). row.account.deadline) (λ (row : Row). row.number) takes rows

-- An offer: a resting row that is not isolated, which a thief with this deadline may steal from at instant t.
-- One whose deadline is still to come, no later than the thief's, shows what it holds; one whose deadline has
-- passed shows what it would hold after a recharge, if its deadline would then come no later than the thief's.
abbrev pub offer_shown : ℕ → ℕ → Row → Option Offer
offer_shown t deadline row =
    cond (nat_le row.account.deadline t)
    (cond (nat_le (t + row.terms.period) deadline) (Some (record { server = row.number; deadline = t + row.terms.period; capacity = row.terms.budget })) None)
    (cond (nat_le row.account.deadline deadline && nat_lt 0 row.account.capacity) (Some (record { server = row.number; deadline = row.account.deadline; capacity = row.account.capacity })) None)

abbrev pub offer_in : Phase → Kind → ℕ → ℕ → Row → Option Offer
offer_in Resting NonIsolated t deadline row = offer_shown t deadline row
offer_in Resting Isolated t deadline row = None
offer_in AtWork kind t deadline row = None
offer_in Supplying kind t deadline row = None

abbrev pub offer_of : ℕ → ℕ → Row → Option Offer
offer_of t deadline row = offer_in row.phase row.terms.kind t deadline row

abbrev pub join_offer : Option Offer → List Offer → List Offer
join_offer None offers = offers
join_offer (Some offer) offers = offer ∷ offers

-- all offers to a thief with this deadline, by rising number
abbrev pub offers_to : ℕ → ℕ → List Row → List Offer
offers_to t deadline [] = []
offers_to t deadline (row ∷ rows) = join_offer (offer_of t deadline row) (offers_to t deadline rows)

-- the first of two that is there
abbrev pub or_else : {X : Type 0} → Option X → Option X → Option X
or_else None other = other
or_else (Some x) other = Some x

-- the three sources of a row at work: what is supplied by its deadline, its own capacity, and theft
abbrev pub from_residual : Option ℕ → Option Payment
from_residual None = None
from_residual (Some payer) = Some (record { payer = payer; source = Residual })

abbrev pub from_own : Row → Option Payment
from_own row = cond (nat_lt 0 row.account.capacity) (Some (record { payer = row.number; source = Own })) None

abbrev pub stolen_from : List Offer → Option ℕ → Option Payment
stolen_from offers None = None
stolen_from offers (Some k) = Some (record { payer = (get_or offers k blank_offer).server; source = Stolen })

-- the rule is asked only where there is an offer
abbrev pub from_theft : Choice → ℕ → List Offer → Option Payment
from_theft choice thief [] = None
from_theft choice thief (offer ∷ offers) = stolen_from (offer ∷ offers) (choice thief (offer ∷ offers))

-- who pays for a row at work, if anybody: the sources are tried in turn
abbrev pub payment_for : Choice → ℕ → List Row → Row → Option Payment
payment_for choice t rows row =
    or_else (from_residual (earliest_row (supplies_by row.account.deadline) rows))
    (or_else (from_own row) (from_theft choice row.number (offers_to t row.account.deadline rows)))

-- whether a row can run: it is at work, and somebody pays
abbrev pub can_run : Choice → ℕ → List Row → Row → Bool
can_run choice t rows row = is_at_work row.phase && is_some (payment_for choice t rows row)

-- the runner: by deadline and then by number, the first row at work that can run
abbrev pub runner_of : Choice → ℕ → List Row → Option ℕ
runner_of choice t rows = earliest_row (can_run choice t rows) rows

-- who pays in the tick: for the runner, or for idle time
abbrev pub idle_payment : Option ℕ → Option Payment
idle_payment None = None
idle_payment (Some payer) = Some (record { payer = payer; source = Idle })

abbrev pub payment_of : Choice → ℕ → List Row → Option ℕ → Option Payment
payment_of choice t rows None = idle_payment (earliest_row supplies rows)
payment_of choice t rows (Some k) = payment_for choice t rows (slice_index_or rows k blank_row)
