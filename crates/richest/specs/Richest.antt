-- The richest of some offers: the greatest capacity, and the first of several.
use Rattle.std.specs.Prelude.{◌≡◌, ℕ, suc, ◌<◌, ◌≤◌, cond, List, [], ◌∷◌, length, Some, None, Option, nat_lt, slice_index_or}
use Rattle.donor.specs.declared.offer.Offer.{Offer}
use Rattle.donor.specs.Rules.{blank_offer}
use Rattle.richest.specs.declared.Best.{Best}

-- the richer of the best so far and the offer at position i
abbrev pub richer : Best → ℕ → Offer → Best
richer best i o = cond (nat_lt best.capacity o.capacity) (record { position = i; capacity = o.capacity }) best

-- the same after all the offers, the first of which is at position i
abbrev pub richest_from : Best → ℕ → List Offer → Best
richest_from best i [] = best
richest_from best i (o ∷ offers) = richest_from (richer best i o) (suc i) offers

abbrev pub start : Best
start = record { position = 0; capacity = 0 }

abbrev pub richest_choice : List Offer → Option ℕ
richest_choice [] = None
richest_choice (o ∷ offers) = Some (richest_from start 0 (o ∷ offers)).position

-- nobody where nothing is offered, else an offer that no other is richer than
abbrev pub IsRichest : List Offer → Option ℕ → Type 0
IsRichest offers None = length offers ≡ 0
IsRichest offers (Some k) = (k < length offers) × ((j : ℕ) → j < length offers → (slice_index_or offers j blank_offer).capacity ≤ (slice_index_or offers k blank_offer).capacity)
