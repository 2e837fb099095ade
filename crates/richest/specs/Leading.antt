-- The best so far is an offer that none so far is richer than, and one more offer keeps that.
use Rattle.std.specs.Prelude.{◌≡◌, ℕ, zero, suc, ◌+◌, ◌<◌, ◌≤◌, Bool, true, false, cond, List, [], ◌∷◌, length, get_or, drop, Some, nat_lt, slice_index_or}
use Rattle.std.proofs.Math.Path.{refl, subst}
use Rattle.std.proofs.Common.{ap, sym, ◌∙◌, below_more, add-one}
use native.Mathlib.Omega.{arith}
use Rattle.std.proofs.lemmas.List.{at_drop_more, at_drop_all}
use Rattle.std.proofs.lemmas.Bool.{ltb-true, ltb-false}
use Rattle.donor.specs.declared.offer.Offer.{Offer}
use Rattle.donor.specs.Rules.{blank_offer}
use Rattle.richest.specs.declared.Best.{Best}
use Rattle.richest.specs.Richest.{richer, richest_from, start, richest_choice, IsRichest}

module _ (offers : List Offer) where
  capacity : ℕ → ℕ
  capacity j = (get_or offers j blank_offer).capacity

  record Leads (i : ℕ) (b : Best) : Type 0 where
    inside : b.position < length offers
    real : b.capacity ≤ capacity b.position
    most : (j : ℕ) → j < i → capacity j ≤ b.capacity

  by_capacity : (more : Bool) (i : ℕ) (b : Best) → nat_lt b.capacity (capacity i) ≡ more → i < length offers → Leads i b → Leads (i + 1) (cond more (record { position = i; capacity = capacity i }) b)
  by_capacity true i b order inside leads = record {
    inside = inside;
    real = omega arith;
    most = below_more _ i (λ j h. omega (arith, leads.most j h, ltb-true b.capacity (capacity i) order)) (omega arith);
  }
  by_capacity false i b order inside leads = record {
    inside = leads.inside;
    real = leads.real;
    most = below_more _ i leads.most (ltb-false b.capacity (capacity i) order);
  }

  -- one turn of the loop
  pub one_more : (b : Best) (i : ℕ) → i < length offers → richest_from b i (drop i offers) ≡ richest_from (richer b i (slice_index_or offers i blank_offer)) (i + 1) (drop (i + 1) offers)
  one_more b i inside =
      at_drop_more (richest_from b i) offers i blank_offer inside
      ∙ ap (λ (m : ℕ). richest_from (richer b i (slice_index_or offers i blank_offer)) m (drop (i + 1) offers)) (sym (add-one i))

  pub all_done : (b : Best) (i : ℕ) → length offers ≤ i → richest_from b i (drop i offers) ≡ b
  all_done b i past = at_drop_all (richest_from b i) offers i past

  to_the_end : (n i : ℕ) (b : Best) → i + n ≡ length offers → Leads i b → Leads (length offers) (richest_from b i (drop i offers))
  unfolding capacity
  to_the_end zero i b e leads = subst (λ c. Leads (length offers) c) (sym (all_done b i (omega arith))) (subst (λ (m : ℕ). Leads m b) e' leads)
    where
      e' : i ≡ length offers
      e' = omega arith
  to_the_end (suc n) i b e leads =
      let inside : i < length offers = omega arith in
      subst (λ c. Leads (length offers) c) (sym (one_more b i inside))
      (to_the_end n (i + 1) (richer b i (slice_index_or offers i blank_offer)) (omega arith) (by_capacity (nat_lt b.capacity (capacity i)) i b refl inside leads))

  pub richest_leads : 0 < length offers → IsRichest offers (Some (richest_from start 0 offers).position)
  unfolding capacity
  richest_leads some =
      let leads = to_the_end (length offers) 0 start (omega arith) (record { inside = some; real = omega arith; most = λ j h. absurd (omega arith) }) in
      (leads.inside, λ j h. omega (arith, leads.most j h, leads.real))

pub is_richest : (offers : List Offer) → IsRichest offers (richest_choice offers)
is_richest [] = refl
is_richest (o ∷ offers) = richest_leads (o ∷ offers) (omega arith)

pub picked_inside : (offers : List Offer) (k : ℕ) → richest_choice offers ≡ Some k → k < length offers
picked_inside offers k picked = (subst (IsRichest offers) picked (is_richest offers)).0

-- with offers there is a choice
pub some_choice : (offers : List Offer) → 0 < length offers → richest_choice offers ≡ Some (richest_from start 0 offers).position
some_choice [] none = absurd (omega arith)
some_choice (o ∷ offers) some = refl
