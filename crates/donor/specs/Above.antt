-- The first offer numbered above a server: it is one of the offers, and it is found from the front.
use Rattle.std.specs.Prelude.{◌≡◌, ℕ, suc, ◌+◌, ◌<◌, ◌≤◌, Bool, true, false, cond, ltb, List, [], ◌∷◌, length, drop, Some, None, Option, ◌≢◌, nat_lt, slice_index_or}
use Rattle.std.proofs.Common.{ap, sym, ◌∙◌, add-one, arith}
use Rattle.std.proofs.lemmas.List.{at_drop_more, at_drop_all}
use Rattle.std.proofs.lemmas.Bool.{lt-ltb, le-ltb}
use Rattle.donor.specs.declared.offer.Offer.{Offer}
use Rattle.donor.specs.Rules.{first_above, first_of, or_else, turns_choice}

no_two : {X : Type 0} {x : X} → None ≢ Some x
no_two e = let z : ◌≡◌ {A = ℕ} 0 1 = cc in omega arith

above_inside : (server i : ℕ) (offers : List Offer) (k : ℕ) → first_above server i offers ≡ Some k → k < i + length offers
above_inside server i [] k e = absurd (no_two e)
above_inside server i (o ∷ offers) k e = by_number (nat_lt server o.server) e (above_inside server (suc i) offers k)
  where
    by_number : (above : Bool) → cond above (Some i) (first_above server (suc i) offers) ≡ Some k → (first_above server (suc i) offers ≡ Some k → k < suc i + length offers) → k < i + suc (length offers)
    by_number true e rest = let same : i ≡ k = cc in omega arith
    by_number false e rest = omega (arith, rest e)

first_inside : (offers : List Offer) (k : ℕ) → first_of offers ≡ Some k → k < length offers
first_inside [] k e = absurd (no_two e)
first_inside (o ∷ offers) k e = let same : 0 ≡ k = cc in omega arith

or_inside : (a b : Option ℕ) (n k : ℕ) → (a ≡ Some k → k < n) → (b ≡ Some k → k < n) → or_else a b ≡ Some k → k < n
or_inside None b n k left right e = right e
or_inside (Some j) b n k left right e = left e

pub turns_inside : (last : Option ℕ) (offers : List Offer) (k : ℕ) → turns_choice last offers ≡ Some k → k < length offers
turns_inside None offers k e = first_inside offers k e
turns_inside (Some payer) offers k e =
    or_inside (first_above payer 0 offers) (first_of offers) (length offers) k (λ f. omega (arith, above_inside payer 0 offers k f)) (first_inside offers k) e

-- one turn of the loop
module _ (server : ℕ) (offers : List Offer) (i : ℕ) (d : Offer) (inside : i < length offers) where
  pub above_here : server < (slice_index_or offers i d).server → first_above server i (drop i offers) ≡ Some i
  above_here above =
      let yes : ltb server (slice_index_or offers i d).server ≡ true = lt-ltb server (slice_index_or offers i d).server above in
      at_drop_more (first_above server i) offers i d inside ∙ ap (λ (t : Bool). cond t (Some i) (first_above server (suc i) (drop (i + 1) offers))) yes

  pub above_later : (slice_index_or offers i d).server ≤ server → first_above server i (drop i offers) ≡ first_above server (i + 1) (drop (i + 1) offers)
  above_later below =
      let never : ltb server (slice_index_or offers i d).server ≡ false = le-ltb server (slice_index_or offers i d).server below in
      at_drop_more (first_above server i) offers i d inside
      ∙ ap (λ (t : Bool). cond t (Some i) (first_above server (suc i) (drop (i + 1) offers))) never
      ∙ ap (λ (m : ℕ). first_above server m (drop (i + 1) offers)) (sym (add-one i))

pub above_none : (server : ℕ) (offers : List Offer) (i : ℕ) → length offers ≤ i → first_above server i (drop i offers) ≡ None
above_none server offers i past = at_drop_all (first_above server i) offers i past
