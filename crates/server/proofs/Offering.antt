-- The offers of one row more stand behind those of the rows before it.
use Rattle.std.proofs.Common.{◌≡◌, ℕ, ◌+◌, ◌<◌, List, [], ◌∷◌, ◌++◌, length, get_or, take, Some, None, Option, refl, ap, ◌∙◌}
use Rattle.std.proofs.lemmas.List.{take_more}
use Rattle.donor.specs.declared.offer.Offer.{Offer}
use Rattle.server.specs.declared.row.Row.{Row}
use Rattle.server.specs.Turn.{offer_of, join_offer, offers_to}

join_push : (o : Option Offer) (offers more : List Offer) → join_offer o (offers ++ more) ≡ join_offer o offers ++ more
join_push None offers more = refl
join_push (Some offer) offers more = refl

module _ (t deadline : ℕ) where
  offers_push : (rows : List Row) (row : Row) → offers_to t deadline (rows ++ (row ∷ [])) ≡ offers_to t deadline rows ++ join_offer (offer_of t deadline row) []
  offers_push [] row = refl
  offers_push (first ∷ rows) row =
      ap (join_offer (offer_of t deadline first)) (offers_push rows row)
      ∙ join_push (offer_of t deadline first) (offers_to t deadline rows) (join_offer (offer_of t deadline row) [])

  pub offers_more : (rows : List Row) (i : ℕ) (d : Row) → i < length rows → offers_to t deadline (take (i + 1) rows) ≡ offers_to t deadline (take i rows) ++ join_offer (offer_of t deadline (get_or rows i d)) []
  offers_more rows i d inside = ap (offers_to t deadline) (take_more rows i d inside) ∙ offers_push (take i rows) (get_or rows i d)
