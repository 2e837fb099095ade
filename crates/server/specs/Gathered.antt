-- The offers gathered so far.
use Rattle.std.specs.Prelude.{List, take}
use Rattle.donor.specs.declared.offer.Offer.{Offer}
use Rattle.server.specs.declared.offers.Offers.{Offers}

abbrev pub gathered : Offers → List Offer
gathered offers = take offers.count offers.items
