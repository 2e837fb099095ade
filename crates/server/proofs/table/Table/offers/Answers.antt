use Rattle.std.proofs.Common.{List, [], ◌++◌, length, take, Option, sym, ap, ◌∙◌, arith, length-take}
use Rattle.donor.specs.declared.offer.Offer.{Offer}
use Rattle.server.specs.Turn.{join_offer, offers_to}
use Rattle.server.proofs.Offering.{offers_more}
use Rattle.server.proofs.table.Table.offers.Goals as goal

pub loop-row-preserved : goal.loop-row-preserved
loop-row-preserved c =
    let table = c.args.self.now in
    let rows = c.rows-row-items.result.now in
    let i = c.loop-row.row-index in
    let t = c.args.at.ticks in
    let D = c.args.deadline in (
      omega (arith, c.join.ensures.count, c.loop-row.invariant.0),
      c.join.ensures.more (omega (arith, c.loop-row.invariant.0, ap length c.rows-row-items.ensures, length-take table.count table.rows, table.room))
          ∙ ap (λ (offers : List Offer). offers ++ join_offer c.offer_of.result []) c.loop-row.invariant.1
          ∙ ap (λ (o : Option Offer). offers_to t D (take i rows) ++ join_offer o []) c.offer_of.ensures
          ∙ sym (offers_more t D rows i _ (omega arith)),
    )
