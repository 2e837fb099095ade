use Rattle.std.proofs.Common.{sym, append-nil}
use Rattle.flight.proofs.printing.Listing.make_room.Goals as goal

pub returns-then-not-has_room-clause-text : goal.returns-then-not-has_room-clause-text
returns-then-not-has_room-clause-text g c = (c.args.self.now.page, rw c.flush.ensures.text (sym (append-nil c.args.self.now.page)))
