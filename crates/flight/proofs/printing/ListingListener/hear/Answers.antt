-- What waits is the end of all text, and the new line stands behind it.
use Rattle.std.proofs.Common.{ℕ, List, [], ◌∷◌, ◌++◌, append_assoc, append-nil, arith, length-append}
use Rattle.std.proofs.lemmas.List.{take_all}
use Rattle.std.proofs.lemmas.List.Concat.{flat_map-append}
use Rattle.flight.specs.Flight.{Line}
use Rattle.flight.specs.Sizes.{page_bytes}
use Rattle.flight.specs.Listing.{line_text, lines_text, EndsWith}
use Rattle.flight.proofs.printing.ListingListener.hear.Goals as goal

-- all text ends with the old page, the old page with the new one, and the line comes behind both
ends_on : (all old new line : List ℕ) → EndsWith old all → EndsWith new old → EndsWith (new ++ line) (all ++ line)
ends_on all old new line (front, one) (middle, two) = (front ++ middle, rw (one, two) (simp append_assoc))

pub returns : goal.returns
returns g c lines heard =
    let line : Line = (c.args.instant, c.args.answer) in
    let page = c.make_room.new.self.page in
    let whole = take_all page_bytes (page ++ line_text line) (omega (arith, c.make_room.ensures.room, c.put_line.ensures.short, length-append page (line_text line))) in
    let ends = ends_on (lines_text lines) c.args.self.now.page page (line_text line) heard c.make_room.ensures.text in
    rw (c.put_line.ensures.text, whole, flat_map-append line_text lines (line ∷ []), append-nil (line_text line)) ends
