use Rattle.std.proofs.Common.{[], ◌∷◌, ◌++◌, sym, ◌∙◌, arith}
use Rattle.std.proofs.lemmas.Bool.Decides.{nat_tests}
use Rattle.std.proofs.lemmas.List.{take_all, take_at, length_push}
use Rattle.flight.specs.Sizes.{page_bytes}
use Rattle.flight.proofs.page.Page.put.Goals as goal

pub returns-then-not-is_full : goal.returns-then-not-is_full
returns-then-not-is_full c =
    let text = c.self.inside.bytes.items in
    let byte = c.args.byte in
    rw (← c.self.view_is) (c.push.ensures.items ∙ sym (take_all page_bytes (text ++ byte ∷ []) (grind (arith, nat_tests, length_push text byte))))

pub returns-else-not-is_full : goal.returns-else-not-is_full
returns-else-not-is_full c = sym (take_at c.args.self.now (c.args.byte ∷ []) page_bytes (grind (arith, nat_tests)))
