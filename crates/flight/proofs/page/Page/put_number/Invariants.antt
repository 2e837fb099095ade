use Rattle.std.proofs.Common.{◌≡◌, ◌<◌, ◌++◌, take}
use Rattle.flight.specs.Page.{fitting}
use Rattle.flight.proofs.page.Page.put_number.Given as goal

-- before the first digit the page is as it was; from then on the digits so far stand behind that, as many as fit
abbrev pub invariant-loop-digit : goal.invariant-loop-digit
invariant-loop-digit l =
    record {
      untouched : l.digit-index ≡ 0 → l.self ≡ l.initial.self;
      written : 0 < l.digit-index → l.self ≡ fitting (l.initial.self ++ take l.digit-index l.digits);
    }
