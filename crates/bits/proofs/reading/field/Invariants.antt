use Rattle.std.proofs.Common.{◌≡◌}
use Rattle.bits.specs.Fields.{bits_before, field_at}
use Rattle.bits.proofs.reading.field.Given as goal

abbrev pub invariant-loop-k : goal.invariant-loop-k
invariant-loop-k l = l.value ≡ field_at l.bytes (bits_before l.at) l.k
