use Rattle.std.proofs.Common.{◌≡◌, ◌-◌, ◌/◌, ◌^◌}
use Rattle.bits.specs.Fields.{bits_before, put_field}
use Rattle.bits.proofs.writing.put_field.Given as goal

abbrev pub invariant-loop-k : goal.invariant-loop-k
invariant-loop-k l = l.bytes ≡ put_field l.initial.bytes (bits_before l.at) l.k (l.value / 2 ^ (l.width.bits - l.k))
