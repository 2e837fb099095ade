use Rattle.std.proofs.Common.{◌≡◌, ◌+◌, ◌*◌, ◌∷◌, ◌++◌, length, take, drop}
use Rattle.std.specs.List.{flat_map}
use Rattle.records.specs.Packed.{packed_row}
use Rattle.records.proofs.writing.put_plan.Given as goal

abbrev pub invariant-loop-k : goal.invariant-loop-k
invariant-loop-k l = l.buffer ≡ (length l.terms-items ∷ flat_map packed_row (take l.k l.terms-items)) ++ drop (1 + 4 * l.k) l.initial.buffer
