use Rattle.std.proofs.Common.{arith}
use Rattle.bits.proofs.Bytes.{byte_parts, byte_lt}
use Rattle.bits.proofs.writing.byte_with.Goals as goal

pub overflow_add-result : goal.overflow_add-result
overflow_add-result c =
    let x = c.args.byte in
    let k = c.args.k in
    let v = c.args.digit in
    rw (c.bit_of.ensures, c.weight_of-weight.ensures) (omega (arith, byte_parts x k, byte_lt x k v (omega arith) (omega arith) (omega arith)))
