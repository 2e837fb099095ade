use Rattle.std.proofs.Common.{refl, arith}
use Rattle.records.proofs.RowPut.{count_put, field_put}
use Rattle.records.proofs.writing.put_count.Goals as goal

pub returns : goal.returns
returns c =
    count_put _ _ _ (field_put _ _ _ 0 8 _ _ c.put.ensures.bytes c.at_byte-at.ensures refl) c.requires.0 c.requires.1 (λ i. omega (arith, c.type_inv.buffer i))
