-- Each field begins where the one before it ended.
use Rattle.std.proofs.Common.{◌+◌, ◌*◌, refl, arith}
use Rattle.records.proofs.RowPut.{field_put, row_put}
use Rattle.records.proofs.writing.put_row.Goals as goal

pub returns : goal.returns
returns c =
    let k = c.args.byte in
    row_put _ _ _ _ _ k c.args.terms c.requires.room c.requires.budget c.requires.period
    (field_put _ _ _ (8 * k) 1 _ _ c.put.ensures.bytes c.at_byte-at.ensures c.kind_bit.ensures)
    (field_put _ _ _ (8 * k + 1) 3 _ _ c.put-2.ensures.bytes (omega (arith, c.at_byte-at.ensures, c.put.ensures.place)) refl)
    (field_put _ _ _ (8 * k + 4) 14 _ _ c.put-3.ensures.bytes (omega (arith, c.at_byte-at.ensures, c.put.ensures.place, c.put-2.ensures.place)) refl)
    (field_put _ _ _ (8 * k + 18) 14 _ _ c.put-4.ensures.bytes (omega (arith, c.at_byte-at.ensures, c.put.ensures.place, c.put-2.ensures.place, c.put-3.ensures.place)) refl)
    (λ i. omega (arith, c.type_inv.buffer i))
