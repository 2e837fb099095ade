-- Every row stands where the packed form has it.
use Rattle.std.proofs.Common.{ℕ, ◌+◌, ◌*◌, List, ◌++◌, length, get_or, take, drop, ap, ◌∙◌, arith}
use Rattle.plan.specs.Terms.{blank}
use Rattle.records.specs.Packed.{packed_row}
use Rattle.records.proofs.FilePut.{row_more}
use Rattle.records.proofs.writing.put_plan.Goals as goal

pub loop-k-preserved : goal.loop-k-preserved
loop-k-preserved c =
    let rows = c.rows-terms-items.result.now in
    let k = c.loop-k.k in
    c.put_row.ensures
    ∙ ap (λ (s : List ℕ). take (1 + 4 * k) s ++ (packed_row (get_or rows k blank) ++ drop (1 + 4 * k + 4) s)) c.loop-k.invariant
    ∙ row_more rows c.put_count.new.buffer (length rows) k (omega arith)
