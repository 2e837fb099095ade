-- What was filled is the packed form, which reads back.
use Rattle.std.proofs.Common.{◌≡◌, length, take, drop, ap, ◌∙◌}
use Rattle.std.proofs.lemmas.List.{take_at}
use Rattle.plan.specs.Plan.{rows_of}
use Rattle.records.specs.Packed.{packed_plan, packed_length}
use Rattle.records.specs.PlanFile.{plan_read}
use Rattle.records.proofs.FilePut.{length_packed}
use Rattle.records.proofs.RoundTrip.{round_trip, plan_fits}
use Rattle.records.proofs.writing.write_plan.Goals as goal

pub returns-clause-reads_back : goal.returns-clause-reads_back
returns-clause-reads_back c =
    let rows = rows_of c.args.plan.now in
    let n = packed_length (length rows) in
    let filled : take c.packed_length-length.result c.put_plan.new.buffer ≡ packed_plan rows = rw (c.packed_length-length.ensures, c.put_plan.ensures) (take_at (packed_plan rows) (drop n c.args.buffer.now) n (length_packed rows)) in
    ap plan_read filled ∙ round_trip rows (plan_fits c.args.plan.now)
