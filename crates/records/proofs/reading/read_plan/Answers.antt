-- Both parts went well, so the file was read whole, and there is only one such file.
use Rattle.std.proofs.Common.{◌≡◌, Ok, arith}
use Rattle.plan.specs.Plan.{rows_of}
use Rattle.records.specs.PlanFile.{plan_read}
use Rattle.records.proofs.OneFile.{one_file}
use Rattle.records.proofs.reading.read_plan.Goals as goal

pub returns-clause-one_file : goal.returns-clause-one_file
returns-clause-one_file c =
    let got = rows_of c.take_rows.new.plan in
    let read : plan_read c.args.bytes.now ≡ Ok got = grind arith in
    one_file c.args.bytes.now (λ i. omega (arith, c.type_inv.bytes i)) got read
