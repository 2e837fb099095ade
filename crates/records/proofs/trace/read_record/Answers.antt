-- The argument begins behind the kind.
use Rattle.std.proofs.Common.{◌∙◌}
use Rattle.records.proofs.Fetched.{record_read_lem}
use Rattle.records.proofs.trace.read_record.Goals as goal

pub returns : goal.returns
returns c =
    c.record_of.ensures
    ∙ record_read_lem _ _ c.at_byte-fields.ensures.bytes c.at_byte-fields.ensures.place
    (record { value = c.in_ok-kind.ensures.value; place = c.in_ok-kind.ensures.place; same = c.in_ok-kind.ensures.bytes })
    (record { value = c.in_ok-argument.ensures.value; place = c.in_ok-argument.ensures.place; same = c.in_ok-argument.ensures.bytes })
