-- Each field that is read leaves the next one to begin behind it.
use Rattle.records.proofs.Fetched.{zero_bits_set, row_read_lem}
use Rattle.records.proofs.reading.read_row.Goals as goal

pub returns-then-zeros-ne0 : goal.returns-then-zeros-ne0
returns-then-zeros-ne0 c =
    zero_bits_set _ _ c.at_byte-fields.ensures.bytes c.at_byte-fields.ensures.place
    (record { value = c.in_ok-kind.ensures.value; place = c.in_ok-kind.ensures.place; same = c.in_ok-kind.ensures.bytes })
    (record { value = c.in_ok-zeros.ensures.value; place = c.in_ok-zeros.ensures.place; same = c.in_ok-zeros.ensures.bytes })
    (record { value = c.in_ok-budget.ensures.value; place = c.in_ok-budget.ensures.place; same = c.in_ok-budget.ensures.bytes })
    (record { value = c.in_ok-period.ensures.value; place = c.in_ok-period.ensures.place; same = c.in_ok-period.ensures.bytes })
    c.if-zeros-ne0.true

pub returns : goal.returns
returns c =
    rw c.kind_of.ensures
    (row_read_lem _ _ c.at_byte-fields.ensures.bytes c.at_byte-fields.ensures.place
    (record { value = c.in_ok-kind.ensures.value; place = c.in_ok-kind.ensures.place; same = c.in_ok-kind.ensures.bytes })
    (record { value = c.in_ok-zeros.ensures.value; place = c.in_ok-zeros.ensures.place; same = c.in_ok-zeros.ensures.bytes })
    (record { value = c.in_ok-budget.ensures.value; place = c.in_ok-budget.ensures.place; same = c.in_ok-budget.ensures.bytes })
    (record { value = c.in_ok-period.ensures.value; place = c.in_ok-period.ensures.place; same = c.in_ok-period.ensures.bytes })
    c.if-zeros-ne0.false)
