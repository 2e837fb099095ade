-- The records of a trace: 2 bits kind, 14 bits argument.
use Rattle.std.specs.Prelude.{ℕ, ◌+◌, ◌*◌, cond, not, ◌&&◌, List, Ok, Err, Result, ◌==◌}
use Rattle.bits.specs.declared.fault.BitsFault.TheVariants.{Short}
use Rattle.bits.specs.Fields.{field_at, has_field}
use Rattle.records.specs.declared.fault.RecordsFault.{RecordsFault}
use Rattle.records.specs.declared.fault.RecordsFault.TheVariants.{Bits, Trace}
use Rattle.records.specs.declared.trace.TraceRecord.{TraceRecord}
use Rattle.records.specs.declared.trace.TraceRecord.TheVariants.{Ticks, Arrival, Finish}

-- the record of a kind with an argument: kind 0 has at least one tick, kind 2 no argument, and there is no kind 3
abbrev pub record_of : ℕ → ℕ → Result TraceRecord RecordsFault
record_of kind argument =
    cond (kind == 0 && not (argument == 0)) (Ok (Ticks argument))
    (cond (kind == 1) (Ok (Arrival argument))
    (cond (kind == 2 && argument == 0) (Ok Finish) (Err Trace)))

-- the record that begins at byte k: it must be there whole
abbrev pub record_read : List ℕ → ℕ → Result TraceRecord RecordsFault
record_read b k = cond (has_field b (8 * k) 16) (record_of (field_at b (8 * k) 2) (field_at b (8 * k + 2) 14)) (Err (Bits Short))
