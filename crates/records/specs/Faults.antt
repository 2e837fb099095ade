-- Faults of plan files: the number, the layer and the sentence of each. The word of a layer, and the byte where a fault
-- lies, are as for all faults.
use Rattle.std.specs.Prelude.{ℕ, List, codes}
use Rattle.bits.specs.Faults.{bits_number, bits_layer, bits_sentence}
use Rattle.plan.specs.Faults.{plan_number, plan_layer, plan_sentence}
use Rattle.faults.specs.declared.layer.Layer.{Layer}
use Rattle.faults.specs.declared.layer.Layer.TheVariants as layer
pub use Rattle.faults.specs.Faults.{layer_word, placed_at}
use Rattle.records.specs.declared.fault.RecordsFault.{RecordsFault}
use Rattle.records.specs.declared.fault.RecordsFault.TheVariants.{Bits, ZeroBits, Trailing, Buffer, Trace}
use Rattle.records.specs.declared.fault.PlanFileFault.{PlanFileFault}
use Rattle.records.specs.declared.fault.PlanFileFault.TheVariants.{Records, Plan}

abbrev pub records_number : RecordsFault → ℕ
records_number (Bits f) = bits_number f
records_number ZeroBits = 6
records_number Trailing = 7
records_number Buffer = 8
records_number Trace = 9

abbrev pub file_number : PlanFileFault → ℕ
file_number (Records f) = records_number f
file_number (Plan f) = plan_number f

abbrev pub records_layer : RecordsFault → Layer
records_layer (Bits f) = bits_layer f
records_layer ZeroBits = layer.Records
records_layer Trailing = layer.Records
records_layer Buffer = layer.Records
records_layer Trace = layer.Records

abbrev pub file_layer : PlanFileFault → Layer
file_layer (Records f) = records_layer f
file_layer (Plan f) = plan_layer f

abbrev pub records_sentence : RecordsFault → List ℕ
records_sentence (Bits f) = bits_sentence f
records_sentence ZeroBits = codes "a zero bit of a row is set"
records_sentence Trailing = codes "there are bytes after the last server"
records_sentence Buffer = codes "the buffer is too short for the plan"
records_sentence Trace = codes "a record of the trace is of no kind that there is, or has an argument that its kind does not have"

abbrev pub file_sentence : PlanFileFault → List ℕ
file_sentence (Records f) = records_sentence f
file_sentence (Plan f) = plan_sentence f
