-- What the reading and writing of fields refuses: the number of each refusal, its layer, and its sentence.
use Rattle.std.specs.Prelude.{ℕ, List, codes}
use Rattle.faults.specs.declared.layer.Layer.{Layer}
use Rattle.faults.specs.declared.layer.Layer.TheVariants as layer
use Rattle.bits.specs.declared.fault.BitsFault.{BitsFault}
use Rattle.bits.specs.declared.fault.BitsFault.TheVariants.{Short}

abbrev pub bits_number : BitsFault → ℕ
bits_number Short = 5

abbrev pub bits_layer : BitsFault → Layer
bits_layer f = layer.Bits

abbrev pub bits_sentence : BitsFault → List ℕ
bits_sentence Short = codes "the file ends inside a record"
