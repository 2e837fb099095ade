-- Faults: the word of each layer, and the byte where a fault lies.
use Rattle.std.specs.Prelude.{ℕ, List, ◌++◌, Ok, Err, codes, decimal, Result}
use Rattle.faults.specs.declared.layer.Layer.{Layer}
use Rattle.faults.specs.declared.layer.Layer.TheVariants as layer
use Rattle.faults.specs.declared.placed.Placed.{Placed}

abbrev pub layer_word : Layer → List ℕ
layer_word layer.Bits = codes "bits"
layer_word layer.Records = codes "records"
layer_word layer.Plan = codes "plan"
layer_word layer.Executive = codes "executive"

-- an answer with the byte where its fault lies, if it has one
abbrev pub placed_at : {X F : Type 0} → Result X F → ℕ → Result X (Placed F)
placed_at (Ok x) byte = Ok x
placed_at (Err f) byte = Err (record { fault = f; byte = byte })

-- what is told of a fault, with no end of the line yet: its number, its layer's word and its byte
abbrev pub fault_words : ℕ → List ℕ → ℕ → List ℕ
fault_words number layer byte = codes "fault " ++ (decimal number ++ (codes " " ++ (layer ++ (codes " " ++ decimal byte))))

-- the same of a placed fault, by the number and the layer that its type gives
abbrev pub placed_text : {F : Type 0} → (F → ℕ) → (F → Layer) → Placed F → List ℕ
placed_text number layer placed = fault_words (number placed.fault) (layer_word (layer placed.fault)) placed.byte
