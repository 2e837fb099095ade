-- What is wrong with a line of a written plan: the refusal's number, if it is one, the sentence, and the
-- whole message; and what is wrong with a plan file.
use Rattle.std.specs.Prelude.{ℕ, List, ◌++◌, Some, None, codes, decimal, Option}
use Rattle.plan.specs.Faults.{plan_number, plan_sentence}
use Rattle.faults.specs.declared.layer.Layer.{Layer}
use Rattle.faults.specs.declared.placed.Placed.{Placed}
use Rattle.faults.specs.Faults.{placed_text}
use Rattle.records.specs.declared.fault.PlanFileFault.{PlanFileFault}
use Rattle.records.specs.Faults.{file_number, file_layer, file_sentence}
use Rattle.plan_text.specs.declared.fault.LineFault.{LineFault}
use Rattle.plan_text.specs.declared.fault.LineFault.TheVariants.{Words, Kind, Number, Refused}
use Rattle.plan_text.specs.declared.fault.TextFault.{TextFault}

abbrev pub line_number : LineFault → Option ℕ
line_number Words = None
line_number Kind = None
line_number Number = None
line_number (Refused f) = Some (plan_number f)

abbrev pub line_sentence : LineFault → List ℕ
line_sentence Words = codes "a row is a kind, a budget and a period"
line_sentence Kind = codes "the kind must be isolated or shared"
line_sentence Number = codes "the budget and the period must be whole numbers of ticks"
line_sentence (Refused f) = plan_sentence f

-- the rest of a message after the line's number: a refusal has a number, a line that is not understood has none
abbrev pub reason : Option ℕ → List ℕ → List ℕ
reason None sentence = codes ": not understood: " ++ sentence
reason (Some n) sentence = codes ": refusal " ++ (decimal n ++ (codes ": " ++ sentence))

abbrev pub message_text : TextFault → List ℕ
message_text f = codes "line " ++ (decimal f.line ++ reason (line_number f.fault) (line_sentence f.fault))

-- what is wrong with a file: `fault`, the number, the layer and the byte, and the sentence below, as the type of the fault
-- gives them
abbrev pub placed_message : {F : Type 0} → (F → ℕ) → (F → Layer) → (F → List ℕ) → Placed F → List ℕ
placed_message number layer sentence f = placed_text number layer f ++ (codes "\n" ++ sentence f.fault)

-- what is wrong with a plan file
abbrev pub fault_text : Placed PlanFileFault → List ℕ
fault_text f = placed_message file_number file_layer file_sentence f
