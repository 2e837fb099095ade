-- The listing of a flight, byte by byte: a header, a line for each tick, and a last line for a fault.
use Rattle.std.specs.Prelude.{◌≡◌, ℕ, cond, List, [], ◌∷◌, ◌++◌, Some, None, codes, decimal, Option, ◌==◌}
use Rattle.std.proofs.Math.Utf8.{encode}
use Rattle.std.specs.List.{flat_map}
use Rattle.faults.specs.declared.layer.Layer.{Layer}
use Rattle.faults.specs.declared.placed.Placed.{Placed}
use Rattle.faults.specs.Faults.{layer_word, fault_words}
use Rattle.records.specs.declared.fault.PlanFileFault.{PlanFileFault}
use Rattle.records.specs.Faults.{file_number, file_layer}
use Rattle.server.specs.declared.turn.Source.{Source}
use Rattle.server.specs.declared.turn.Source.TheVariants.{Own, Residual, Stolen, Idle, Empty}
use Rattle.executive.specs.Calls.{nobody}
use Rattle.flight.specs.declared.fault.FlightFault.{FlightFault}
use Rattle.flight.specs.Faults.{flight_number, flight_layer}
use Rattle.flight.specs.Flight.{Line}

-- the letter of a source
abbrev pub source_letter : Source → ℕ
source_letter Own = 111
source_letter Residual = 114
source_letter Stolen = 115
source_letter Idle = 105
source_letter Empty = 101

abbrev pub newline : List ℕ
newline = 10 ∷ []

-- a column: a space, then a number, or a dash where the server that it goes with is nobody
abbrev pub unless_nobody : ℕ → ℕ → List ℕ
unless_nobody server n = cond (server == nobody) (45 ∷ []) (decimal n)

abbrev pub column_text : ℕ → ℕ → List ℕ
column_text server n = 32 ∷ unless_nobody server n

-- a tick's line: instant, runner, source, payer, the payer's deadline, what is left
abbrev pub line_text : Line → List ℕ
line_text line =
    let answer = line.1 in
    let payer = answer.1 in
    decimal line.0
    ++ (column_text answer.0 answer.0
    ++ ((32 ∷ source_letter answer.2 ∷ [])
    ++ (column_text payer payer
    ++ (column_text payer answer.3
    ++ (column_text payer answer.4 ++ newline)))))

-- the header: the rule's letter, and the number of servers
abbrev pub header_text : ℕ → ℕ → List ℕ
header_text letter servers = codes "rule " ++ (encode letter ++ (codes " servers " ++ (decimal servers ++ newline)))

-- the line of a fault: its number, layer and byte. It ends the listing of a flight, and is all there is of one whose plan
-- file is at fault
abbrev pub fault_text : ℕ → List ℕ → ℕ → List ℕ
fault_text number layer byte = fault_words number layer byte ++ newline

-- the same of a placed fault of any type, by the number and the layer that the type gives
abbrev pub placed_line : {F : Type 0} → (F → ℕ) → (F → Layer) → Placed F → List ℕ
placed_line number layer placed = fault_text (number placed.fault) (layer_word (layer placed.fault)) placed.byte

abbrev pub fault_line : Placed FlightFault → List ℕ
fault_line placed = placed_line flight_number flight_layer placed

abbrev pub plan_fault_line : Placed PlanFileFault → List ℕ
plan_fault_line placed = placed_line file_number file_layer placed

abbrev pub end_text : Option (Placed FlightFault) → List ℕ
end_text None = []
end_text (Some placed) = fault_line placed

-- all lines
abbrev pub lines_text : List Line → List ℕ
lines_text lines = flat_map line_text lines

-- the text that is still to be written is the end of all text
abbrev pub EndsWith : List ℕ → List ℕ → Type 0
EndsWith text all = (front : List ℕ) × (all ≡ front ++ text)
