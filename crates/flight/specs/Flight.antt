-- Playing a trace: the executive afterwards, the lines of all ticks in their order, and the fault that ended it, if
-- one did.
use Rattle.std.specs.Prelude.{◌≡◌, ℕ, zero, suc, ◌+◌, ◌*◌, ◌/◌, ◌%◌, Bool, true, false, List, [], ◌∷◌, ◌++◌, length, Some, None, Ok, Err, Option, Result}
use Rattle.faults.specs.declared.placed.Placed.{Placed}
use Rattle.records.specs.declared.fault.RecordsFault.{RecordsFault}
use Rattle.records.specs.declared.trace.TraceRecord.{TraceRecord}
use Rattle.records.specs.declared.trace.TraceRecord.TheVariants.{Ticks, Arrival, Finish}
use Rattle.records.specs.Trace.{record_read}
use Rattle.executive.specs.declared.fault.CallFault.{CallFault}
use Rattle.executive.specs.Calls.{RuleChoice, RuleStep, State, Ticked, arrive_answer, after_arrive, tick_of, ticked_by}
use Rattle.flight.specs.declared.fault.FlightFault.{FlightFault}
use Rattle.flight.specs.declared.fault.FlightFault.TheVariants.{Records, Executive}

-- a line: the instant at which a tick was called, and what it answered
abbrev pub Line : Type 0
Line = ℕ × Ticked

-- what has been flown: how the executive stands, the lines, and the fault that ended it
pub record Flown (R F : Type 0) : Type 0 where
  pub state : State R
  pub lines : List Line
  pub fault : Option F

-- nothing more to fly
abbrev pub landed : {R F : Type 0} → State R → Flown R F
landed state = record { state = state; lines = []; fault = None }

-- with lines before
abbrev pub behind : {R F : Type 0} → List Line → Flown R F → Flown R F
behind lines flown = record { state = flown.state; lines = lines ++ flown.lines; fault = flown.fault }

-- the fault of an answer
abbrev pub fault_of : {A F : Type 0} → Result A F → Option F
fault_of (Ok answer) = None
fault_of (Err fault) = Some fault

-- the answer where there is this fault, or none
abbrev pub ended_by : {F : Type 0} → Option F → Result (Unit {0}) F
ended_by None = Ok tt
ended_by (Some fault) = Err fault

-- a flight goes like this: it answers so, leaves the executive so, and its lines are heard behind those before
pub record Flies {R L F : Type 0} (heard : L → List Line → Type 0) (flown : Flown R F) (answer : Result (Unit {0}) F) (after : State R) (old new : L) : Type 0 where
  pub answers : answer ≡ ended_by flown.fault
  pub stands : after ≡ flown.state
  pub hears : (lines : List Line) → heard old lines → heard new (lines ++ flown.lines)

-- one tick and what comes after it: a tick that is refused ends the flight
abbrev pub ticking : {R : Type 0} → Result Ticked CallFault → State R → Flown R CallFault → Flown R CallFault
ticking (Ok answer) state rest = behind ((state.instant, answer) ∷ []) rest
ticking (Err fault) state rest = record { state = state; lines = []; fault = Some fault }

module _ {R : Type 0} (choice : RuleChoice R) (step : RuleStep R) where
  -- one tick
  abbrev pub flown_tick : Bool → State R → Flown R CallFault
  flown_tick finished state = ticking (tick_of choice state finished) state (landed (ticked_by choice step state finished))

  -- so many ticks without a finish
  abbrev pub flown_ticks : ℕ → State R → Flown R CallFault
  flown_ticks zero state = landed state
  flown_ticks (suc n) state = ticking (tick_of choice state false) state (flown_ticks n (ticked_by choice step state false))

  -- one record
  abbrev pub flown_record : TraceRecord → State R → Flown R CallFault
  flown_record (Ticks n) state = flown_ticks n state
  flown_record (Arrival server) state = record { state = after_arrive state server; lines = []; fault = fault_of (arrive_answer state.rows server) }
  flown_record Finish state = flown_tick true state

  -- a record that was read, or not
  abbrev pub called : Option CallFault → Option FlightFault
  called None = None
  called (Some fault) = Some (Executive fault)

  abbrev pub flown_read : Result TraceRecord RecordsFault → State R → Flown R FlightFault
  flown_read (Ok entry) state = record { state = (flown_record entry state).state; lines = (flown_record entry state).lines; fault = called (flown_record entry state).fault }
  flown_read (Err fault) state = record { state = state; lines = []; fault = Some (Records fault) }

  -- a record and what comes after it: a fault ends the flight, and is told with the record's first byte
  abbrev pub onward : Option FlightFault → ℕ → List Line → State R → Flown R (Placed FlightFault) → Flown R (Placed FlightFault)
  onward None byte lines state rest = behind lines rest
  onward (Some fault) byte lines state rest = record { state = state; lines = lines; fault = Some (record { fault = fault; byte = byte }) }

  -- n records from the k-th on
  abbrev pub flown_from : List ℕ → ℕ → ℕ → State R → Flown R (Placed FlightFault)
  flown_from trace k zero state = landed state
  flown_from trace k (suc n) state =
      let here = flown_read (record_read trace (2 * k)) state in
      onward here.fault (2 * k) here.lines here.state (flown_from trace (k + 1) n here.state)

  -- the whole trace: as many records as it has, the last of which may be there in part
  abbrev pub played : List ℕ → State R → Flown R (Placed FlightFault)
  played trace state = flown_from trace 0 (length trace / 2 + length trace % 2) state
