-- The worked flights: what the definitions that the contracts cite compute to, with every number written out.
use Rattle.std.specs.Prelude.{◌≡◌, ℕ, ◌*◌, true, false, List, [], ◌∷◌, ◌++◌, map, replicate, Some, None, Ok, Err}
use Rattle.bits.specs.declared.fault.BitsFault.TheVariants.{Short}
use Rattle.plan.specs.Terms.{weight_of}
use Rattle.plan.specs.Plan.{added, rows_after}
use Rattle.plan.specs.Faults.{plan_number}
use Rattle.faults.specs.declared.layer.Layer.TheVariants as layer
use Rattle.records.specs.declared.fault.PlanFileFault.TheVariants.{Records}
use Rattle.records.specs.declared.fault.RecordsFault.TheVariants.{Bits}
use Rattle.records.specs.declared.trace.TraceRecord.TheVariants.{Ticks, Arrival, Finish}
use Rattle.records.specs.Faults.{file_number, file_layer}
use Rattle.records.specs.Packed.{packed_plan}
use Rattle.records.specs.PlanFile.{plan_read}
use Rattle.records.specs.Trace.{record_read}
use Rattle.donor.specs.declared.earliest_first.EarliestFirst.{EarliestFirst}
use Rattle.server.specs.declared.turn.Source.TheVariants.{Empty}
use Rattle.server.specs.Row.{fresh_row}
use Rattle.server.specs.Turn.{offer_of, offers_to}
use Rattle.executive.specs.Calls.{nobody, arrive_answer, tick_of}
use Rattle.executive.specs.Faults.{call_number}
use Rattle.executive.specs.Run.{Call, Entry, arrive, tick, run_from, row_of, ticks_in, runs}
use Rattle.worked_flights.specs.Plans.{non_isolated, isolated, survey, survey_file, survey_trace, waker, waker_robbed, waker_resting, waker_trace, halves, one_thief, thief_before, thief_trace}
use Rattle.worked_flights.specs.Playing.{E, T, A, start, flown, listed, text, number_in}

-- A full plan and its file; and a flight on it in which servers run on their own ticks, on ticks left over and on stolen ones.
pub record SurveyFlight : Type 0 where
  -- together they weigh the whole common multiple, 14400
  pub weights : map weight_of survey ≡ 5760 ∷ 5760 ∷ 2880 ∷ []
  -- so that not even one tick of 14400 more has room
  pub refused : number_in plan_number (added survey (isolated 1 14400)) ≡ Some 4
  pub kept : rows_after survey (isolated 1 14400) ≡ survey
  pub file_written : packed_plan survey ≡ survey_file
  pub file_read : plan_read survey_file ≡ Ok survey
  pub trace_read : map (λ k. record_read survey_trace (2 * k)) (0 ∷ 1 ∷ 2 ∷ 3 ∷ 4 ∷ 5 ∷ 6 ∷ []) ≡ Ok (Arrival 1) ∷ Ok (Arrival 2) ∷ Ok (Ticks 2) ∷ Ok Finish ∷ Ok (Ticks 6) ∷ Ok (Arrival 1) ∷ Ok (Ticks 2) ∷ []
  pub listing :
      listed E survey survey_trace
      ≡ text (
      "rule E servers 3"
      ∷ "0 1 o 1 10 3"
      ∷ "1 1 o 1 10 2"
      ∷ "2 1 o 1 10 1"
      ∷ "3 2 r 1 10 0"
      ∷ "4 2 o 2 15 2"
      ∷ "5 2 o 2 15 1"
      ∷ "6 2 o 2 15 0"
      ∷ "7 2 s 0 12 1"
      ∷ "8 2 s 0 12 0"
      ∷ "9 - e - - -"
      ∷ "10 1 o 1 20 3"
      ∷ [])

-- the calls of the late waker's trace, one by one, and the run of them
abbrev pub waker_calls : List Call
waker_calls = (arrive 2 ∷ tick false ∷ tick true ∷ []) ++ (replicate 15 (tick false) ++ (arrive 0 ∷ arrive 1 ∷ tick false ∷ tick false ∷ tick false ∷ []))

abbrev pub waker_run : List (Entry EarliestFirst)
waker_run = run_from E.ghosts.choice E.ghosts.step (start E waker) waker_calls

-- Server 0 is robbed in part, rests, and wakes four ticks before its deadline: the cut has left it one tick, and so
-- server 1, which has the same deadline, still gets its whole budget of two.
pub record LateWaker : Type 0 where
  -- server 2 steals tick 1
  pub robbed : (row_of 0 (flown E waker waker_robbed).state).account ≡ record { capacity = 7; residual = 0; deadline = 21; jobs = 0 }
  -- the clock comes to 17
  pub cut : (row_of 0 (flown E waker waker_resting).state).account ≡ record { capacity = 1; residual = 0; deadline = 21; jobs = 0 }
  -- server 0 runs tick 17, and server 1 runs the two ticks 18 and 19
  pub runs_17 : ticks_in 17 18 (runs 0) waker_run ≡ 1
  pub runs_18_and_19 : ticks_in 18 20 (runs 1) waker_run ≡ 2
  pub listing :
      listed E waker waker_trace
      ≡ text (
      "rule E servers 3"
      ∷ "0 2 o 2 30 0"
      ∷ "1 2 s 0 21 7"
      ∷ "2 - e - - -"
      ∷ "3 - e - - -"
      ∷ "4 - e - - -"
      ∷ "5 - e - - -"
      ∷ "6 - e - - -"
      ∷ "7 - e - - -"
      ∷ "8 - e - - -"
      ∷ "9 - e - - -"
      ∷ "10 - e - - -"
      ∷ "11 - e - - -"
      ∷ "12 - e - - -"
      ∷ "13 - e - - -"
      ∷ "14 - e - - -"
      ∷ "15 - e - - -"
      ∷ "16 - e - - -"
      ∷ "17 0 o 0 21 0"
      ∷ "18 1 o 1 21 1"
      ∷ "19 1 o 1 21 0"
      ∷ [])

-- A job for server 1 finishes in tick 0. What the server has left pays for idle time.
pub record IdleTime : Type 0 where
  pub listing : listed E survey (0x40 ∷ 0x01 ∷ 0x80 ∷ 0x00 ∷ 0x00 ∷ 0x01 ∷ []) ≡ text ("rule E servers 3" ∷ "0 1 o 1 10 3" ∷ "1 - i 1 10 2" ∷ [])

-- A job for each of two servers with the same terms: of two equal deadlines the smaller number comes first.
pub record TwoHalves : Type 0 where
  pub listing : listed E halves (0x40 ∷ 0x00 ∷ 0x40 ∷ 0x01 ∷ 0x00 ∷ 0x04 ∷ []) ≡ text ("rule E servers 2" ∷ "0 0 o 0 4 1" ∷ "1 0 o 0 4 0" ∷ "2 1 o 1 4 1" ∷ "3 1 o 1 4 0" ∷ [])

-- Server 2 has used its own ticks and has stolen tick 2 from server 0. At tick 3 both others are offered to it.
pub record ThreeRulesAtOneTheft : Type 0 where
  pub offers : offers_to 3 8 (flown E one_thief thief_before).state.rows ≡ record { server = 0; deadline = 6; capacity = 1 } ∷ record { server = 1; deadline = 7; capacity = 1 } ∷ []
  -- the earliest is server 0
  pub earliest : listed E one_thief thief_trace ≡ text ("rule E servers 3" ∷ "0 2 o 2 8 1" ∷ "1 2 o 2 8 0" ∷ "2 2 s 0 6 1" ∷ "3 2 s 0 6 0" ∷ [])
  -- it is the turn of server 1
  pub turns : listed T one_thief thief_trace ≡ text ("rule T servers 3" ∷ "0 2 o 2 8 1" ∷ "1 2 o 2 8 0" ∷ "2 2 s 0 6 1" ∷ "3 2 s 1 7 0" ∷ [])
  -- the allowance is used up
  pub allowance : listed A one_thief thief_trace ≡ text ("rule A servers 3" ∷ "0 2 o 2 8 1" ∷ "1 2 o 2 8 0" ∷ "2 2 s 0 6 1" ∷ "3 - e - - -" ∷ [])

-- A server of period 5 that was never recharged, and a thief with the deadline 10.
pub record OfferAtItsEdge : Type 0 where
  -- recharged at 5 it would have the deadline 10
  pub offered : offer_of 5 10 (fresh_row 0 (non_isolated 2 5)) ≡ Some (record { server = 0; deadline = 10; capacity = 2 })
  -- recharged at 6 it would have the deadline 11
  pub withheld : offer_of 6 10 (fresh_row 0 (non_isolated 2 5)) ≡ None

-- A period must be a divisor of 14400.
pub record Periods : Type 0 where
  pub divisor : added [] (isolated 1 16) ≡ Ok 0
  pub no_divisor : number_in plan_number (added [] (isolated 1 7)) ≡ Some 2
  pub multiple : number_in plan_number (added [] (isolated 1 28800)) ≡ Some 2

-- The file 00 is the empty plan, and no bytes are no file. On the empty plan every tick is empty, and there is nobody to
-- give a job to and nobody to finish.
pub record SmallestFiles : Type 0 where
  pub empty_plan : plan_read (0x00 ∷ []) ≡ Ok []
  -- the fault of no bytes, at byte 0; its number and its layer
  pub no_bytes : plan_read [] ≡ Err (record { fault = Records (Bits Short); byte = 0 })
  pub its_number : file_number (Records (Bits Short)) ≡ 5
  pub its_layer : file_layer (Records (Bits Short)) ≡ layer.Bits
  pub empty_tick : tick_of E.ghosts.choice (start E []) false ≡ Ok (nobody, nobody, Empty, 0, 0)
  pub no_arrival : (server : ℕ) → number_in call_number (arrive_answer (start E []).rows server) ≡ Some 10
  pub no_finish : number_in call_number (tick_of E.ghosts.choice (start E []) true) ≡ Some 13
  -- a tick and a finish, which is refused at the second record
  pub listing : listed E [] (0x00 ∷ 0x01 ∷ 0x80 ∷ 0x00 ∷ []) ≡ text ("rule E servers 0" ∷ "0 - e - - -" ∷ "fault 13 executive 2" ∷ [])

-- all of them
pub record WorkedFlights : Type 0 where
  pub survey_flight : SurveyFlight
  pub late_waker : LateWaker
  pub idle_time : IdleTime
  pub two_halves : TwoHalves
  pub three_rules_at_one_theft : ThreeRulesAtOneTheft
  pub offer_at_its_edge : OfferAtItsEdge
  pub periods : Periods
  pub smallest_files : SmallestFiles
