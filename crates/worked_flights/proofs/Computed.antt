-- Both sides of each equation compute to the same.
use Rattle.std.proofs.Common.{refl, arith}
use Rattle.std.proofs.lemmas.Bool.{le-leb}
use lib.Utf8.{encode}
use Rattle.std.specs.Fmt.{digits}
use Rattle.worked_flights.specs.Flights.{SurveyFlight, LateWaker, IdleTime, TwoHalves, ThreeRulesAtOneTheft, OfferAtItsEdge, Periods, SmallestFiles, WorkedFlights}

survey_flight : SurveyFlight
unfolding digits encode
survey_flight = record { weights = refl; refused = refl; kept = refl; file_written = refl; file_read = refl; trace_read = refl; listing = refl }

late_waker : LateWaker
unfolding digits encode
late_waker = record { robbed = refl; cut = refl; runs_17 = refl; runs_18_and_19 = refl; listing = refl }

idle_time : IdleTime
unfolding digits encode
idle_time = record { listing = refl }

two_halves : TwoHalves
unfolding digits encode
two_halves = record { listing = refl }

three_rules_at_one_theft : ThreeRulesAtOneTheft
unfolding digits encode
three_rules_at_one_theft = record { offers = refl; earliest = refl; turns = refl; allowance = refl }

offer_at_its_edge : OfferAtItsEdge
offer_at_its_edge = record { offered = refl; withheld = refl }

periods : Periods
periods = record { divisor = refl; no_divisor = refl; multiple = refl }

smallest_files : SmallestFiles
unfolding digits encode
smallest_files = record { empty_plan = refl; no_bytes = refl; its_number = refl; its_layer = refl; empty_tick = refl; no_arrival = λ server. rw (le-leb 0 server (omega arith)) refl; no_finish = refl; listing = refl }

pub all : WorkedFlights
all = record {
  survey_flight = survey_flight;
  late_waker = late_waker;
  idle_time = idle_time;
  two_halves = two_halves;
  three_rules_at_one_theft = three_rules_at_one_theft;
  offer_at_its_edge = offer_at_its_edge;
  periods = periods;
  smallest_files = smallest_files;
}
