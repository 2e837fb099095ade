-- What ends a flight: the number, the layer and the sentence of each fault.
use Rattle.std.specs.Prelude.{ℕ, List}
use Rattle.faults.specs.declared.layer.Layer.{Layer}
use Rattle.records.specs.Faults.{records_number, records_layer, records_sentence}
use Rattle.executive.specs.Faults.{call_number, call_layer, call_sentence}
use Rattle.flight.specs.declared.fault.FlightFault.{FlightFault}
use Rattle.flight.specs.declared.fault.FlightFault.TheVariants.{Records, Executive}

abbrev pub flight_number : FlightFault → ℕ
flight_number (Records f) = records_number f
flight_number (Executive f) = call_number f

abbrev pub flight_layer : FlightFault → Layer
flight_layer (Records f) = records_layer f
flight_layer (Executive f) = call_layer f

abbrev pub flight_sentence : FlightFault → List ℕ
flight_sentence (Records f) = records_sentence f
flight_sentence (Executive f) = call_sentence f
