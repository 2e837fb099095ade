-- What the calls refuse: the number of each refusal, its layer, and its sentence.
use Rattle.std.specs.Prelude.{ℕ, List, codes}
use Rattle.faults.specs.declared.layer.Layer.{Layer}
use Rattle.faults.specs.declared.layer.Layer.TheVariants as layer
use Rattle.executive.specs.declared.fault.CallFault.{CallFault}
use Rattle.executive.specs.declared.fault.CallFault.TheVariants.{NoServer, Jobs, Clock, Finish}

abbrev pub call_number : CallFault → ℕ
call_number NoServer = 10
call_number Jobs = 11
call_number Clock = 12
call_number Finish = 13

abbrev pub call_layer : CallFault → Layer
call_layer f = layer.Executive

abbrev pub call_sentence : CallFault → List ℕ
call_sentence NoServer = codes "no server has this number"
call_sentence Jobs = codes "the server has 255 jobs waiting already"
call_sentence Clock = codes "the clock stands at its last instant, 4000000000"
call_sentence Finish = codes "a finish was told, but nobody runs"
