-- What `add` refuses: the number of each refusal, its layer, and its sentence.
use Rattle.std.specs.Prelude.{ℕ, List, codes}
use Rattle.faults.specs.declared.layer.Layer.{Layer}
use Rattle.faults.specs.declared.layer.Layer.TheVariants as layer
use Rattle.plan.specs.declared.fault.PlanFault.{PlanFault}
use Rattle.plan.specs.declared.fault.PlanFault.TheVariants.{Full, Period, Budget, Weight}

abbrev pub plan_number : PlanFault → ℕ
plan_number Full = 1
plan_number Period = 2
plan_number Budget = 3
plan_number Weight = 4

abbrev pub plan_layer : PlanFault → Layer
plan_layer f = layer.Plan

abbrev pub plan_sentence : PlanFault → List ℕ
plan_sentence Full = codes "a plan has at most 32 servers"
plan_sentence Period = codes "the period must be a divisor of 14400 ticks"
plan_sentence Budget = codes "the budget must be at least 1 tick and at most the period"
plan_sentence Weight = codes "the servers together would need more than the whole processor"
