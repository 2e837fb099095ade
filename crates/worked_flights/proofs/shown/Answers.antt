use Rattle.std.proofs.Common.{refl}
use Rattle.worked_flights.proofs.Computed.{all}
use Rattle.worked_flights.proofs.shown.Goals as goal

pub returns : goal.returns
returns c = record { count = refl; flights = all }
