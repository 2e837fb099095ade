-- From the records of a trace to the whole of it.
use Rattle.std.proofs.Common.{◌≡◌, ℕ, suc, ◌+◌, ◌*◌, List, Some, None, Ok, Err, Option, Result, sym, ap, ◌∙◌}
use Rattle.faults.specs.declared.placed.Placed.{Placed}
use Rattle.records.specs.Faults.{placed_at}
use Rattle.records.specs.Trace.{record_read}
use Rattle.executive.specs.Calls.{RuleChoice, RuleStep, State}
use Rattle.flight.specs.declared.fault.FlightFault.{FlightFault}
use Rattle.flight.specs.Flight.{Line, Flies, flown_read, onward, flown_from}
use Rattle.flight.proofs.Flying.{flies_behind, Completes}

-- the k-th record, which begins at this byte; with it m records are left to fly, and n after it
module _ {R L : Type 0} (heard : L → List Line → Type 0) (choice : RuleChoice R) (step : RuleStep R) (trace : List ℕ) (byte k m n : ℕ) (state : State R) (answer : Result (Unit {0}) FlightFault) (after : State R) (old new : L) where
  -- without a fault: the others are flown after it
  pub record_more : byte ≡ 2 * k → m ≡ suc n → placed_at answer byte ≡ Ok tt → Flies heard (flown_read choice step (record_read trace byte) state) answer after old new → Completes heard (flown_from choice step trace (k + 1) n after) new (flown_from choice step trace k m state) old
  record_more is next granted first =
      let here = flown_read choice step (record_read trace byte) state in rw (next, ← is) (by_fault here.fault here.lines here.state first)
    where
      by_fault : (fault : Option FlightFault) (lines : List Line) (stands : State R) → Flies heard (record { state = stands; lines = lines; fault = fault }) answer after old new → Completes heard (flown_from choice step trace (k + 1) n after) new (onward choice step fault byte lines stands (flown_from choice step trace (k + 1) n stands)) old
      by_fault None lines stands one =
          λ all last end rest. flies_behind heard lines (flown_from choice step trace (k + 1) n stands) all last old new end one.hears (rw (← one.stands) rest)
      by_fault (Some fault) lines stands one =
          let wrong = sym granted ∙ ap (λ (a : Result (Unit {0}) FlightFault). placed_at a byte) one.answers in absurd (cc wrong)

  -- with one: it ends there
  pub record_ended : (placed : Placed FlightFault) → byte ≡ 2 * k → m ≡ suc n → placed_at answer byte ≡ Err placed → Flies heard (flown_read choice step (record_read trace byte) state) answer after old new → Flies heard (flown_from choice step trace k m state) (Err placed) after old new
  record_ended placed is next refused last =
      let here = flown_read choice step (record_read trace byte) state in rw (next, ← is) (by_fault here.fault here.lines here.state last)
    where
      by_fault : (fault : Option FlightFault) (lines : List Line) (stands : State R) → Flies heard (record { state = stands; lines = lines; fault = fault }) answer after old new → Flies heard (onward choice step fault byte lines stands (flown_from choice step trace (k + 1) n stands)) (Err placed) after old new
      by_fault None lines stands one =
          let wrong = sym refused ∙ ap (λ (a : Result (Unit {0}) FlightFault). placed_at a byte) one.answers in absurd (cc wrong)
      by_fault (Some fault) lines stands one =
          record {
            answers = sym refused ∙ ap (λ (a : Result (Unit {0}) FlightFault). placed_at a byte) one.answers;
            stands = one.stands;
            hears = one.hears;
          }
