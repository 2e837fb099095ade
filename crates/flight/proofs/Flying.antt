-- How a flight goes, by its parts.
use Rattle.std.proofs.Common.{ℕ, suc, false, List, [], ◌∷◌, ◌++◌, Ok, Err, Result, refl, sym, subst, append_assoc, append-nil}
use Rattle.executive.specs.declared.fault.CallFault.{CallFault}
use Rattle.executive.specs.Calls.{RuleChoice, RuleStep, State, Ticked, tick_of, ticked_by}
use Rattle.flight.specs.Flight.{Line, Flown, Flies, landed, behind, ticking, flown_tick, flown_ticks}

module _ {R L F : Type 0} (heard : L → List Line → Type 0) where
  -- nothing more to fly
  pub flies_landed : (state : State R) (listener : L) → Flies {F = F} heard (landed state) (Ok tt) state listener listener
  flies_landed state listener = record { answers = refl; stands = refl; hears = λ lines before. subst (heard listener) (sym (append-nil lines)) before }

  -- with lines before
  pub flies_behind : (more : List Line) (rest : Flown R F) (answer : Result (Unit {0}) F) (after : State R) (old middle new : L) → ((lines : List Line) → heard old lines → heard middle (lines ++ more)) → Flies heard rest answer after middle new → Flies heard (behind more rest) answer after old new
  flies_behind more rest answer after old middle new first then =
      record {
        answers = then.answers;
        stands = then.stands;
        hears = λ lines before. subst (heard new) (append_assoc lines more rest.lines) (then.hears (lines ++ more) (first lines before));
      }

  -- whoever flies the rest, in whatever way, has flown the whole
  abbrev pub Completes : Flown R F → L → Flown R F → L → Type 0
  Completes rest middle whole old =
      (answer : Result (Unit {0}) F) (after : State R) (new : L) → Flies heard rest answer after middle new → Flies heard whole answer after old new

module _ {R L : Type 0} (heard : L → List Line → Type 0) (choice : RuleChoice R) (step : RuleStep R) where
  -- a tick that was granted, and the ticks after it
  pub tick_more : (n : ℕ) (state middle : State R) (old now : L) → Flies heard (flown_tick choice step false state) (Ok tt) middle old now → Completes heard (flown_ticks choice step n middle) now (flown_ticks choice step (suc n) state) old
  tick_more n state middle old now first =
      by_answer (tick_of choice state false) (ticked_by choice step state false) first
    where
      by_answer : (r : Result Ticked CallFault) (next : State R) → Flies heard (ticking r state (landed next)) (Ok tt) middle old now → Completes heard (flown_ticks choice step n middle) now (ticking r state (flown_ticks choice step n next)) old
      by_answer (Ok answer) next one =
          λ all after new rest. flies_behind heard ((state.instant, answer) ∷ []) (flown_ticks choice step n next) all after old now new one.hears (rw (← one.stands) rest)
      by_answer (Err fault) next one = absurd (cc one.answers)

  -- a tick that was refused: no tick comes after it
  pub tick_ended : (n : ℕ) (fault : CallFault) (state after : State R) (old new : L) → Flies heard (flown_tick choice step false state) (Err fault) after old new → Flies heard (flown_ticks choice step (suc n) state) (Err fault) after old new
  tick_ended n fault state after old new last =
      by_answer (tick_of choice state false) (ticked_by choice step state false) last
    where
      by_answer : (r : Result Ticked CallFault) (next : State R) → Flies heard (ticking r state (landed next)) (Err fault) after old new → Flies heard (ticking r state (flown_ticks choice step n next)) (Err fault) after old new
      by_answer (Ok answer) next wrong = absurd (cc wrong.answers)
      by_answer (Err other) next one = one
