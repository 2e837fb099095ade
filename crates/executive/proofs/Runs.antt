-- From one call to a whole run.
use Rattle.std.proofs.Common.{◌≡◌, ℕ, ◌+◌, ◌<◌, ◌≤◌, Bool, true, false, cond, ◌⊎◌, List, [], ◌∷◌, sym, ◌∙◌, subst, inl, inr, ⊎_elim, le_trans, le_refl, arith}
use Rattle.std.specs.List.{ContainsAt as Has}
use Rattle.std.proofs.lemmas.Bool.{cases_Bool, cases_lt}
use Rattle.server.specs.declared.row.Phase.TheVariants.{AtWork, Supplying}
use Rattle.executive.specs.Calls.{State}
use Rattle.executive.specs.Run.{Call, who, Entry, RuleChoice, RuleStep, entry_of, after_call, run_from, row_of, holds, is_tick, runs, pays, ticks_in, RechargedBy, WorksThrough, Follows}
use Rattle.executive.proofs.Moves.{Moves, Stays, Renewed, Robbed}
use Rattle.executive.proofs.Counting.{has_none, has_first, has_behind, has_cases, counted, count_first, counted_le, counted_one, counted_outside, counted_inside}

-- what a row in two phases at once would make equal
clash : ◌≡◌ {A = ℕ} 0 1 → ⊥
clash e = omega arith

module _ {R : Type 0} (choice : RuleChoice R) (step : RuleStep R) (Good : State R → Type 0) (k Q T : ℕ) (pos : 0 < T) (keeps : (state : State R) (call : Call) → Good state → Good (after_call choice step state call)) (moves : (state : State R) (call : Call) → Good state → Moves k Q T (entry_of choice step state call)) where
  abbrev run : State R → List Call → List (Entry R)
  run state calls = run_from choice step state calls

  abbrev entry : State R → Call → Entry R
  entry state call = entry_of choice step state call

  abbrev next : State R → Call → State R
  next state call = after_call choice step state call

  abbrev due : State R → ℕ
  due state = (row_of k state).account.deadline

  -- the clock does not go back
  onward : (state : State R) (call : Call) → Good state → state.instant ≤ (next state call).instant
  onward state call good =
      ⊎_elim
      (λ (is : is_tick (entry state call) ≡ true). omega (arith, (moves state call good).ticks is))
      (λ (is : is_tick (entry state call) ≡ false). omega (arith, (moves state call good).still is))
      (cases_Bool (is_tick (entry state call)))

  -- a deadline does not come nearer
  due_onward : (state : State R) (call : Call) → Good state → due state ≤ due (next state call)
  due_onward state call good =
      ⊎_elim
      (λ (stays : Stays k Q T (entry state call)). omega (arith, stays.0))
      (⊎_elim
      (λ (renewed : Renewed k Q T (entry state call)). omega (arith, renewed.0, renewed.1))
      (λ (robbed : Robbed k Q T (entry state call)). omega (arith, robbed.1, robbed.2)))
      (moves state call good).way

  -- a call recharges at no instant before it, and at none before the deadline
  recharge_ahead : (state : State R) (call : Call) → Good state → (s : ℕ) → RechargedBy k T s (entry state call) → (state.instant ≤ s) × (due state ≤ s)
  recharge_ahead state call good s recharged =
      ⊎_elim
      (λ (stays : Stays k Q T (entry state call)). absurd (recharged.1 stays.0))
      (⊎_elim
      (λ (renewed : Renewed k Q T (entry state call)). let at : s ≡ (next state call).instant = omega (arith, recharged.0, renewed.1) in (omega (arith, onward state call good), omega (arith, renewed.0)))
      (λ (robbed : Robbed k Q T (entry state call)). let at : s ≡ state.instant = omega (arith, recharged.0, robbed.2) in (omega arith, omega (arith, robbed.1))))
      (moves state call good).way

  -- so does a run
  later : (state : State R) → Good state → (calls : List Call) (e : Entry R) → Has (run state calls) e → state.instant ≤ e.before.instant
  later state good [] e has = absurd (has_none e has)
  later state good (call ∷ calls) e has =
      ⊎_elim
      (λ (is : entry state call ≡ e). subst (λ (f : Entry R). state.instant ≤ f.before.instant) is (le_refl _))
      (λ (behind : Has (run (next state call) calls) e). le_trans (onward state call good) (later (next state call) (keeps state call good) calls e behind))
      (has_cases (entry state call) (run (next state call) calls) e has)

  recharge_later : (state : State R) → Good state → (calls : List Call) (s : ℕ) (e : Entry R) → Has (run state calls) e → RechargedBy k T s e → (state.instant ≤ s) × (due state ≤ s)
  recharge_later state good [] s e has recharged = absurd (has_none e has)
  recharge_later state good (call ∷ calls) s e has recharged =
      ⊎_elim
      (λ (is : entry state call ≡ e). recharge_ahead state call good s (subst (RechargedBy k T s) (sym is) recharged))
      (λ (behind : Has (run (next state call) calls) e).
      let ahead = recharge_later (next state call) (keeps state call good) calls s e behind recharged in
      (le_trans (onward state call good) ahead.0, le_trans (due_onward state call good) ahead.1))
      (has_cases (entry state call) (run (next state call) calls) e has)

  pub spaced : (state : State R) → Good state → (calls : List Call) (s u : ℕ) (e f : Entry R) → Follows (run_from choice step state calls) e f → RechargedBy k T s e → RechargedBy k T u f → s + T ≤ u
  spaced state good [] s u e f none first second = absurd none
  spaced state good (call ∷ calls) s u e f (inl (is, behind)) first second =
      let here = subst (RechargedBy k T s) (sym is) first in
      omega (arith, here.0, (recharge_later (next state call) (keeps state call good) calls u f behind second).1)
  spaced state good (call ∷ calls) s u e f (inr behind) first second = spaced (next state call) (keeps state call good) calls s u e f behind first second

  -- a call that leaves the clock at s or before it is no tick at s or after it
  tick_before : (state : State R) (call : Call) → Good state → (s : ℕ) → (next state call).instant ≤ s → is_tick (entry state call) ≡ true → state.instant < s
  tick_before state call good s upto is = omega (arith, (moves state call good).ticks is)

  -- once the clock has left a window nothing more is counted in it
  none_later : (state : State R) → Good state → (calls : List Call) (s u : ℕ) (kind : Entry R → Bool) → u ≤ state.instant → ticks_in s u kind (run state calls) ≤ 0
  none_later state good [] s u kind past = omega arith
  none_later state good (call ∷ calls) s u kind past =
      omega (
        arith,
        count_first s u kind (entry state call) (run (next state call) calls),
        counted_outside s u kind (entry state call) (λ _. inr past),
        none_later (next state call) (keeps state call good) calls s u kind (le_trans past (onward state call good)),
      )

  -- no recharge comes after s and before u
  abbrev Unbroken : ℕ → ℕ → List (Entry R) → Type 0
  Unbroken s u entries = (v : ℕ) (f : Entry R) → Has entries f → RechargedBy k T v f → s < v → v < u → ⊥

  -- a recharge of a row whose deadline is s + T ends the time from s on
  ends : (s u v : ℕ) (e : Entry R) (behind : List (Entry R)) → Unbroken s u (e ∷ behind) → (row_of k e.before).account.deadline ≡ s + T → (row_of k e.before).account.deadline ≤ v → (row_of k e.after).account.deadline ≡ v + T → u ≤ v
  ends s u v e behind unbroken before past after =
      ⊎_elim
      (λ (inside : v < u). absurd (unbroken v e (has_first e behind) (after, λ same. omega (arith, pos, same)) (omega (arith, pos)) inside))
      (λ (outside : u ≤ v). outside)
      (cases_lt v u)

  -- up to then it is charged at most what it holds
  spends : (state : State R) → Good state → (calls : List Call) (s u n : ℕ) → due state ≡ s + T → n + holds (row_of k state) ≤ Q → Unbroken s u (run state calls) → n + ticks_in s u (pays k) (run state calls) ≤ Q
  spends state good [] s u n at enough unbroken = omega arith
  spends state good (call ∷ calls) s u n at enough unbroken =
      let e = entry state call in
      let after = next state call in
      let behind = run after calls in
      let kept = keeps state call good in
      let count = count_first s u (pays k) e behind in
      ⊎_elim
      (λ (stays : Stays k Q T e).
      omega (arith, count, counted_le s u (pays k) e, spends after kept calls s u (n + cond (pays k e) 1 0) (stays.0 ∙ at) (omega (arith, stays.1)) (λ v f has. unbroken v f (has_behind e behind f has))))
      (⊎_elim
      (λ (renewed : Renewed k Q T e).
      omega (arith, count, counted_le s u (pays k) e, renewed.5, none_later after kept calls s u (pays k) (ends s u after.instant e behind unbroken at renewed.0 renewed.1)))
      (λ (robbed : Robbed k Q T e).
      let over : u ≤ state.instant = ends s u state.instant e behind unbroken at robbed.1 robbed.2 in
      omega (arith, count, counted_outside s u (pays k) e (λ _. inr over), none_later after kept calls s u (pays k) (le_trans over (onward state call good)))))
      (moves state call good).way

  pub charged : (state : State R) → Good state → (calls : List Call) (s u : ℕ) (e : Entry R) → Has (run_from choice step state calls) e → RechargedBy k T s e → ((v : ℕ) (f : Entry R) → Has (run_from choice step state calls) f → RechargedBy k T v f → s < v → v < u → ⊥) → ticks_in s u (pays k) (run_from choice step state calls) ≤ Q
  charged state good [] s u e has recharged unbroken = absurd (has_none e has)
  charged state good (call ∷ calls) s u e has recharged unbroken =
      let first = entry state call in
      let after = next state call in
      let behind = run after calls in
      let kept = keeps state call good in
      let count = count_first s u (pays k) first behind in
      let unbroken_behind : Unbroken s u behind = λ v f has. unbroken v f (has_behind first behind f has) in
      let before : after.instant ≤ s → counted s u (pays k) first ≤ 0 = λ upto. counted_outside s u (pays k) first (λ is. inl (tick_before state call good s upto is)) in
      ⊎_elim
      (λ (is : first ≡ e).
      let here = subst (RechargedBy k T s) (sym is) recharged in
      ⊎_elim
      (λ (stays : Stays k Q T first). absurd (here.1 stays.0))
      (⊎_elim
      (λ (renewed : Renewed k Q T first).
      omega (arith, count, before (omega (arith, here.0, renewed.1)), spends after kept calls s u 0 here.0 (omega (arith, renewed.2)) unbroken_behind))
      (λ (robbed : Robbed k Q T first).
      omega (arith, count, counted_one s u (pays k) first, spends after kept calls s u 1 here.0 (omega (arith, robbed.3)) unbroken_behind)))
      (moves state call good).way)
      (λ (later : Has behind e).
      omega (arith, count, before (recharge_later after kept calls s e later recharged).0, charged after kept calls s u e later recharged unbroken_behind))
      (has_cases first behind e has)

  -- a row at work or supplying is before its deadline
  live : (state : State R) → Good state → ((row_of k state).phase ≡ AtWork) ⊎ ((row_of k state).phase ≡ Supplying) → state.instant < due state
  live state good (inl works) = (moves state who good).alive (λ rests. clash cc)
  live state good (inr supplies) = (moves state who good).alive (λ rests. clash cc)

  -- a server at work at every tick from the present one on is so from the next one on
  works_behind : (s u : ℕ) (first : Entry R) (behind : List (Entry R)) → (is_tick first ≡ true → first.before.instant < s) → WorksThrough k s u (first ∷ behind) → WorksThrough k s u behind
  works_behind s u first behind past works v low high =
      let found = works v low high in
      ⊎_elim
      (λ (is : first ≡ found.0).
      let tick : is_tick first ≡ true = subst (λ (e : Entry R). is_tick e ≡ true) (sym is) found.2 in
      let at : first.before.instant ≡ v = subst (λ (e : Entry R). e.before.instant ≡ v) (sym is) found.3 in
      absurd (omega (arith, past tick)))
      (λ (later : Has behind found.0). (found.0, later, found.2, found.3, found.4))
      (has_cases first behind found.0 found.1)

  works_on : (state : State R) → Good state → (call : Call) (calls : List Call) (u : ℕ) → WorksThrough k state.instant u (run state (call ∷ calls)) → WorksThrough k (next state call).instant u (run (next state call) calls)
  works_on state good call calls u works =
      works_behind (next state call).instant u (entry state call) (run (next state call) calls) (tick_before state call good (next state call).instant (le_refl _))
      (λ v low. works v (le_trans (onward state call good) low))

  -- and is so at the present one
  works_now : (state : State R) → Good state → (call : Call) (calls : List Call) (u : ℕ) → state.instant < u → is_tick (entry state call) ≡ true → WorksThrough k state.instant u (run state (call ∷ calls)) → (row_of k state).phase ≡ AtWork
  works_now state good call calls u before tick works =
      let found = works state.instant (le_refl _) before in
      ⊎_elim
      (λ (is : entry state call ≡ found.0). subst (λ (e : Entry R). (row_of k e.before).phase ≡ AtWork) (sym is) found.4)
      (λ (behind : Has (run (next state call) calls) found.0).
      absurd (omega (arith, found.3, (moves state call good).ticks tick, later (next state call) (keeps state call good) calls found.0 behind)))
      (has_cases (entry state call) (run (next state call) calls) found.0 found.1)

  -- so it does not supply
  supplies_not : (state : State R) → Good state → (calls : List Call) (u : ℕ) → state.instant < u → (row_of k state).phase ≡ Supplying → WorksThrough k state.instant u (run state calls) → ⊥
  supplies_not state good [] u before supplies works = let found = works state.instant (le_refl _) before in has_none found.0 found.1
  supplies_not state good (call ∷ calls) u before supplies works =
      ⊎_elim
      (λ (tick : is_tick (entry state call) ≡ true). let now = works_now state good call calls u before tick works in clash cc)
      (λ (none : is_tick (entry state call) ≡ false).
      let moved = moves state call good in
      supplies_not (next state call) (keeps state call good) calls u (omega (arith, moved.still none)) (moved.supply_still supplies none).1 (works_on state good call calls u works))
      (cases_Bool (is_tick (entry state call)))

  -- a row at work at every tick up to its deadline runs in as many as its capacity has
  runs_out : (state : State R) → Good state → (calls : List Call) (s n : ℕ) → s ≤ state.instant → state.instant < s + T → due state ≡ s + T → (row_of k state).phase ≡ AtWork → Q ≤ n + (row_of k state).account.capacity
      → WorksThrough k state.instant (s + T) (run state calls) → Q ≤ n + ticks_in s (s + T) (runs k) (run state calls)
  runs_out state good [] s n since before at phase enough works = let found = works state.instant (le_refl _) before in absurd (has_none found.0 found.1)
  runs_out state good (call ∷ calls) s n since before at phase enough works =
      let first = entry state call in
      let after = next state call in
      let behind = run after calls in
      let kept = keeps state call good in
      let moved = moves state call good in
      let count = count_first s (s + T) (runs k) first behind in
      let works_after = works_on state good call calls (s + T) works in
      let since_after : s ≤ after.instant = le_trans since (onward state call good) in
      ⊎_elim
      (λ (tick : is_tick first ≡ true).
      let ran = counted_inside s (s + T) (runs k) first tick since before in
      ⊎_elim
      (λ last. omega (arith, count, ran, last.1))
      (λ on.
      ⊎_elim
      (λ still.
      omega (arith, count, ran, runs_out after kept calls s (n + cond (runs k first) 1 0) since_after (omega (arith, on.1, live after kept (inl still.0))) (on.1 ∙ at) still.0 (omega (arith, still.1)) works_after))
      (λ supplies.
      absurd (supplies_not after kept calls (s + T) (omega (arith, on.1, live after kept (inr supplies))) supplies works_after))
      on.2)
      (moved.work_ticks phase tick))
      (λ (none : is_tick first ≡ false).
      let same = moved.work_still phase none in
      omega (arith, count, runs_out after kept calls s n since_after (omega (arith, moved.still none)) (same.0 ∙ at) same.1 (omega (arith, same.2)) works_after))
      (cases_Bool (is_tick first))

  pub full : (state : State R) → Good state → (calls : List Call) (s : ℕ) (e : Entry R) → Has (run_from choice step state calls) e → RechargedBy k T s e → WorksThrough k s (s + T) (run_from choice step state calls) → Q ≤ ticks_in s (s + T) (runs k) (run_from choice step state calls)
  full state good [] s e has recharged works = absurd (has_none e has)
  full state good (call ∷ calls) s e has recharged works =
      let first = entry state call in
      let after = next state call in
      let behind = run after calls in
      let kept = keeps state call good in
      let count = count_first s (s + T) (runs k) first behind in
      let onto : after.instant ≤ s → WorksThrough k s (s + T) behind = λ upto. works_behind s (s + T) first behind (tick_before state call good s upto) works in
      ⊎_elim
      (λ (is : first ≡ e).
      let here = subst (RechargedBy k T s) (sym is) recharged in
      ⊎_elim
      (λ (stays : Stays k Q T first). absurd (here.1 stays.0))
      (⊎_elim
      (λ (renewed : Renewed k Q T first).
      let at : s ≡ after.instant = omega (arith, here.0, renewed.1) in
      let works_after : WorksThrough k after.instant (s + T) behind = λ v low high. onto (omega arith) v (omega arith) high in
      omega (arith, count, runs_out after kept calls s 0 (omega arith) (omega (arith, pos)) here.0 renewed.3 (omega (arith, renewed.4)) works_after))
      (λ (robbed : Robbed k Q T first).
      let at : s ≡ state.instant = omega (arith, here.0, robbed.2) in
      let now = works_now state good call calls (s + T) (omega (arith, pos)) robbed.0 (λ v low high. works v (omega arith) high) in
      let rests = robbed.4 in
      absurd (clash cc)))
      (moves state call good).way)
      (λ (later : Has behind e).
      omega (arith, count, full after kept calls s e later recharged (onto (recharge_later after kept calls s e later recharged).0)))
      (has_cases first behind e has)
