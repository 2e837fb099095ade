-- The law of shares: what each server of a plan is owed, and what it owes, in a run of the plan's executive. Server k has
-- the budget Q and the period T that the plan gives it. The words are those of the page Run.
use Rattle.std.specs.Prelude.{◌≡◌, ℕ, ◌+◌, ◌<◌, ◌≤◌, true, false, cond, ◌⊎◌, List, length, ◌≢◌, slice_index_or}
use Rattle.std.specs.List.{AllByRecursion}
use Rattle.plan.specs.declared.terms.Kind.{Kind}
use Rattle.plan.specs.declared.terms.Kind.TheVariants.{Isolated}
use Rattle.plan.specs.declared.terms.Terms.{Terms}
use Rattle.plan.specs.Terms.{blank}
use Rattle.server.specs.declared.row.Phase.TheVariants.{Supplying}
use Rattle.executive.specs.Calls.{State, nobody}
use Rattle.executive.specs.Run.{Call, Entry, RuleChoice, RuleStep, run_from, row_of, holds, is_tick, ticks_in, runs, pays, paid_by, deadline_in, left_in, renewed_for_theft, available, DeadlineComes, WasCut, RechargedBy, Recharged, NoRechargeBetween, WorksThrough, Follows}

abbrev budget : List Terms → ℕ → ℕ
budget terms k = (slice_index_or terms k blank).budget

abbrev period : List Terms → ℕ → ℕ
period terms k = (slice_index_or terms k blank).period

abbrev kind : List Terms → ℕ → Kind
kind terms k = (slice_index_or terms k blank).kind

module _ {R : Type 0} (terms : List Terms) where
  -- Full budget. A server recharged at s, and at work at each of the ticks s to s + T − 1, all of them in the run, runs in
  -- at least Q of them.
  abbrev pub FullBudget : List (Entry R) → Type 0
  FullBudget run =
      (k s : ℕ) → k < length terms
      → Recharged k (period terms k) s run → WorksThrough k s (s + period terms k) run
      → budget terms k ≤ ticks_in s (s + period terms k) (runs k) run

  -- Spaced recharges. Two recharges of a server, at s and later at u, lie at least T apart.
  abbrev pub SpacedRecharges : List (Entry R) → Type 0
  SpacedRecharges run =
      (k s u : ℕ) (e f : Entry R) → k < length terms
      → Follows run e f → RechargedBy k (period terms k) s e → RechargedBy k (period terms k) u f
      → s + period terms k ≤ u

  -- No overcharge. A server recharged at s is charged at most Q of the ticks s to u − 1, if no recharge comes after s and
  -- before u: so up to the next recharge, and where none comes, for as long as the run is.
  abbrev pub NoOvercharge : List (Entry R) → Type 0
  NoOvercharge run =
      (k s u : ℕ) → k < length terms
      → Recharged k (period terms k) s run → NoRechargeBetween k (period terms k) s u run
      → ticks_in s u (pays k) run ≤ budget terms k

  -- One payer, of each call. Whoever is answered as runner is a server, and the tick is charged to one server and no
  -- other, under a deadline no later than the runner's when the tick was called.
  abbrev pub OnePayer : Entry R → Type 0
  OnePayer e =
      (i : ℕ) → runs i e ≡ true → (i ≢ nobody)
      → (i < length terms)
      × (deadline_in e ≤ (row_of i e.before).account.deadline)
      × ((k : ℕ) × (k < length terms) × (pays k e ≡ true) × ((j : ℕ) → pays j e ≡ true → j ≡ k))

  -- Isolation, of each call. An isolated server that pays for another's job or for idle time is supplying at that tick.
  abbrev pub Isolation : Entry R → Type 0
  Isolation e =
      (k : ℕ) → k < length terms → kind terms k ≡ Isolated → pays k e ≡ true → runs k e ≡ false
      → (row_of k e.before).phase ≡ Supplying

  -- The accounts, of each call. A tick takes one from the payer, under its deadline, and nothing from any other row: what
  -- a row holds afterwards, and one if it paid, is what it had available, unless its deadline comes, or it rests and was cut.
  abbrev pub Accounts : Entry R → Type 0
  Accounts e =
      (k : ℕ) → k < length terms → is_tick e ≡ true
      → (pays k e ≡ true
      → (left_in e + 1 ≡ available k (budget terms k) e)
      × (deadline_in e ≡ cond (renewed_for_theft k e) (e.before.instant + period terms k) (row_of k e.before).account.deadline))
      × ((holds (row_of k e.after) + paid_by k e ≡ available k (budget terms k) e)
      ⊎ (DeadlineComes k e
      ⊎ (WasCut k e × (holds (row_of k e.after) + paid_by k e ≤ available k (budget terms k) e))))

  -- all of it
  pub record Shares (run : List (Entry R)) : Type 0 where
    pub full_budget : FullBudget run
    pub spaced_recharges : SpacedRecharges run
    pub no_overcharge : NoOvercharge run
    pub one_payer : AllByRecursion OnePayer run
    pub isolation : AllByRecursion Isolation run
    pub accounts : AllByRecursion Accounts run

-- The law, whole, of an executive in a state: whatever calls it hears from then on.
abbrev pub LawOfShares : {R : Type 0} → RuleChoice R → RuleStep R → List Terms → State R → Type 0
LawOfShares choice step terms state = (calls : List Call) → Shares terms (run_from choice step state calls)
