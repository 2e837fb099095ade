-- The law of shares, put together: what holds of each call holds of all calls of a run.
use Rattle.std.proofs.Common.{◌≡◌, ℕ, suc, ◌<◌, ◌≤◌, List, [], ◌∷◌, map, length, get_or, sum_by, refl, ap, arith}
use Rattle.std.specs.List.{AllByRecursion}
use Rattle.std.proofs.ByRecursion.{All-get_or}
use Rattle.plan.specs.declared.terms.Terms.{Terms}
use Rattle.plan.specs.Terms.{blank, common_multiple, weight_of}
use Rattle.server.specs.declared.row.Row.{Row}
use Rattle.server.specs.Tick.{fresh_rows}
use Rattle.server.specs.Demand.{Fit, Inside}
use Rattle.server.proofs.Fresh.{fresh_keeps}
use Rattle.executive.specs.Calls.{State, fresh_state}
use Rattle.executive.specs.Run.{Call, Entry, RuleChoice, RuleStep, entry_of, after_call, run_from}
use Rattle.executive.specs.Shares.{OnePayer, Isolation, Accounts, LawOfShares}
use Rattle.executive.proofs.Runs.{full, spaced, charged}
use Rattle.executive.proofs.Entries.{Good, keeps, moves, one_pays, isolated_supplies, accounts_kept}

-- the terms of fresh rows are those that they were made of
fresh_terms : (n : ℕ) (terms : List Terms) → map (λ (row : Row). row.terms) (fresh_rows n terms) ≡ terms
fresh_terms n [] = refl
fresh_terms n (t ∷ terms) = ap (λ (rest : List Terms). t ∷ rest) (fresh_terms (suc n) terms)

module _ {R : Type 0} (choice : RuleChoice R) (step : RuleStep R) (inside : (rule : R) (t : ℕ) → Inside (choice rule t)) (terms : List Terms) where
  -- what holds of each call on an executive that keeps its bound holds of all calls of a run
  each : (P : Entry R → Type 0) → ((state : State R) (call : Call) → Good terms state → P (entry_of choice step state call)) → (state : State R) → Good terms state → (calls : List Call) → AllByRecursion P (run_from choice step state calls)
  each P holds state good [] = tt
  each P holds state good (call ∷ calls) = (holds state call good, each P holds (after_call choice step state call) (keeps choice step inside terms state call good) calls)

  module _ (fit : AllByRecursion Fit terms) (light : sum_by weight_of terms ≤ common_multiple) (rule : R) where
    start : State R
    start = fresh_state terms rule

    good : Good terms start
    unfolding start
    good = record { sound = fresh_keeps terms fit light; same = fresh_terms 0 terms }

    positive : (k : ℕ) → k < length terms → 0 < (get_or terms k blank).period
    positive k h = let fits = All-get_or Fit terms k blank h fit in omega (arith, fits.0, fits.1)

    pub law : LawOfShares choice step terms (fresh_state terms rule)
    unfolding start
    law calls =
        record {
          full_budget = λ k s h by. full choice step (Good terms) k (get_or terms k blank).budget (get_or terms k blank).period (positive k h) (keeps choice step inside terms) (moves choice step inside terms k h) start good calls s by.0 by.1 by.2;
          spaced_recharges = λ k s u e f h. spaced choice step (Good terms) k (get_or terms k blank).budget (get_or terms k blank).period (positive k h) (keeps choice step inside terms) (moves choice step inside terms k h) start good calls s u e f;
          no_overcharge = λ k s u h by. charged choice step (Good terms) k (get_or terms k blank).budget (get_or terms k blank).period (positive k h) (keeps choice step inside terms) (moves choice step inside terms k h) start good calls s u by.0 by.1 by.2;
          one_payer = each (OnePayer terms) (one_pays choice step inside terms) start good calls;
          isolation = each (Isolation terms) (isolated_supplies choice step inside terms) start good calls;
          accounts = each (Accounts terms) (accounts_kept choice step inside terms) start good calls;
        }
