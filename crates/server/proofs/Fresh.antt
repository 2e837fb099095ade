-- A fresh table keeps the demand bound.
use Rattle.std.proofs.Common.{◌≡◌, ℕ, zero, suc, ◌+◌, ◌-◌, ◌*◌, ◌%◌, ◌<◌, ◌≤◌, List, [], ◌∷◌, ◌++◌, length, get_or, take, sum_by, refl, ap, ◌∙◌, add-zero, zero-add, zero-mul, arith}
use Rattle.std.specs.List.{AllByRecursion}
use Rattle.std.proofs.lemmas.List.{take_more, length-take-le}
use Rattle.std.proofs.lemmas.List.Sums.{sum_by-cons}
use Rattle.plan.specs.declared.terms.Terms.{Terms}
use Rattle.plan.specs.Terms.{common_multiple, weight_of, blank}
use Rattle.server.specs.declared.row.Row.{Row}
use Rattle.server.specs.Row.{fresh_row}
use Rattle.server.specs.Turn.{blank_row}
use Rattle.server.specs.Tick.{fresh_rows}
use Rattle.server.specs.Demand.{demand, Kept, Fit, FreshTableKeepsTheBound}
use Rattle.server.proofs.Asks.{asks_share}
use Rattle.server.proofs.Bound.{shares_fit}

fresh_placed : (number : ℕ) (terms : List Terms) (k : ℕ) → k < length (fresh_rows number terms) → (get_or (fresh_rows number terms) k blank_row).number ≡ number + k
fresh_placed number [] k h = absurd (omega arith)
fresh_placed number (t ∷ more) zero h = omega arith
fresh_placed number (t ∷ more) (suc k) h = omega (arith, fresh_placed (suc number) more k (omega arith))

fresh_weight : (number : ℕ) (terms : List Terms) → sum_by (λ (row : Row). weight_of row.terms) (fresh_rows number terms) ≡ sum_by weight_of terms
fresh_weight number [] = refl
fresh_weight number (t ∷ more) =
    rw (sum_by-cons (λ (row : Row). weight_of row.terms) (fresh_row number t) (fresh_rows (suc number) more), sum_by-cons weight_of t more, fresh_weight (suc number) more) refl

-- what is said of each fresh row is said of all
fresh_all : (P : Row → Type 0) (number : ℕ) (terms : List Terms) → ((n : ℕ) (t : Terms) → Fit t → P (fresh_row n t)) → AllByRecursion Fit terms → AllByRecursion P (fresh_rows number terms)
fresh_all P number [] each _ = tt
fresh_all P number (t ∷ more) each (fit, others) = (each number t fit, fresh_all P (suc number) more each others)

fresh_kept : (n : ℕ) (t : Terms) → Fit t → Kept 0 (fresh_row n t)
fresh_kept n t fit = record { fit = fit; within = omega arith; near = omega arith; phase = (refl, refl, (λ _. refl), (λ _. omega (arith, zero-mul t.period))) }

fresh_share : (X n : ℕ) (t : Terms) → Fit t → (common_multiple % t.period ≡ 0) × (t.period * demand 0 X (fresh_row n t) ≤ t.budget * (X - 0))
fresh_share X n t fit = (fit.2, asks_share t.budget t.period (0 + 0) 0 0 X (omega arith) (λ _ _. omega (arith, zero-mul t.period)))

pub fresh_keeps : FreshTableKeepsTheBound
fresh_keeps terms fit light =
    let rows = fresh_rows 0 terms in
    let weights : sum_by (λ (row : Row). weight_of row.terms) rows ≤ common_multiple = omega (arith, fresh_weight 0 terms) in
    record {
      placed = λ k h. fresh_placed 0 terms k h ∙ zero-add k;
      kept = fresh_all (Kept 0) 0 terms fresh_kept fit;
      light = weights;
      bound = λ X h. shares_fit (X - 0) (demand 0 X) rows weights (fresh_all (λ row. (common_multiple % row.terms.period ≡ 0) × (row.terms.period * demand 0 X row ≤ row.terms.budget * (X - 0))) 0 terms (fresh_share X) fit);
    }

-- one row more, at the end
fresh_push : (i : ℕ) (terms : List Terms) (t : Terms) → fresh_rows i (terms ++ (t ∷ [])) ≡ fresh_rows i terms ++ (fresh_row (i + length terms) t ∷ [])
fresh_push i [] t = rw add-zero
fresh_push i (first ∷ terms) t = ap (λ (rows : List Row). fresh_row i first ∷ rows) (fresh_push (suc i) terms t ∙ ap (λ (n : ℕ). fresh_rows (suc i) terms ++ (fresh_row n t ∷ [])) (next i (length terms)))
  where
    next : (i n : ℕ) → suc i + n ≡ i + suc n
    next i n = omega arith

pub fresh_more : (terms : List Terms) (k : ℕ) → k < length terms → fresh_rows 0 (take (k + 1) terms) ≡ fresh_rows 0 (take k terms) ++ (fresh_row k (get_or terms k blank) ∷ [])
fresh_more terms k inside =
    ap (fresh_rows 0) (take_more terms k blank inside)
    ∙ fresh_push 0 (take k terms) (get_or terms k blank)
    ∙ ap (λ (n : ℕ). fresh_rows 0 (take k terms) ++ (fresh_row n (get_or terms k blank) ∷ [])) (length_of terms k inside)
  where
    length_of : (terms : List Terms) (k : ℕ) → k < length terms → 0 + length (take k terms) ≡ k
    length_of terms k inside = omega (arith, length-take-le k terms (omega arith))
