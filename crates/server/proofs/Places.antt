-- One row of a table is changed, in its place among the first so many.
use Rattle.std.proofs.Common.{◌≡◌, ℕ, zero, suc, ◌<◌, ◌≤◌, List, [], ◌∷◌, ◌++◌, map, length, get_or, take, drop, set, sym, refl, ap, ◌∙◌, arith}
use Rattle.std.proofs.lemmas.List.{length-map, length-take, get_or-take, take_at}
use Rattle.server.specs.declared.row.Row.{Row}
use Rattle.server.specs.Turn.{blank_row}
use Rattle.server.specs.Tick.{changed}

take_set : {X : Type 0} (n : ℕ) (xs : List X) (k : ℕ) (x : X) → k < n → take n (set xs k x) ≡ set (take n xs) k x
take_set zero xs k x below = absurd (omega arith)
take_set (suc n) [] k x below = refl
take_set (suc n) (y ∷ xs) zero x below = refl
take_set {X} (suc n) (y ∷ xs) (suc k) x below = ap (λ (l : List X). y ∷ l) (take_set n xs k x (omega arith))

module _ (f : Row → Row) (rows : List Row) (n k : ℕ) where
  pub changed_inside : (row after : Row) → k < n → row ≡ get_or rows k blank_row → after ≡ f row → take n (set rows k after) ≡ changed f k (take n rows)
  changed_inside row after below is change =
      take_set n rows k after below ∙ ap (λ (x : Row). set (take n rows) k x) (change ∙ ap f (is ∙ sym (get_or-take n rows k blank_row below)))

-- the first so many rows are changed, and the others stay behind them
module _ (f : Row → Row) (rows front : List Row) (n m : ℕ) (all : m ≡ n) (fit : n ≤ length rows) (is : front ≡ map f (take m rows)) where
  long : length front ≡ n
  long = ap length is ∙ length-map (take m rows) f ∙ omega (arith, length-take m rows)

  pub front_rows : take n (front ++ drop m rows) ≡ map f (take n rows)
  front_rows = take_at front (drop m rows) n long ∙ is ∙ ap (λ (i : ℕ). map f (take i rows)) all
