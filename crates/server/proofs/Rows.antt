-- One row of a table in a tick, and the terms of all rows in an arrival and a tick.
use Rattle.std.proofs.Common.{◌≡◌, ℕ, suc, ◌+◌, ◌*◌, ◌/◌, ◌%◌, ◌<◌, ◌≤◌, Bool, true, false, cond, ◌&&◌, eqb, leb, List, [], ◌∷◌, map, length, get_or, Some, None, sum_by, Option, sym, refl, ap, ◌∙◌, subst, ⊎_elim, mul-le-mul_right, one-mul, mul-zero, arith, length-set, get_or-set_other, get_or-set_same}
use native.Mathlib.Nat.{div-add-mod}
use lib.Seq.{map-set_same}
use Rattle.std.specs.List.{AllByRecursion}
use Rattle.std.proofs.lemmas.List.{get_or-map}
use Rattle.std.proofs.lemmas.List.Sums.{sum_by-cons}
use Rattle.std.proofs.lemmas.Bool.{cond_both, cond-true, cond-false, cases_eq, cases_lt, eq-eqb, ne_eqb}
use Rattle.plan.specs.declared.terms.Terms.{Terms}
use Rattle.plan.specs.Terms.{common_multiple, weight_of}
use Rattle.server.specs.declared.row.Event.{Event}
use Rattle.server.specs.declared.row.Event.TheVariants.{Arrival, Finish, Deadline}
use Rattle.server.specs.declared.row.Row.{Row}
use Rattle.server.specs.declared.turn.Payment.{Payment}
use Rattle.server.specs.declared.turn.Source.{Source}
use Rattle.server.specs.declared.turn.Source.TheVariants.{Own, Residual, Stolen, Idle, Empty}
use Rattle.server.specs.Row.{happens, cut_at}
use Rattle.server.specs.Turn.{Choice, blank_row, runner_of, payment_of}
use Rattle.server.specs.Tick.{changed, arrived_at, charged_for, paid, finished_by, due, passed, settled, ticked}
use Rattle.server.specs.Demand.{Kept, Sound}
use Rattle.server.proofs.Passing.{by_phase}
use Rattle.server.proofs.Paying.{is_runner}

-- the source that a row pays from, if it is the payer
abbrev pub source_at : Option Payment → ℕ → Option Source
source_at None k = None
source_at (Some payment) k = cond (eqb payment.payer k) (Some payment.source) None

-- a row after its charge, and after its finish
abbrev pub charged_by : Option Source → ℕ → Row → Row
charged_by None t row = row
charged_by (Some source) t row = charged_for source t row

abbrev pub finished_if : Bool → Bool → ℕ → Row → Row
finished_if finished runs t row = cond (finished && runs) (happens Finish t row) row

abbrev pub settled_row : Option Source → Bool → Bool → ℕ → Row → Row
settled_row source finished runs t row = finished_if finished runs t (charged_by source t row)

-- where one row is changed
pub changed_at : (f : Row → Row) (j k : ℕ) (rows : List Row) → k < length rows → get_or (changed f j rows) k blank_row ≡ cond (eqb j k) (f (get_or rows k blank_row)) (get_or rows k blank_row)
changed_at f j k rows inside =
    let after = f (get_or rows j blank_row) in
    ⊎_elim
    (λ (e : k ≡ j).
    subst (λ (n : ℕ). get_or (changed f n rows) k blank_row ≡ cond (eqb n k) (f (get_or rows k blank_row)) (get_or rows k blank_row)) e
    (get_or-set_same rows k (f (get_or rows k blank_row)) blank_row inside ∙ sym (cond-true (eqb k k) _ _ (eq-eqb k k refl))))
    (λ (ne : k ≡ j → ⊥). get_or-set_other rows j k after blank_row ne ∙ sym (cond-false (eqb j k) _ _ (ne_eqb j k (λ e. ne (sym e)))))
    (cases_eq k j)

pub length_paid : (t : ℕ) (payment : Option Payment) (rows : List Row) → length (paid t payment rows) ≡ length rows
length_paid t None rows = refl
length_paid t (Some payment) rows = length-set rows payment.payer (charged_for payment.source t (get_or rows payment.payer blank_row))

length_finished : (finished : Bool) (t : ℕ) (runner : Option ℕ) (rows : List Row) → length (finished_by finished t runner rows) ≡ length rows
length_finished false t runner rows = refl
length_finished true t None rows = refl
length_finished true t (Some k) rows = length-set rows k (happens Finish t (get_or rows k blank_row))

paid_at : (t : ℕ) (payment : Option Payment) (k : ℕ) (rows : List Row) → k < length rows → get_or (paid t payment rows) k blank_row ≡ charged_by (source_at payment k) t (get_or rows k blank_row)
paid_at t None k rows inside = refl
paid_at t (Some payment) k rows inside = changed_at (charged_for payment.source t) payment.payer k rows inside ∙ same (eqb payment.payer k)
  where
    same : (b : Bool) → cond b (charged_for payment.source t (get_or rows k blank_row)) (get_or rows k blank_row) ≡ charged_by (cond b (Some payment.source) None) t (get_or rows k blank_row)
    same true = refl
    same false = refl

finished_at : (finished : Bool) (t : ℕ) (runner : Option ℕ) (k : ℕ) (rows : List Row) → k < length rows → get_or (finished_by finished t runner rows) k blank_row ≡ finished_if finished (is_runner runner k) t (get_or rows k blank_row)
finished_at false t runner k rows inside = refl
finished_at true t None k rows inside = refl
finished_at true t (Some j) k rows inside = changed_at (happens Finish t) j k rows inside

module _ (choice : Choice) (t : ℕ) (finished : Bool) (rows : List Row) where
  abbrev runner : Option ℕ
  runner = runner_of choice t rows

  abbrev payment : Option Payment
  payment = payment_of choice t rows runner

  -- the row in a place as the charge and the finish leave it, and as the tick leaves it
  pub length_settled : length (settled choice t finished rows) ≡ length rows
  length_settled = length_finished finished t runner (paid t payment rows) ∙ length_paid t payment rows

  pub settled_at : (k : ℕ) → k < length rows → get_or (settled choice t finished rows) k blank_row ≡ settled_row (source_at payment k) finished (is_runner runner k) t (get_or rows k blank_row)
  settled_at k inside =
      finished_at finished t runner k (paid t payment rows) (omega (arith, length_paid t payment rows))
      ∙ ap (finished_if finished (is_runner runner k) t) (paid_at t payment k rows inside)

  pub ticked_at : (k : ℕ) → k < length rows → get_or (ticked choice t finished rows) k blank_row ≡ passed (suc t) (settled_row (source_at payment k) finished (is_runner runner k) t (get_or rows k blank_row))
  ticked_at k inside =
      get_or-map (passed (suc t)) (settled choice t finished rows) k blank_row blank_row (omega (arith, length_settled))
      ∙ ap (passed (suc t)) (settled_at k inside)

-- no change touches the terms
abbrev Same : Row → Row → Type 0
Same row after = after.terms ≡ row.terms

happens_terms : (event : Event) (t : ℕ) (row : Row) → Same row (happens event t row)
happens_terms Arrival t = by_phase (λ row. Same row (happens Arrival t row)) (λ row. cond_both (leb row.account.deadline t) _ _ (λ r. Same row r) (λ _. refl) (λ _. refl)) (λ row. refl) (λ row. refl)
happens_terms Finish t = by_phase (λ row. Same row (happens Finish t row)) (λ row. refl) (λ row. cond_both (leb row.account.jobs 1) _ _ (Same row) (λ _. refl) (λ _. refl)) (λ row. refl)
happens_terms Deadline t = by_phase (λ row. Same row (happens Deadline t row)) (λ row. refl) (λ row. refl) (λ row. cond_both (eqb row.account.jobs 0) _ _ (Same row) (λ _. refl) (λ _. refl))

charged_terms : (source : Source) (t : ℕ) (row : Row) → Same row (charged_for source t row)
charged_terms Own t row = refl
charged_terms Residual t row = refl
charged_terms Stolen t row = cond_both (leb row.account.deadline t) _ _ (Same row) (λ _. refl) (λ _. refl)
charged_terms Idle t row = refl
charged_terms Empty t row = refl

cut_terms : (t : ℕ) (row : Row) → Same row (cut_at t row)
cut_terms t = by_phase (λ row. Same row (cut_at t row)) (λ row. cond_both (leb t row.account.deadline) _ _ (Same row) (λ _. refl) (λ _. refl)) (λ row. refl) (λ row. refl)

passed_terms : (t : ℕ) (row : Row) → Same row (passed t row)
passed_terms t row = cut_terms t (due t row) ∙ cond_both (eqb row.account.deadline t) _ _ (Same row) (λ _. happens_terms Deadline t row) (λ _. refl)

-- the terms of all rows
abbrev pub terms_of : List Row → List Terms
terms_of rows = map (λ (row : Row). row.terms) rows

changed_same : (f : Row → Row) (k : ℕ) (rows : List Row) → ((row : Row) → Same row (f row)) → terms_of (changed f k rows) ≡ terms_of rows
changed_same f k rows same = map-set_same (λ (row : Row). row.terms) rows k (f (get_or rows k blank_row)) blank_row (same (get_or rows k blank_row))

mapped_same : (f : Row → Row) (rows : List Row) → ((row : Row) → Same row (f row)) → terms_of (map f rows) ≡ terms_of rows
mapped_same f [] same = refl
mapped_same f (row ∷ rows) same = ap (λ (z : Terms). z ∷ terms_of (map f rows)) (same row) ∙ ap (λ (zs : List Terms). row.terms ∷ zs) (mapped_same f rows same)

paid_same : (t : ℕ) (payment : Option Payment) (rows : List Row) → terms_of (paid t payment rows) ≡ terms_of rows
paid_same t None rows = refl
paid_same t (Some payment) rows = changed_same (charged_for payment.source t) payment.payer rows (charged_terms payment.source t)

finished_same : (finished : Bool) (t : ℕ) (runner : Option ℕ) (rows : List Row) → terms_of (finished_by finished t runner rows) ≡ terms_of rows
finished_same false t _ rows = refl
finished_same true t None rows = refl
finished_same true t (Some k) rows = changed_same (happens Finish t) k rows (happens_terms Finish t)

pub arrival_same : (t k : ℕ) (rows : List Row) → terms_of (arrived_at t k rows) ≡ terms_of rows
arrival_same t k rows = changed_same (happens Arrival t) k rows (happens_terms Arrival t)

pub tick_same : (choice : Choice) (t : ℕ) (finished : Bool) (rows : List Row) → terms_of (ticked choice t finished rows) ≡ terms_of rows
tick_same choice t finished rows =
    mapped_same (passed (suc t)) (settled choice t finished rows) (passed_terms (suc t))
    ∙ finished_same finished t (runner choice t finished rows) (paid t (payment choice t finished rows) rows)
    ∙ paid_same t (payment choice t finished rows) rows

-- each row weighs something, so that a table has few rows
weighs : (H q p : ℕ) → 1 ≤ H → 1 ≤ q → H % p ≡ 0 → 1 ≤ q * (H / p)
weighs H q p some budget divides =
    ⊎_elim
    (λ (h : 0 < H / p). omega (arith, mul-le-mul_right {m = 1} {n = q} (H / p) budget, one-mul (H / p)))
    (λ (h : H / p ≤ 0). absurd (none (H / p) (omega arith) (div-add-mod H p)))
    (cases_lt 0 (H / p))
  where
    none : (m : ℕ) → m ≡ 0 → p * m + H % p ≡ H → ⊥
    none m e whole = omega (arith, ap (λ (n : ℕ). p * n) e, mul-zero p)

weighed : (t : ℕ) (rows : List Row) → AllByRecursion (Kept t) rows → length rows ≤ sum_by (λ (row : Row). weight_of row.terms) rows
weighed t [] _ = omega arith
weighed t (row ∷ rows) (kept, others) =
    rw (sum_by-cons (λ (row : Row). weight_of row.terms) row rows)
    (omega (arith, weighs common_multiple row.terms.budget row.terms.period (omega arith) kept.fit.0 kept.fit.2, weighed t rows others))

pub few_rows : (t : ℕ) (rows : List Row) → Sound t rows → length rows ≤ common_multiple
few_rows t rows sound = omega (arith, weighed t rows sound.kept, sound.light)
