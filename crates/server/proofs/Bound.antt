-- The demand bound is kept by an arrival and by a tick.
use Rattle.std.proofs.Common.{◌≡◌, ℕ, suc, ◌+◌, ◌-◌, ◌*◌, ◌/◌, ◌%◌, ◌<◌, ◌≤◌, Bool, true, false, ◌⊎◌, List, [], ◌∷◌, map, length, get_or, set, Some, None, sum_by, Option, sym, refl, ap, ◌∙◌, subst, inl, inr, ⊎_elim, le_trans, mul-le-mul_right, mul_assoc, add-mul, mul-le-mul_left, mul-zero, mul-add, mul_left_comm, arith, length-set, get_or-set_other, get_or-set_same}
use native.Mathlib.Nat.{le_of_mul-le-mul_left, div-add-mod}
use Rattle.std.specs.List.{AllByRecursion}
use Rattle.std.proofs.lemmas.Bool.Decides.{nat_tests}
use Rattle.std.proofs.lemmas.List.{set_past, length-map, get_or-map}
use Rattle.std.proofs.lemmas.List.Sums.{sum_by-cons, sum_by-set, get_or-le-sum_by}
use Rattle.std.proofs.ByRecursion.{All-get_or, All-from_get_or, All-set, All-map, All-weaker}
use Rattle.std.proofs.lemmas.Bool.{cases_lt, cases_eq}
use Rattle.plan.specs.Terms.{common_multiple, weight_of}
use Rattle.server.specs.declared.row.Event.TheVariants.{Arrival, Finish}
use Rattle.server.specs.declared.row.Row.{Row}
use Rattle.server.specs.declared.turn.Payment.{Payment}
use Rattle.server.specs.Row.{happens}
use Rattle.server.specs.Turn.{Choice, blank_row, runner_of, payment_of}
use Rattle.server.specs.Tick.{charged_for, paid, finished_by, passed, settled}
use Rattle.server.specs.Demand.{demand, Kept, Sound, Inside, SpentIn, ArrivalKeepsTheBound, TickKeepsTheBound, NothingIsLeftAtADeadline}
use Rattle.server.proofs.Asks.{asks_later}
use Rattle.server.proofs.Passing.{Quiet, by_phase, Passed, passes}
use Rattle.server.proofs.Steps.{arrives, finishes}
use Rattle.server.proofs.Paying.{Fair, fair}

-- a row's share of its period, scaled to the common multiple
scaled : (H q p x n : ℕ) → H % p ≡ 0 → p * x ≤ q * n → H * x ≤ q * (H / p) * n
scaled H q p x n divides share =
    let m = H / p in
    let whole : p * m ≡ H = omega (arith, div-add-mod H p) in
    omega (arith, ap (λ (h : ℕ). h * x) whole, mul_assoc p m x, mul_left_comm p m x, mul-le-mul_left m share, mul_assoc q m n, mul_left_comm q m n)

-- shares add up
add_up : (H n : ℕ) (f w : Row → ℕ) (rows : List Row) → AllByRecursion (λ row. H * f row ≤ w row * n) rows → H * sum_by f rows ≤ sum_by w rows * n
add_up H n f w [] _ = omega (arith, mul-zero H)
add_up H n f w (row ∷ rows) (one, others) =
    rw (sum_by-cons f row rows, sum_by-cons w row rows)
    (omega (arith, mul-add H (f row) (sum_by f rows), add-mul (w row) (sum_by w rows) n, add_up H n f w rows others))

-- rows that ask for no more than their shares of n ticks ask for no more than n
pub shares_fit : (n : ℕ) (f : Row → ℕ) (rows : List Row) → sum_by (λ (row : Row). weight_of row.terms) rows ≤ common_multiple → AllByRecursion (λ row. (common_multiple % row.terms.period ≡ 0) × (row.terms.period * f row ≤ row.terms.budget * n)) rows → sum_by f rows ≤ n
shares_fit n f rows light shares =
    let all = add_up common_multiple n f (λ (row : Row). weight_of row.terms) rows (All-weaker _ _ (λ row share. scaled common_multiple row.terms.budget row.terms.period (f row) n share.0 share.1) rows shares) in
    le_of_mul-le-mul_left {m = sum_by f rows} {n = n} {k = common_multiple} (le_trans all (mul-le-mul_right n light)) (omega arith)

-- sums over rows that are changed
sum_map_le : (f g : Row → ℕ) (h : Row → Row) (rows : List Row) → AllByRecursion (λ row. f (h row) ≤ g row) rows → sum_by f (map h rows) ≤ sum_by g rows
sum_map_le f g h [] _ = omega arith
sum_map_le f g h (row ∷ rows) (one, others) = rw (sum_by-cons f (h row) (map h rows), sum_by-cons g row rows) (omega (arith, sum_map_le f g h rows others))

sum_map_same : (f g : Row → ℕ) (h : Row → Row) (rows : List Row) → AllByRecursion (λ row. f (h row) ≡ g row) rows → sum_by f (map h rows) ≡ sum_by g rows
sum_map_same f g h [] _ = refl
sum_map_same f g h (row ∷ rows) (one, others) = rw (sum_by-cons f (h row) (map h rows), sum_by-cons g row rows) (omega (arith, one, sum_map_same f g h rows others))

-- what a table keeps beside the bound
record Stands (t : ℕ) (rows : List Row) : Type 0 where
  placed : (k : ℕ) → k < length rows → (get_or rows k blank_row).number ≡ k
  kept : AllByRecursion (Kept t) rows
  light : sum_by (λ (row : Row). weight_of row.terms) rows ≤ common_multiple

-- one row is changed, in its place and under its terms
stands_set : (t k : ℕ) (rows : List Row) (after : Row) → k < length rows → after.number ≡ (get_or rows k blank_row).number → after.terms ≡ (get_or rows k blank_row).terms → Kept t after → Stands t rows → Stands t (set rows k after)
stands_set t k rows after inside number terms kept stands =
    record {
      placed = λ j h. ⊎_elim
          (λ (e : j ≡ k). ap (λ (n : ℕ). (get_or (set rows k after) n blank_row).number) e ∙ ap (λ (row : Row). row.number) (get_or-set_same rows k after blank_row inside) ∙ number ∙ stands.placed k inside ∙ sym e)
          (λ (ne : j ≡ k → ⊥). ap (λ (row : Row). row.number) (get_or-set_other rows k j after blank_row ne) ∙ stands.placed j (omega (arith, length-set rows k after)))
          (cases_eq j k);
      kept = All-set (Kept t) rows k after kept stands.kept;
      light = omega (arith, sum_by-set (λ (row : Row). weight_of row.terms) rows k after blank_row inside, ap weight_of terms, stands.light);
    }

-- an arrival
pub arrival_keeps : ArrivalKeepsTheBound
arrival_keeps t k rows sound =
    ⊎_elim
    (λ (inside : k < length rows).
    let row = get_or rows k blank_row in
    let after = happens Arrival t row in
    let eased = arrives t row (All-get_or (Kept t) rows k blank_row inside sound.kept) in
    let stands = stands_set t k rows after inside eased.number eased.terms eased.kept (record { placed = sound.placed; kept = sound.kept; light = sound.light }) in
    record {
      placed = stands.placed;
      kept = stands.kept;
      light = stands.light;
      bound = λ X h. omega (arith, sum_by-set (demand t X) rows k after blank_row inside, eased.less X h, sound.bound X h);
    })
    (λ (past : length rows ≤ k). subst (Sound t) (sym (set_past rows k (happens Arrival t (get_or rows k blank_row)) past)) sound)
    (cases_lt k (length rows))

-- a table on its way through a tick: for each horizon a tick was charged up to it, or all is quiet up to it
record Midway (t : ℕ) (rows : List Row) : Type 0 where
  stands : Stands t rows
  either : (X : ℕ) → suc t ≤ X → (sum_by (demand t X) rows + 1 ≤ X - t) ⊎ AllByRecursion (Quiet X) rows

after_payment : (t : ℕ) (rows : List Row) (runner : Option ℕ) (payment : Option Payment) → Sound t rows → Fair t rows runner payment → Midway t (paid t payment rows)
after_payment t rows runner None sound calm = record { stands = record { placed = sound.placed; kept = sound.kept; light = sound.light }; either = λ X h. inr (calm X) }
after_payment t rows runner (Some payment) sound fair =
    let k = payment.payer in
    let after = charged_for payment.source t (get_or rows k blank_row) in
    let pays = fair.pays in
    record {
      stands = stands_set t k rows after fair.inside pays.number pays.terms pays.kept (record { placed = sound.placed; kept = sound.kept; light = sound.light });
      either = λ X h. ⊎_elim
          (λ (before : X < fair.e). inr (All-set (Quiet X) rows k after (pays.quiet X before) (fair.calm X before)))
          (λ (due : fair.e ≤ X). inl (omega (arith, sum_by-set (demand t X) rows k after blank_row fair.inside, pays.falls X (omega arith) due, sound.bound X (omega arith))))
          (cases_lt X fair.e);
    }

after_finish : (t : ℕ) (rows : List Row) (finished : Bool) (runner : Option ℕ) → Midway t rows → Midway t (finished_by finished t runner rows)
after_finish t rows false runner midway = midway
after_finish t rows true None midway = midway
after_finish t rows true (Some k) midway =
    ⊎_elim
    (λ (inside : k < length rows).
    let row = get_or rows k blank_row in
    let after = happens Finish t row in
    let ended = finishes t row (All-get_or (Kept t) rows k blank_row inside midway.stands.kept) in
    let eased = ended.0 in
    record {
      stands = stands_set t k rows after inside eased.number eased.terms eased.kept midway.stands;
      either = λ X h. ⊎_elim
          (λ (charged : sum_by (demand t X) rows + 1 ≤ X - t). inl (omega (arith, sum_by-set (demand t X) rows k after blank_row inside, eased.less X (omega arith))))
          (λ (quiet : AllByRecursion (Quiet X) rows). inr (All-set (Quiet X) rows k after (ended.1 X (All-get_or (Quiet X) rows k blank_row inside quiet)) quiet))
          (midway.either X h);
    })
    (λ (past : length rows ≤ k). subst (Midway t) (sym (set_past rows k (happens Finish t (get_or rows k blank_row)) past)) midway)
    (cases_lt k (length rows))

settles : (choice : Choice) (t : ℕ) (finished : Bool) (rows : List Row) → Inside choice → Sound t rows → Midway t (settled choice t finished rows)
settles choice t finished rows inside sound =
    after_finish t (paid t (payment_of choice t rows (runner_of choice t rows)) rows) finished (runner_of choice t rows)
    (after_payment t rows (runner_of choice t rows) (payment_of choice t rows (runner_of choice t rows)) sound (fair choice t rows inside sound))

-- the clock moves
after_passing : (t : ℕ) (rows : List Row) → Midway t rows → Sound (suc t) (map (passed (suc t)) rows)
after_passing t rows midway =
    let each = All-weaker (Kept t) (λ row. Passed t row (passed (suc t) row)) (passes t) rows midway.stands.kept in
    let weights = sum_map_same (λ (row : Row). weight_of row.terms) (λ (row : Row). weight_of row.terms) (passed (suc t)) rows (All-weaker _ _ (λ row is. ap weight_of is.terms) rows each) in
    record {
      placed = λ k h. let inside : k < length rows = omega (arith, length-map rows (passed (suc t))) in
          ap (λ (row : Row). row.number) (get_or-map (passed (suc t)) rows k blank_row blank_row inside) ∙ (All-get_or _ rows k blank_row inside each).number ∙ midway.stands.placed k inside;
      kept = All-map (Kept (suc t)) (passed (suc t)) rows (All-weaker _ _ (λ row is. is.kept) rows each);
      light = omega (arith, weights, midway.stands.light);
      bound = λ X h. ⊎_elim
          (λ (charged : sum_by (demand t X) rows + 1 ≤ X - t). omega (arith, sum_map_le (demand (suc t) X) (demand t X) (passed (suc t)) rows (All-weaker (Kept t) _ (falling X h) rows midway.stands.kept)))
          (λ (quiet : AllByRecursion (Quiet X) rows). rw (sum_map_same (demand (suc t) X) (λ (row : Row). demand (suc t) X (passed (suc t) row)) (passed (suc t)) rows (All-from_get_or _ rows blank_row (λ i g. refl)))
          (shares_fit (X - suc t) (λ (row : Row). demand (suc t) X (passed (suc t) row)) rows midway.stands.light
          (All-from_get_or _ rows blank_row (λ i g. sharing X h (get_or rows i blank_row) (All-get_or (Kept t) rows i blank_row g midway.stands.kept) (All-get_or (Quiet X) rows i blank_row g quiet)))))
          (midway.either X h);
    }
  where
    falling : (X : ℕ) → suc t ≤ X → (row : Row) → Kept t row → demand (suc t) X (passed (suc t) row) ≤ demand t X row
    falling X h row kept = le_trans ((passes t row kept).less X h) (asks_later row.terms.budget row.terms.period (row.account.capacity + row.account.residual) row.account.deadline t X (omega arith) h)

    sharing : (X : ℕ) → suc t ≤ X → (row : Row) → Kept t row → Quiet X row → (common_multiple % row.terms.period ≡ 0) × (row.terms.period * demand (suc t) X (passed (suc t) row) ≤ row.terms.budget * (X - suc t))
    sharing X h row kept quiet = (kept.fit.2, (passes t row kept).share X h quiet)

pub tick_keeps : TickKeepsTheBound
tick_keeps choice t finished rows inside sound = after_passing t (settled choice t finished rows) (settles choice t finished rows inside sound)

-- at a deadline nothing is left
spent : (t : ℕ) (row : Row) → demand t (suc t) row ≤ 0 → SpentIn row.phase (suc t) row
spent t = by_phase (λ row. demand t (suc t) row ≤ 0 → SpentIn row.phase (suc t) row) (λ row _. tt) (λ row. asked row) (λ row. asked row)
  where
    asked : (row : Row) → demand t (suc t) row ≤ 0 → row.account.deadline ≡ suc t → (row.account.capacity ≡ 0) × (row.account.residual ≡ 0)
    asked row none here = (grind (arith, nat_tests), grind (arith, nat_tests))

quiet_spent : (t : ℕ) (row : Row) → Quiet (suc t) row → SpentIn row.phase (suc t) row
quiet_spent t = by_phase (λ row. Quiet (suc t) row → SpentIn row.phase (suc t) row) (λ row _. tt) (λ row. still row) (λ row. still row)
  where
    still : (row : Row) → (row.account.deadline ≤ suc t → row.account.capacity + row.account.residual ≡ 0) → row.account.deadline ≡ suc t → (row.account.capacity ≡ 0) × (row.account.residual ≡ 0)
    still row quiet here = let none = quiet (omega arith) in (omega arith, omega arith)

pub nothing_left : NothingIsLeftAtADeadline
nothing_left choice t finished rows inside sound =
    let after = settled choice t finished rows in
    ⊎_elim
    (λ (charged : sum_by (demand t (suc t)) after + 1 ≤ suc t - t).
    All-from_get_or _ after blank_row (λ i h. spent t (get_or after i blank_row) (omega (arith, get_or-le-sum_by (demand t (suc t)) after i blank_row h))))
    (λ (quiet : AllByRecursion (Quiet (suc t)) after). All-weaker (Quiet (suc t)) _ (quiet_spent t) after quiet)
    ((settles choice t finished rows inside sound).either (suc t) (omega arith))
