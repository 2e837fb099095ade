-- The packed form of a plan reads back as that plan, row by row.
use Rattle.std.proofs.Common.{◌≡◌, ℕ, ◌+◌, ◌*◌, ◌/◌, ◌%◌, ◌^◌, ◌<◌, ◌≤◌, true, false, eqb, ltb, List, [], ◌∷◌, ◌++◌, length, get_or, None, Ok, sym, refl, ap, ◌∙◌, append_assoc, arith, length-append}
use Rattle.std.specs.List.{flat_map, AllByRecursion}
use Rattle.std.proofs.lemmas.List.{get_or-append-add, append-nil, length_push, length-take}
use Rattle.std.proofs.lemmas.List.Sums.{sum_by-cons, sum_by_push}
use Rattle.std.proofs.lemmas.Bool.{le-leb, eq-eqb, le-ltb}
use Rattle.bits.specs.Fields.{field_at, has_field}
use Rattle.bits.proofs.Fields.{byte_field}
use Rattle.plan.specs.declared.table.Plan.{Plan}
use Rattle.plan.specs.declared.terms.Terms.{Terms}
use Rattle.plan.specs.Terms.{common_multiple, most_rows, weight_of}
use Rattle.plan.specs.Plan.{rows_of, load_of, refusal}
use Rattle.plan.proofs.Adding.{Sound, takes_sound, period_le, rows_sound}
use Rattle.records.specs.Packed.{kind_bit, kind_of, row_word, packed_row, packed_plan}
use Rattle.records.specs.PlanFile.{row_read, row_given, row_taken, onward, rows_from, in_file, count_read, plan_read}
use Rattle.records.proofs.Rows.{field, field_below, word_of_bytes, field_of_bytes, field_of_row, kind_kept, kind_below}

-- four fields in their bounds are told by the number that they make
same_fields : (k z q t kind budget period : ℕ) → ((k * 2 ^ 3 + z) * 2 ^ 14 + q) * 2 ^ 14 + t ≡ ((kind * 2 ^ 3 + 0) * 2 ^ 14 + budget) * 2 ^ 14 + period → z < 2 ^ 3 → q < 2 ^ 14 → t < 2 ^ 14 → budget < 2 ^ 14 → period < 2 ^ 14 → (k ≡ kind) × (z ≡ 0) × (q ≡ budget) × (t ≡ period)
same_fields k z q t kind budget period e hz hq ht hb hp = (omega arith, omega arith, omega arith, omega arith)

same_terms : (t : Terms) (k q p : ℕ) → k ≡ kind_bit t.kind → q ≡ t.budget → p ≡ t.period → ◌≡◌ {A = Terms} (record { kind = kind_of k; budget = q; period = p }) t
same_terms t k q p kinds budgets periods = rw (kinds, budgets, periods, kind_kept)

row_small : (t : Terms) → Sound t → row_word t < 2 ^ 32
row_small t sound = omega (arith, kind_below t.kind, period_le t sound, sound.1)

-- a row in its packed form, with any bytes before and behind it
module _ (front : List ℕ) (t : Terms) (back : List ℕ) (sound : Sound t) where
  file : List ℕ
  file = front ++ (packed_row t ++ back)

  at : (i j : ℕ) → length front + i ≡ j → get_or file j 0 ≡ get_or (packed_row t ++ back) i 0
  unfolding file
  at i j e = ap (λ (m : ℕ). get_or (front ++ (packed_row t ++ back)) m 0) (sym e) ∙ get_or-append-add front (packed_row t ++ back) i 0

  number : field file (8 * length front) 32 ≡ row_word t
  number =
      let k = length front in
      let n = row_word t in
      let w : get_or file k 0 ≡ n / 256 / 256 / 256 % 256 = at 0 k (omega arith) in
      let x : get_or file (k + 1) 0 ≡ n / 256 / 256 % 256 = at 1 (k + 1) refl in
      let y : get_or file (k + 2) 0 ≡ n / 256 % 256 = at 2 (k + 2) refl in
      let z : get_or file (k + 3) 0 ≡ n % 256 = at 3 (k + 3) refl in
      field_of_bytes file k (rw w (omega arith)) (rw x (omega arith)) (rw y (omega arith)) (rw z (omega arith))
      ∙ rw (w, x, y, z) (word_of_bytes n (row_small t sound))

  fields : (field file (8 * length front) 1 ≡ kind_bit t.kind) × (field file (8 * length front + 1) 3 ≡ 0) × (field file (8 * length front + 4) 14 ≡ t.budget) × (field file (8 * length front + 18) 14 ≡ t.period)
  fields =
      same_fields _ _ _ _ (kind_bit t.kind) t.budget t.period
      (sym (field_of_row file (length front)) ∙ number)
      (field_below file (8 * length front + 1) 3)
      (field_below file (8 * length front + 4) 14)
      (field_below file (8 * length front + 18) 14)
      (omega (arith, period_le t sound, sound.1))
      (omega (arith, period_le t sound))

  pub reads_row : row_read (front ++ (packed_row t ++ back)) (length front) ≡ Ok t
  unfolding file field
  reads_row =
      let k = length front in
      let whole : has_field file (8 * k) 32 ≡ true = le-leb (8 * k + 32) (8 * length file) (omega (arith, length-append front (packed_row t ++ back))) in
      let clear : eqb (field_at file (8 * k + 1) 3) 0 ≡ true = eq-eqb (field_at file (8 * k + 1) 3) 0 fields.1 in
      let terms = same_terms t (field_at file (8 * k) 1) (field_at file (8 * k + 4) 14) (field_at file (8 * k + 18) 14) fields.0 fields.2 fields.3 in
      rw (whole, clear) (ap Ok terms)

-- rows that a plan could have behind others
pub record Fit (before more : List Terms) : Type 0 where
  pub few : length before + length more ≤ most_rows
  pub light : load_of before + load_of more ≤ common_multiple
  pub sound : AllByRecursion Sound more

takes_row : (front back : List ℕ) (t : Terms) (before more : List Terms) → Fit before (t ∷ more) → row_taken (front ++ (packed_row t ++ back)) (length front) before ≡ Ok (before ++ (t ∷ []))
takes_row front back t before more fit =
    let none : refusal before t ≡ None = takes_sound before t (omega (arith, fit.few)) fit.sound.0 (omega (arith, fit.light, sum_by-cons weight_of t more)) in
    ap (λ r. row_given r before) (reads_row front t back fit.sound.0) ∙ rw none

fits_rest : (t : Terms) (before more : List Terms) → Fit before (t ∷ more) → Fit (before ++ (t ∷ [])) more
fits_rest t before more fit = record {
  few = omega (arith, fit.few, length_push before t);
  light = omega (arith, fit.light, sum_by-cons weight_of t more, sum_by_push weight_of before t);
  sound = fit.sound.1;
}

reads_rows : (front : List ℕ) (before more : List Terms) → Fit before more → rows_from (front ++ flat_map packed_row more) (length front) (length more) before ≡ Ok (before ++ more)
reads_rows front before [] fit =
    let end : ltb (length front) (length (front ++ [])) ≡ false = le-ltb (length front) (length (front ++ [])) (omega (arith, length-append front [])) in
    rw end (ap Ok (sym (append-nil before)))
reads_rows front before (t ∷ more) fit =
    let back = flat_map packed_row more in
    let front' = front ++ packed_row t in
    let taken = takes_row front back t before more fit in
    let rest = reads_rows front' (before ++ (t ∷ [])) more (fits_rest t before more fit) in
    let same : front ++ (packed_row t ++ back) ≡ front' ++ back = sym (append_assoc front (packed_row t) back) in
    let next : length front + 4 ≡ length front' = sym (length-append front (packed_row t)) in
    ap (λ r. onward r (length front) (λ m. rows_from (front ++ (packed_row t ++ back)) (length front + 4) (length more) m)) taken
    ∙ ap (λ (s : List ℕ). rows_from s (length front + 4) (length more) (before ++ (t ∷ []))) same
    ∙ ap (λ (k : ℕ). rows_from (front' ++ back) k (length more) (before ++ (t ∷ []))) next
    ∙ rest
    ∙ ap Ok (append_assoc before (t ∷ []) more)

pub round_trip : (rows : List Terms) → Fit [] rows → plan_read (packed_plan rows) ≡ Ok rows
round_trip rows fit =
    let b = packed_plan rows in
    let some : has_field b 0 8 ≡ true = le-leb 8 (8 * length b) (omega arith) in
    let first : field_at b 0 8 ≡ length rows = byte_field b 0 (omega (arith, fit.few)) in
    let count : count_read b ≡ Ok (length rows) = rw some (ap Ok first) in
    ap (λ r. onward (in_file r) 0 (λ n. rows_from b 1 n [])) count ∙ reads_rows (length rows ∷ []) [] rows fit

-- and every plan has such rows
pub plan_fits : (p : Plan) → Fit [] (rows_of p)
plan_fits p = record {
  few = omega (arith, length-take p.count p.rows, p.room);
  light = omega (arith, p.light, p.loads);
  sound = rows_sound p;
}
