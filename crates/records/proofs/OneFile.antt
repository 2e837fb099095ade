-- A file that is accepted is the packed form of the plan that it gave: its count and each of its rows can
-- be read in one way only.
use Rattle.std.proofs.Common.{◌≡◌, ℕ, zero, suc, ◌+◌, ◌*◌, ◌<◌, ◌≤◌, List, [], ◌∷◌, ◌++◌, length, get_or, drop, Ok, Err, Result, sym, refl, ap, ◌∙◌, append_assoc, arith}
use Rattle.std.specs.List.{flat_map}
use Rattle.std.proofs.lemmas.List.{drop_all, append-nil, drop_more}
use Rattle.std.proofs.lemmas.Bool.Decides.{nat_tests}
use Rattle.bits.specs.Fields.{field_at}
use Rattle.bits.proofs.Fields.{byte_field}
use Rattle.plan.specs.declared.terms.Terms.{Terms}
use Rattle.faults.specs.declared.placed.Placed.{Placed}
use Rattle.records.specs.Packed.{packed_row, packed_plan}
use Rattle.records.specs.PlanFile.{terms_at, row_taken, onward, rows_from, in_file, count_read, plan_read}
use Rattle.records.proofs.Rows.{row_bytes}

-- a row that was taken was there whole, with its zero bits zero, and stands behind the others
module _ (b : List ℕ) (k : ℕ) (rows more : List Terms) (taken : row_taken b k rows ≡ Ok more) where
  room : k + 4 ≤ length b
  room = grind (arith, nat_tests)

  zeros : field_at b (8 * k + 1) 3 ≡ 0
  zeros = grind (arith, nat_tests)

  grown : more ≡ rows ++ (terms_at b k ∷ [])
  grown = grind (arith, nat_tests)

-- what was read before something went on
went_on : {X Y F : Type 0} (r : Result X F) (k : ℕ) (more : X → Result Y (Placed F)) (y : Y) → onward r k more ≡ Ok y → (x : X) × (r ≡ Ok x) × (more x ≡ Ok y)
went_on (Ok x) k more y e = (x, refl, e)
went_on (Err f) k more y e = let z : ◌≡◌ {A = ℕ} 0 1 = cc in absurd (omega arith)

-- the file ends behind the last row
module _ (b : List ℕ) (k : ℕ) (before rows : List Terms) (read : rows_from b k 0 before ≡ Ok rows) where
  no_more : rows ≡ before
  no_more = grind (arith, nat_tests)

  past : length b ≤ k
  past = grind (arith, nat_tests)

-- the rows that were read behind others, and the bytes that they were read from
pub record RowsIn (b : List ℕ) (k n : ℕ) (before rows : List Terms) : Type 0 where
  pub more : List Terms
  pub whole : rows ≡ before ++ more
  pub count : length more ≡ n
  pub bytes : drop k b ≡ flat_map packed_row more

module _ (b : List ℕ) (small : (i : ℕ) → get_or b i 0 < 256) where
  rows_in : (n k : ℕ) (before rows : List Terms) → rows_from b k n before ≡ Ok rows → RowsIn b k n before rows
  rows_in zero k before rows e = record {
    more = [];
    whole = no_more b k before rows e ∙ sym (append-nil before);
    count = refl;
    bytes = drop_all k b (past b k before rows e);
  }
  rows_in (suc n) k before rows e =
      let row = went_on (row_taken b k before) k (λ m. rows_from b (k + 4) n m) rows e in
      let rest = rows_in n (k + 4) row.0 rows row.2 in
      let t = terms_at b k in
      record {
        more = t ∷ rest.more;
        whole = rest.whole ∙ ap (λ (s : List Terms). s ++ rest.more) (grown b k before row.0 row.1) ∙ append_assoc before (t ∷ []) rest.more;
        count = ap suc rest.count;
        bytes = row_bytes b k small (zeros b k before row.0 row.1) (room b k before row.0 row.1) ∙ ap (λ (s : List ℕ). packed_row t ++ s) rest.bytes;
      }

  pub one_file : (rows : List Terms) → plan_read b ≡ Ok rows → b ≡ packed_plan rows
  one_file rows e =
      let count = went_on (in_file (count_read b)) 0 (λ n. rows_from b 1 n []) rows e in
      let all = rows_in count.0 1 [] rows count.2 in
      let h : 0 < length b = some count.0 count.1 in
      let first : get_or b 0 0 ≡ length rows = sym (byte_field b 0 (small 0)) ∙ sym (is count.0 count.1) ∙ sym all.count ∙ sym (ap length all.whole) in
      let rest : drop 1 b ≡ flat_map packed_row rows = all.bytes ∙ sym (ap (flat_map packed_row) all.whole) in
      drop_more b 0 0 h ∙ ap (λ (n : ℕ). n ∷ drop 1 b) first ∙ ap (λ (s : List ℕ). length rows ∷ s) rest
    where
      some : (n : ℕ) → in_file (count_read b) ≡ Ok n → 0 < length b
      some n e = grind (arith, nat_tests)

      is : (n : ℕ) → in_file (count_read b) ≡ Ok n → n ≡ field_at b 0 8
      is n e = grind (arith, nat_tests)
