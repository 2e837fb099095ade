-- Four fields put into four bytes make the packed row, and every other byte stays.
use Rattle.std.proofs.Common.{◌≡◌, ℕ, ◌+◌, ◌*◌, ◌^◌, ◌<◌, ◌≤◌, ◌⊎◌, List, [], ◌∷◌, ◌++◌, length, get_or, take, drop, sym, ap, ◌∙◌, inl, inr, mod-eq_of_lt, arith}
use Rattle.std.proofs.lemmas.List.{ext_get_or, get_or-take, get_or-drop, length-take, length-drop, take-append-drop, drop_more}
use Rattle.bits.specs.Fields.{field_at, put_field}
use Rattle.bits.proofs.Written.{length_put_field, put_field_made, put_field_kept, put_field_byte, field_same}
use Rattle.plan.specs.declared.terms.Terms.{Terms}
use Rattle.records.specs.Packed.{kind_bit, row_word, bytes_of, packed_row}
use Rattle.records.proofs.Rows.{field, byte_at, field_of_bytes, field_of_row, bytes_of_word, four_dropped, kind_below}

-- a field of n bits was put in from bit p on: it reads back, and what lies outside it stays
pub record Put (b c : List ℕ) (p n v : ℕ) : Type 0 where
  pub long : length c ≡ length b
  pub made : p + n ≤ 8 * length b → v < 2 ^ n → field c p n ≡ v
  pub left : (q m : ℕ) → p + n ≤ 8 * length b → (q + m ≤ p) ⊎ (p + n ≤ q) → field c q m ≡ field b q m
  pub byte : (j : ℕ) → (8 * j + 8 ≤ p) ⊎ (p + n ≤ 8 * j) → get_or c j 0 ≡ get_or b j 0

pub field_put : (b c : List ℕ) (p q n v w : ℕ) → c ≡ put_field b p n v → p ≡ q → v ≡ w → Put b c q n w
unfolding field
field_put b c p q n v w e place value =
    let is : c ≡ put_field b q n w = e ∙ ap (λ (m : ℕ). put_field b m n v) place ∙ ap (put_field b q n) value in
    record {
      long = ap length is ∙ length_put_field b q n w;
      made = λ room small. ap (λ (s : List ℕ). field_at s q n) is ∙ put_field_made b q n w room ∙ mod-eq_of_lt small;
      left = λ r m room out. ap (λ (s : List ℕ). field_at s r m) is ∙ field_same (put_field b q n w) b r m (λ i low high. put_field_kept b q n w i room (outside r m i out low high));
      byte = λ j out. ap (λ (s : List ℕ). get_or s j 0) is ∙ put_field_byte b q n w j out;
    }
  where
    outside : (r m i : ℕ) → (r + m ≤ q) ⊎ (q + n ≤ r) → r ≤ i → i < r + m → (i < q) ⊎ (q + n ≤ i)
    outside r m i out low high = grind arith

-- lists with the same bytes up to byte k, and from it on
same_front : (b c : List ℕ) (k : ℕ) → length c ≡ length b → ((j : ℕ) → j < k → get_or c j 0 ≡ get_or b j 0) → take k c ≡ take k b
same_front b c k e same =
    ext_get_or 0 (take k c) (take k b) (omega (arith, length-take k c, length-take k b, e))
    (λ j h. let inside : j < k = omega (arith, length-take k c) in get_or-take k c j 0 inside ∙ same j inside ∙ sym (get_or-take k b j 0 inside))

same_back : (b c : List ℕ) (k : ℕ) → length c ≡ length b → ((j : ℕ) → k ≤ j → get_or c j 0 ≡ get_or b j 0) → drop k c ≡ drop k b
same_back b c k e same =
    ext_get_or 0 (drop k c) (drop k b) (omega (arith, length-drop k c, length-drop k b, e))
    (λ j h. get_or-drop k c j 0 ∙ same (k + j) (omega arith) ∙ sym (get_or-drop k b j 0))

-- the four fields of a row, one after the other
module _ (b b₁ b₂ b₃ b₄ : List ℕ) (k : ℕ) (t : Terms) (room : k + 4 ≤ length b) (budgets : t.budget < 2 ^ 14) (periods : t.period < 2 ^ 14) (one : Put b b₁ (8 * k) 1 (kind_bit t.kind)) (two : Put b₁ b₂ (8 * k + 1) 3 0) (three : Put b₂ b₃ (8 * k + 4) 14 t.budget) (four : Put b₃ b₄ (8 * k + 18) 14 t.period) (small : (i : ℕ) → get_or b₄ i 0 < 256) where
  long : length b₄ ≡ length b
  long = four.long ∙ three.long ∙ two.long ∙ one.long

  -- the later fields leave the earlier ones
  after₂ : (q m : ℕ) → q + m ≤ 8 * k + 4 → field b₄ q m ≡ field b₂ q m
  after₂ q m h = four.left q m (omega arith) (inl (omega arith)) ∙ three.left q m (omega arith) (inl h)

  number : field b₄ (8 * k) 32 ≡ row_word t
  number =
      let kinds : field b₄ (8 * k) 1 ≡ kind_bit t.kind = after₂ (8 * k) 1 (omega arith) ∙ two.left (8 * k) 1 (omega arith) (inl (omega arith)) ∙ one.made (omega arith) (kind_below t.kind) in
      let zeros : field b₄ (8 * k + 1) 3 ≡ 0 = after₂ (8 * k + 1) 3 (omega arith) ∙ two.made (omega arith) (omega arith) in
      let middle : field b₄ (8 * k + 4) 14 ≡ t.budget = four.left (8 * k + 4) 14 (omega arith) (inl (omega arith)) ∙ three.made (omega arith) budgets in
      let last : field b₄ (8 * k + 18) 14 ≡ t.period = four.made (omega arith) periods in
      field_of_row b₄ k ∙ rw (kinds, zeros, middle, last)

  outside : (j : ℕ) → (j < k) ⊎ (k + 4 ≤ j) → get_or b₄ j 0 ≡ get_or b j 0
  outside j out = four.byte j (grind arith) ∙ three.byte j (grind arith) ∙ two.byte j (grind arith) ∙ one.byte j (grind arith)

  pub row_put : b₄ ≡ take k b ++ (packed_row t ++ drop (k + 4) b)
  row_put =
      let bytes : packed_row t ≡ get_or b₄ k 0 ∷ get_or b₄ (k + 1) 0 ∷ get_or b₄ (k + 2) 0 ∷ get_or b₄ (k + 3) 0 ∷ [] =
      ap (bytes_of 4) (sym number ∙ field_of_bytes b₄ k (small k) (small (k + 1)) (small (k + 2)) (small (k + 3)))
      ∙ bytes_of_word _ _ _ _ (small k) (small (k + 1)) (small (k + 2)) (small (k + 3)) in
      let row : drop k b₄ ≡ packed_row t ++ drop (k + 4) b =
      four_dropped b₄ k (omega (arith, long))
      ∙ ap (λ (s : List ℕ). s ++ drop (k + 4) b₄) (sym bytes)
      ∙ ap (λ (s : List ℕ). packed_row t ++ s) (same_back b b₄ (k + 4) long (λ j h. outside j (inr h))) in
      sym (take-append-drop k b₄)
      ∙ ap (λ (s : List ℕ). s ++ drop k b₄) (same_front b b₄ k long (λ j h. outside j (inl h)))
      ∙ ap (λ (s : List ℕ). take k b ++ s) row

-- the first byte of a file
pub count_put : (b c : List ℕ) (n : ℕ) → Put b c 0 8 n → 1 ≤ length b → n < 256 → ((i : ℕ) → get_or c i 0 < 256) → c ≡ n ∷ drop 1 b
count_put b c n put some fits small =
    let first : get_or c 0 0 ≡ n = sym (byte_at c 0 (small 0)) ∙ put.made (omega arith) fits in
    let rest : drop 1 c ≡ drop 1 b = same_back b c 1 put.long (λ j l. put.byte j (inr (omega arith))) in
    drop_more c 0 0 (omega (arith, put.long)) ∙ ap (λ (m : ℕ). m ∷ drop 1 c) first ∙ ap (λ (s : List ℕ). n ∷ s) rest
