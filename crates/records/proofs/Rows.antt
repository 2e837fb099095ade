-- A row's 32 bits, seen as four bytes and seen as four fields, are one number.
use Rattle.std.proofs.Common.{◌≡◌, ℕ, zero, suc, ◌+◌, ◌*◌, ◌/◌, ◌%◌, ◌^◌, ◌<◌, ◌≤◌, List, [], ◌∷◌, ◌++◌, length, get_or, drop, sym, refl, ap, ◌∙◌, arith}
use Rattle.std.proofs.lemmas.List.{drop_more}
use Rattle.bits.specs.Fields.{field_at}
use Rattle.bits.proofs.Fields.{field_split, field_lt, byte_field}
use Rattle.plan.specs.declared.terms.Kind.{Kind}
use Rattle.plan.specs.declared.terms.Kind.TheVariants.{NonIsolated, Isolated}
use Rattle.records.specs.Packed.{kind_bit, kind_of, row_word, bytes_of, packed_row}
use Rattle.records.specs.PlanFile.{terms_at}

-- the value of a field, kept shut here so that its bits are not written out
unfoldable pub field : List ℕ → ℕ → ℕ → ℕ
field b p n = field_at b p n

split : (b : List ℕ) (p m n q : ℕ) → p + m ≡ q → field b p (m + n) ≡ field b p m * 2 ^ n + field b q n
unfolding field
split b p m n q e = field_split b p m n ∙ ap (λ (r : ℕ). field_at b p m * 2 ^ n + field_at b r n) e

pub field_below : (b : List ℕ) (p n : ℕ) → field b p n < 2 ^ n
unfolding field
field_below b p n = field_lt b p n

pub byte_at : (b : List ℕ) (k : ℕ) → get_or b k 0 < 256 → field b (8 * k) 8 ≡ get_or b k 0
unfolding field
byte_at b k small = byte_field b k small

-- the number that four bytes make, the most significant first
abbrev pub word : ℕ → ℕ → ℕ → ℕ → ℕ
word w x y z = ((w * 256 + x) * 256 + y) * 256 + z

module _ (b : List ℕ) (k : ℕ) where
  pub field_of_bytes : get_or b k 0 < 256 → get_or b (k + 1) 0 < 256 → get_or b (k + 2) 0 < 256 → get_or b (k + 3) 0 < 256 → field b (8 * k) 32 ≡ word (get_or b k 0) (get_or b (k + 1) 0) (get_or b (k + 2) 0) (get_or b (k + 3) 0)
  field_of_bytes h₀ h₁ h₂ h₃ =
      omega (
        arith,
        split b (8 * k) 24 8 (8 * (k + 3)) (omega arith),
        split b (8 * k) 16 8 (8 * (k + 2)) (omega arith),
        split b (8 * k) 8 8 (8 * (k + 1)) (omega arith),
        byte_at b k h₀,
        byte_at b (k + 1) h₁,
        byte_at b (k + 2) h₂,
        byte_at b (k + 3) h₃,
      )

  pub field_of_row : field b (8 * k) 32 ≡ ((field b (8 * k) 1 * 2 ^ 3 + field b (8 * k + 1) 3) * 2 ^ 14 + field b (8 * k + 4) 14) * 2 ^ 14 + field b (8 * k + 18) 14
  field_of_row =
      omega (
        arith,
        split b (8 * k) 18 14 (8 * k + 18) (omega arith),
        split b (8 * k) 4 14 (8 * k + 4) (omega arith),
        split b (8 * k) 1 3 (8 * k + 1) (omega arith),
      )

pub bytes_of_word : (w x y z : ℕ) → w < 256 → x < 256 → y < 256 → z < 256 → bytes_of 4 (word w x y z) ≡ w ∷ x ∷ y ∷ z ∷ []
bytes_of_word w x y z hw hx hy hz =
    let n = word w x y z in
    let d : n % 256 ≡ z = omega arith in
    let c : n / 256 % 256 ≡ y = omega arith in
    let b : n / 256 / 256 % 256 ≡ x = omega arith in
    let a : n / 256 / 256 / 256 % 256 ≡ w = omega arith in
    rw (d, c, b, a)

pub word_of_bytes : (n : ℕ) → n < 2 ^ 32 → word (n / 256 / 256 / 256 % 256) (n / 256 / 256 % 256) (n / 256 % 256) (n % 256) ≡ n
word_of_bytes n small = omega arith

pub kind_bit_lem : (n : ℕ) → n < 2 → kind_bit (kind_of n) ≡ n
kind_bit_lem zero h = refl
kind_bit_lem (suc zero) h = refl
kind_bit_lem (suc (suc n)) h = absurd (omega arith)

pub kind_kept : (k : Kind) → kind_of (kind_bit k) ≡ k
kind_kept NonIsolated = refl
kind_kept Isolated = refl

pub kind_below : (k : Kind) → kind_bit k < 2
kind_below NonIsolated = omega arith
kind_below Isolated = omega arith

pub four_dropped : (b : List ℕ) (k : ℕ) → k + 4 ≤ length b → drop k b ≡ get_or b k 0 ∷ get_or b (k + 1) 0 ∷ get_or b (k + 2) 0 ∷ get_or b (k + 3) 0 ∷ drop (k + 4) b
four_dropped b k room =
    one b k (k + 1) refl (omega arith)
    ∙ ap (λ (s : List ℕ). get_or b k 0 ∷ s)
    (one b (k + 1) (k + 2) (omega arith) (omega arith)
    ∙ ap (λ (s : List ℕ). get_or b (k + 1) 0 ∷ s)
    (one b (k + 2) (k + 3) (omega arith) (omega arith)
    ∙ ap (λ (s : List ℕ). get_or b (k + 2) 0 ∷ s) (one b (k + 3) (k + 4) (omega arith) (omega arith))))
  where
    one : (b : List ℕ) (i j : ℕ) → i + 1 ≡ j → i < length b → drop i b ≡ get_or b i 0 ∷ drop j b
    one b i j e h = drop_more b i 0 h ∙ ap (λ (m : ℕ). get_or b i 0 ∷ drop m b) e

one_number : (c n f z q t : ℕ) → c ≡ n → z ≡ 0 → f ≡ ((n * 2 ^ 3 + z) * 2 ^ 14 + q) * 2 ^ 14 + t → ((c * 2 ^ 3 + 0) * 2 ^ 14 + q) * 2 ^ 14 + t ≡ f
one_number c n f z q t same clear whole = omega arith

-- the row at byte k, whose zero bits are zero, and its four bytes
module _ (b : List ℕ) (k : ℕ) (bytes : (i : ℕ) → get_or b i 0 < 256) (zeros : field_at b (8 * k + 1) 3 ≡ 0) where
  fields : row_word (terms_at b k) ≡ ((kind_bit (kind_of (field b (8 * k) 1)) * 2 ^ 3 + 0) * 2 ^ 14 + field b (8 * k + 4) 14) * 2 ^ 14 + field b (8 * k + 18) 14
  unfolding field
  fields = refl

  clear : field b (8 * k + 1) 3 ≡ 0
  unfolding field
  clear = zeros

  number : row_word (terms_at b k) ≡ word (get_or b k 0) (get_or b (k + 1) 0) (get_or b (k + 2) 0) (get_or b (k + 3) 0)
  number =
      fields
      ∙ one_number _ _ _ _ _ _ (kind_bit_lem (field b (8 * k) 1) (field_below b (8 * k) 1)) clear (field_of_row b k)
      ∙ field_of_bytes b k (bytes k) (bytes (k + 1)) (bytes (k + 2)) (bytes (k + 3))

  pub row_bytes : k + 4 ≤ length b → drop k b ≡ packed_row (terms_at b k) ++ drop (k + 4) b
  row_bytes room =
      let four : packed_row (terms_at b k) ≡ get_or b k 0 ∷ get_or b (k + 1) 0 ∷ get_or b (k + 2) 0 ∷ get_or b (k + 3) 0 ∷ [] = ap (bytes_of 4) number ∙ bytes_of_word _ _ _ _ (bytes k) (bytes (k + 1)) (bytes (k + 2)) (bytes (k + 3)) in
      four_dropped b k room ∙ sym (ap (λ (s : List ℕ). s ++ drop (k + 4) b) four)
