-- A field that is written reads back, and every other bit stays: bit by bit, over the bytes.
use Rattle.std.proofs.Common.{◌≡◌, ℕ, zero, suc, ◌+◌, ◌-◌, ◌*◌, ◌/◌, ◌%◌, ◌^◌, ◌<◌, ◌≤◌, ◌≢◌, ◌⊎◌, List, length, get_or, set, sym, refl, ap, ◌∙◌, ⊎_elim, add-one, arith, length-set}
use Rattle.std.proofs.lemmas.List.{get_or-set_same, get_or-set_other}
use Rattle.std.proofs.lemmas.Nat.{mod-pow-add, shr-shr}
use Rattle.bits.specs.Fields.{bit_of, bit_at, field_at, byte_with, put_bit, put_field}
use Rattle.bits.proofs.Bytes.{bit_made, bit_kept}

pub length_put_field : (b : List ℕ) (p n v : ℕ) → length (put_field b p n v) ≡ length b
length_put_field b p zero v = refl
length_put_field b p (suc n) v = length-set (put_field b p n (v / 2)) ((p + n) / 8) _ ∙ length_put_field b p n (v / 2)

pub put_bit_made : (b : List ℕ) (p v : ℕ) → p < 8 * length b → v < 2 → bit_at (put_bit b p v) p ≡ v
put_bit_made b p v inside small =
    let h : p / 8 < length b = omega arith in
    rw get_or-set_same (bit_made (get_or b (p / 8) 0) (p % 8) v small)

apart : (m n : ℕ) → m ≢ n → (m / 8 ≢ n / 8) ⊎ ((m / 8 ≡ n / 8) × (m % 8 ≢ n % 8))
apart m n d = grind arith

pub put_bit_kept : (b : List ℕ) (p q v : ℕ) → p < 8 * length b → v < 2 → q ≢ p → bit_at (put_bit b p v) q ≡ bit_at b q
put_bit_kept b p q v inside small ne =
    let x = get_or b (p / 8) 0 in
    let y = byte_with x (p % 8) v in
    ⊎_elim
    (λ d. ap (λ (z : ℕ). bit_of z (q % 8)) (get_or-set_other b (p / 8) (q / 8) y 0 d))
    (λ (e : (q / 8 ≡ p / 8) × (q % 8 ≢ p % 8)).
    ap (λ (i : ℕ). bit_of (get_or (set b (p / 8) y) i 0) (q % 8)) e.0
    ∙ ap (λ (z : ℕ). bit_of z (q % 8)) (get_or-set_same b (p / 8) y 0 (omega arith))
    ∙ bit_kept x (p % 8) (q % 8) v small (omega arith) (omega arith) e.1
    ∙ sym (ap (λ (i : ℕ). bit_of (get_or b i 0) (q % 8)) e.0))
    (apart q p ne)

-- fields of the same bits have the same value
pub field_same : (b c : List ℕ) (p n : ℕ) → ((q : ℕ) → p ≤ q → q < p + n → bit_at b q ≡ bit_at c q) → field_at b p n ≡ field_at c p n
field_same b c p zero same = refl
field_same b c p (suc n) same = omega (arith, field_same b c p n (λ q l h. same q l (omega arith)), same (p + n) (omega arith) (omega arith))

pub put_field_kept : (b : List ℕ) (p n v q : ℕ) → p + n ≤ 8 * length b → (q < p) ⊎ (p + n ≤ q) → bit_at (put_field b p n v) q ≡ bit_at b q
put_field_kept b p zero v q inside out = refl
put_field_kept b p (suc n) v q inside out =
    let c = put_field b p n (v / 2) in
    put_bit_kept c (p + n) q (v % 2) (omega (arith, length_put_field b p n (v / 2))) (omega arith) (beside q p n out)
    ∙ put_field_kept b p n (v / 2) q (omega arith) (farther q p n out)
  where
    beside : (q p n : ℕ) → (q < p) ⊎ (p + suc n ≤ q) → q ≢ p + n
    beside q p n h = grind arith

    farther : (q p n : ℕ) → (q < p) ⊎ (p + suc n ≤ q) → (q < p) ⊎ (p + n ≤ q)
    farther q p n h = grind arith

pub put_field_made : (b : List ℕ) (p n v : ℕ) → p + n ≤ 8 * length b → field_at (put_field b p n v) p n ≡ v % 2 ^ n
put_field_made b p zero v inside = omega arith
put_field_made b p (suc n) v inside =
    let c = put_field b p n (v / 2) in
    let room : p + n < 8 * length c = omega (arith, length_put_field b p n (v / 2)) in
    let first : field_at (put_bit c (p + n) (v % 2)) p n ≡ v / 2 % 2 ^ n = field_same (put_bit c (p + n) (v % 2)) c p n (λ q l h. put_bit_kept c (p + n) q (v % 2) room (omega arith) (below q (p + n) h)) ∙ put_field_made b p n (v / 2) (omega arith) in
    let last : bit_at (put_bit c (p + n) (v % 2)) (p + n) ≡ v % 2 = put_bit_made c (p + n) (v % 2) room (omega arith) in
    let whole : v % 2 ^ suc n ≡ v / 2 % 2 ^ n * 2 + v % 2 = rw add-one at (mod-pow-add v n 1) in
    omega (arith, first, last, whole)
  where
    below : (q m : ℕ) → q < m → q ≢ m
    below q m h = grind arith

-- one bit more of a field of n bits, by the byte and the bit in it where the field begins
pub put_field_more : (b : List ℕ) (byte bit n k v : ℕ) → k < n → put_field b (8 * byte + bit) (k + 1) (v / 2 ^ (n - (k + 1))) ≡ set (put_field b (8 * byte + bit) k (v / 2 ^ (n - k))) (byte + (bit + k) / 8) (byte_with (get_or (put_field b (8 * byte + bit) k (v / 2 ^ (n - k))) (byte + (bit + k) / 8) 0) ((bit + k) % 8) (v / 2 ^ (n - 1 - k) % 2))
put_field_more b byte bit n k v h =
    let q : (8 * byte + bit + k) / 8 ≡ byte + (bit + k) / 8 = omega arith in
    let r : (8 * byte + bit + k) % 8 ≡ (bit + k) % 8 = omega arith in
    let less : n - (k + 1) ≡ n - 1 - k = omega arith in
    let half : v / 2 ^ (n - 1 - k) / 2 ≡ v / 2 ^ (n - k) = shr-shr v (n - 1 - k) 1 ∙ ap (λ (m : ℕ). v / 2 ^ m) (next n k h) in
    rw (less, add-one, q, r, half)
  where
    next : (n k : ℕ) → k < n → n - 1 - k + 1 ≡ n - k
    next n k h = omega arith

-- a byte that the field does not touch stays
pub put_field_byte : (b : List ℕ) (p n v j : ℕ) → (8 * j + 8 ≤ p) ⊎ (p + n ≤ 8 * j) → get_or (put_field b p n v) j 0 ≡ get_or b j 0
put_field_byte b p zero v j out = refl
put_field_byte b p (suc n) v j out =
    get_or-set_other (put_field b p n (v / 2)) ((p + n) / 8) j _ 0 (beside p n j out) ∙ put_field_byte b p n (v / 2) j (farther p n j out)
  where
    beside : (p n j : ℕ) → (8 * j + 8 ≤ p) ⊎ (p + suc n ≤ 8 * j) → j ≢ (p + n) / 8
    beside p n j h = grind arith

    farther : (p n j : ℕ) → (8 * j + 8 ≤ p) ⊎ (p + suc n ≤ 8 * j) → (8 * j + 8 ≤ p) ⊎ (p + n ≤ 8 * j)
    farther p n j h = grind arith
