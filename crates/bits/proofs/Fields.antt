-- A field's value is made of its bits, the first the most significant, so it splits like a number in base two.
use Rattle.std.proofs.Common.{◌≡◌, ℕ, zero, suc, ◌+◌, ◌-◌, ◌*◌, ◌/◌, ◌%◌, ◌^◌, ◌<◌, List, get_or, sym, ap, add-zero, add_assoc, add-suc, mul_assoc, pow-suc, add-one, arith, pow_mono}
use Rattle.std.proofs.lemmas.Nat.{mod_below}
use Rattle.bits.specs.Fields.{bit_of, bit_at, field_at}

pub bit_lt : (b : List ℕ) (p : ℕ) → bit_at b p < 2
bit_lt b p = mod_below (get_or b (p / 8) 0 / 2 ^ (7 - p % 8)) 2 (omega arith)

pub field_lt : (b : List ℕ) (p n : ℕ) → field_at b p n < 2 ^ n
field_lt b p zero = omega arith
field_lt b p (suc n) = omega (arith, field_lt b p n, bit_lt b (p + n), pow-suc 2 n)

-- m + n bits are the first m, and then the other n
pub field_split : (b : List ℕ) (p m n : ℕ) → field_at b p (m + n) ≡ field_at b p m * 2 ^ n + field_at b (p + m) n
field_split b p m zero = rw (add-zero m) (omega arith)
field_split b p m (suc n) =
    let e : bit_at b (p + (m + n)) ≡ bit_at b (p + m + n) = ap (bit_at b) (sym (add_assoc p m n)) in
    rw (add-suc, pow-suc) (omega (arith, field_split b p m n, mul_assoc (field_at b p m) (2 ^ n) 2, e))

-- a bit of a byte, by the byte's number
pub bit_in : (b : List ℕ) (k j : ℕ) → j < 8 → bit_at b (8 * k + j) ≡ bit_of (get_or b k 0) j
bit_in b k j h =
    let q : (8 * k + j) / 8 ≡ k = omega arith in
    let r : (8 * k + j) % 8 ≡ j = omega arith in
    rw (q, r)

-- one bit more, by the byte and the bit in it where the field begins
pub field_more : (b : List ℕ) (byte bit k : ℕ) → field_at b (8 * byte + bit) (k + 1) ≡ field_at b (8 * byte + bit) k * 2 + bit_of (get_or b (byte + (bit + k) / 8) 0) ((bit + k) % 8)
field_more b byte bit k =
    let q : (8 * byte + bit + k) / 8 ≡ byte + (bit + k) / 8 = omega arith in
    let r : (8 * byte + bit + k) % 8 ≡ (bit + k) % 8 = omega arith in
    rw (add-one, q, r)

-- the value of fewer than 32 bits has room for one more
pub field_fits : (b : List ℕ) (p k : ℕ) → k < 32 → field_at b p k * 2 + 1 < 2 ^ 32
field_fits b p k h = omega (arith, field_lt b p k, pow_mono {i = k} {j = 31} (omega arith))

-- the 8 bits of a byte are its value
pub byte_field : (b : List ℕ) (k : ℕ) → get_or b k 0 < 256 → field_at b (8 * k) 8 ≡ get_or b k 0
byte_field b k small =
    let x = get_or b k 0 in
    rw (bit_in b k 0 (omega arith), bit_in b k 1 (omega arith), bit_in b k 2 (omega arith), bit_in b k 3 (omega arith), bit_in b k 4 (omega arith), bit_in b k 5 (omega arith), bit_in b k 6 (omega arith), bit_in b k 7 (omega arith)) (omega arith)
