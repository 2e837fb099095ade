-- A byte with one bit made another: that bit is the new one, and every other bit is as it was.
use Rattle.std.proofs.Common.{◌≡◌, ℕ, suc, ◌+◌, ◌-◌, ◌*◌, ◌/◌, ◌%◌, ◌^◌, ◌<◌, ◌≢◌, ◌⊎◌, sym, ap, ◌∙◌, ⊎_elim, add_assoc, mul_assoc, mul_comm, add-mul, pow-suc, arith}
use Rattle.std.proofs.lemmas.Nat.{pow_pos, pow-add, div_below, shr-shr, field_of, mod_below, mul-le, div-add-mod', div-mul-add, mod-mul-add}
use Rattle.bits.specs.Fields.{bit_of, byte_with}

-- the bit of weight 2 ^ b of the low bits above it is that of the number
low_bit : (n b c : ℕ) → n % 2 ^ (suc c + b) / 2 ^ b % 2 ≡ n / 2 ^ b % 2
low_bit n b c =
    let m = n / 2 ^ b in
    rw (field_of n (suc c) b)
    (omega (arith, div-add-mod' m (2 ^ suc c), ap (λ (w : ℕ). m / 2 ^ suc c * w) (pow-suc 2 c), mul_assoc (m / 2 ^ suc c) (2 ^ c) 2))

-- x with its bit of weight w made v
with_bit : ℕ → ℕ → ℕ → ℕ
with_bit x w v = x / (2 * w) * (2 * w) + v * w + x % w

module _ (x a v : ℕ) (small : v < 2) where
  below : x % 2 ^ a < 2 ^ a
  below = mod_below x (2 ^ a) (pow_pos a)

  grouped : with_bit x (2 ^ a) v ≡ (x / (2 * 2 ^ a) * 2 + v) * 2 ^ a + x % 2 ^ a
  unfolding with_bit
  grouped = omega (arith, add-mul (x / (2 * 2 ^ a) * 2) v (2 ^ a), mul_assoc (x / (2 * 2 ^ a)) 2 (2 ^ a))

  here : with_bit x (2 ^ a) v / 2 ^ a % 2 ≡ v
  here = rw (grouped, div-mul-add (x / (2 * 2 ^ a) * 2 + v) (2 ^ a) (x % 2 ^ a) below) (omega arith)

  low : with_bit x (2 ^ a) v % 2 ^ a ≡ x % 2 ^ a
  low = rw (grouped, mod-mul-add (x / (2 * 2 ^ a) * 2 + v) (2 ^ a) (x % 2 ^ a) below)

  high : with_bit x (2 ^ a) v / (2 * 2 ^ a) ≡ x / (2 * 2 ^ a)
  unfolding with_bit
  high = rw add_assoc (div-mul-add (x / (2 * 2 ^ a)) (2 * 2 ^ a) (v * 2 ^ a + x % 2 ^ a) (omega (arith, below, mul-le v (2 ^ a) 1 (2 ^ a) (omega arith) (omega arith))))

  lower_bit : (b c : ℕ) → suc c + b ≡ a → with_bit x (2 ^ a) v / 2 ^ b % 2 ≡ x / 2 ^ b % 2
  lower_bit b c e =
      sym (low_bit (with_bit x (2 ^ a) v) b c)
      ∙ ap (λ (n : ℕ). n / 2 ^ b % 2) (ap (λ (k : ℕ). with_bit x (2 ^ a) v % 2 ^ k) e ∙ low ∙ sym (ap (λ (k : ℕ). x % 2 ^ k) e))
      ∙ low_bit x b c

  twice : 2 * 2 ^ a ≡ 2 ^ suc a
  twice = mul_comm 2 (2 ^ a) ∙ sym (pow-suc 2 a)

  higher_bit : (b c : ℕ) → suc a + c ≡ b → with_bit x (2 ^ a) v / 2 ^ b % 2 ≡ x / 2 ^ b % 2
  higher_bit b c e =
      let up : (n : ℕ) → n / 2 ^ b % 2 ≡ n / (2 * 2 ^ a) / 2 ^ c % 2 = λ n. ap (λ (m : ℕ). m % 2) (sym (ap (λ (w : ℕ). n / w / 2 ^ c) twice ∙ shr-shr n (suc a) c ∙ ap (λ (k : ℕ). n / 2 ^ k) e)) in
      up (with_bit x (2 ^ a) v) ∙ ap (λ (n : ℕ). n / 2 ^ c % 2) high ∙ sym (up x)

-- a byte is what stands above a bit, that bit, and what stands below it
pub byte_parts : (x k : ℕ) → x ≡ x / (2 * 2 ^ (7 - k)) * (2 * 2 ^ (7 - k)) + bit_of x k * 2 ^ (7 - k) + x % 2 ^ (7 - k)
byte_parts x k =
    let w = 2 ^ (7 - k) in
    let m = x / w in
    let half : m / 2 ≡ x / (2 * w) = shr-shr x (7 - k) 1 ∙ ap (λ (n : ℕ). x / n) (pow-add 2 (7 - k) 1 ∙ mul_comm w 2) in
    let two : m * w ≡ (m / 2 * 2 + m % 2) * w = ap (λ (n : ℕ). n * w) (sym (div-add-mod' m 2)) in
    let up : m / 2 * (2 * w) ≡ x / (2 * w) * (2 * w) = ap (λ (n : ℕ). n * (2 * w)) half in
    omega (arith, div-add-mod' x w, two, add-mul (m / 2 * 2) (m % 2) w, mul_assoc (m / 2) 2 w, up)

pub bit_made : (x k v : ℕ) → v < 2 → bit_of (byte_with x k v) k ≡ v
unfolding with_bit
bit_made x k v small = here x (7 - k) v small

pub bit_kept : (x k j v : ℕ) → v < 2 → k < 8 → j < 8 → j ≢ k → bit_of (byte_with x k v) j ≡ bit_of x j
unfolding with_bit
bit_kept x k j v small kin jin ne =
    ⊎_elim
    (λ (h : j < k). higher_bit x (7 - k) v small (7 - j) (k - j - 1) (omega arith))
    (λ (h : k < j). lower_bit x (7 - k) v small (7 - j) (j - k - 1) (omega arith))
    (apart j k ne)
  where
    apart : (m n : ℕ) → m ≢ n → (m < n) ⊎ (n < m)
    apart m n d = grind arith

pub byte_lt : (x k v : ℕ) → x < 256 → v < 2 → k < 8 → byte_with x k v < 256
byte_lt x k v hx hv hk =
    let w = 2 ^ (7 - k) in
    let h = x / (2 * w) in
    let all : 2 ^ k * (2 * w) ≡ 256 = ap (λ (n : ℕ). 2 ^ k * n) (twice x (7 - k) v hv) ∙ sym (pow-add 2 k (suc (7 - k))) ∙ ap (λ (n : ℕ). 2 ^ n) (eight k hk) in
    let few : h < 2 ^ k = div_below x (2 * w) (2 ^ k) (omega (arith, pow_pos (7 - k))) (omega (arith, all)) in
    omega (arith, all, below x (7 - k) v hv, mul-le v w 1 w (omega arith) (omega arith), mul-le (h + 1) (2 * w) (2 ^ k) (2 * w) (omega arith) (omega arith), add-mul h 1 (2 * w))
  where
    eight : (n : ℕ) → n < 8 → n + suc (7 - n) ≡ 8
    eight n l = omega arith
