-- Packed fields over a list of bytes: bit 0 is the most significant of byte 0, bit 8 that of byte 1.
use Rattle.std.specs.Prelude.{ℕ, zero, suc, ◌+◌, ◌-◌, ◌*◌, ◌/◌, ◌%◌, ◌^◌, Bool, cond, List, length, Ok, Err, Result, nat_le, slice_index, slice_set}
use Rattle.bits.specs.declared.fault.BitsFault.{BitsFault}
use Rattle.bits.specs.declared.fault.BitsFault.TheVariants.{Short}
use Rattle.bits.specs.declared.place.Place.{Place}

-- how many bits stand before a place
abbrev pub bits_before : Place → ℕ
bits_before at = 8 * at.byte + at.bit

-- bit k of a byte, 0 the most significant
abbrev pub bit_of : ℕ → ℕ → ℕ
bit_of x k = x / 2 ^ (7 - k) % 2

-- bit p of the bytes
abbrev pub bit_at : List ℕ → ℕ → ℕ
bit_at b p = bit_of (slice_index b (p / 8)) (p % 8)

-- the value of the n bits from bit p on, the first the most significant
abbrev pub field_at : List ℕ → ℕ → ℕ → ℕ
field_at b p zero = 0
field_at b p (suc n) = field_at b p n * 2 + bit_at b (p + n)

-- whether the bytes have the n bits from bit p on
abbrev pub has_field : List ℕ → ℕ → ℕ → Bool
has_field b p n = nat_le (p + n) (8 * length b)

-- what reading the n bits from bit p on answers
abbrev pub field_read : List ℕ → ℕ → ℕ → Result ℕ BitsFault
field_read b p n = cond (has_field b p n) (Ok (field_at b p n)) (Err Short)

-- how many bits stand before the place after a field was read or written: a refusal leaves the place
abbrev pub place_after : List ℕ → ℕ → ℕ → ℕ
place_after b p n = cond (has_field b p n) (p + n) p

-- a byte with bit k made v
abbrev pub byte_with : ℕ → ℕ → ℕ → ℕ
byte_with x k v = x / (2 * 2 ^ (7 - k)) * (2 * 2 ^ (7 - k)) + v * 2 ^ (7 - k) + x % 2 ^ (7 - k)

-- the bytes with bit p made v
abbrev pub put_bit : List ℕ → ℕ → ℕ → List ℕ
put_bit b p v = slice_set b (p / 8) (byte_with (slice_index b (p / 8)) (p % 8) v)

-- the bytes with the n bits from bit p on made the low n bits of v
abbrev pub put_field : List ℕ → ℕ → ℕ → ℕ → List ℕ
put_field b p zero v = b
put_field b p (suc n) v = put_bit (put_field b p n (v / 2)) (p + n) (v % 2)

-- what writing a field answers, and the bytes after it: a refusal leaves them
abbrev pub field_written : List ℕ → ℕ → ℕ → Result (Unit {0}) BitsFault
field_written b p n = cond (has_field b p n) (Ok tt) (Err Short)

abbrev pub bytes_after : List ℕ → ℕ → ℕ → ℕ → List ℕ
bytes_after b p n v = cond (has_field b p n) (put_field b p n v) b
