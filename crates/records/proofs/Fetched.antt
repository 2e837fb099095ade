-- Fields that were read one after the other, from the same bytes, are those of the record that they make.
use Rattle.std.proofs.Common.{◌≡◌, ℕ, ◌*◌, List, Ok, Err, arith}
use Rattle.std.proofs.lemmas.Bool.Decides.{nat_tests}
use Rattle.bits.specs.Fields.{field_read, place_after}
use Rattle.records.specs.declared.fault.RecordsFault.TheVariants.{ZeroBits}
use Rattle.records.specs.Packed.{kind_of}
use Rattle.records.specs.PlanFile.{row_read}
use Rattle.records.specs.Trace.{record_of, record_read}

-- a field of n bits from bit p on was read, and the next begins at bit q of the same bytes
pub record Fetched (b c : List ℕ) (p n v q : ℕ) : Type 0 where
  pub value : Ok v ≡ field_read b p n
  pub place : q ≡ place_after b p n
  pub same : c ≡ b

-- the four fields of a row
module _ (b : List ℕ) (k : ℕ) {kind zeros budget period p q r s t : ℕ} {b₀ b₁ b₂ b₃ b₄ : List ℕ} (bytes : b₀ ≡ b) (start : p ≡ 8 * k) (one : Fetched b₀ b₁ p 1 kind q) (two : Fetched b₁ b₂ q 3 zeros r) (three : Fetched b₂ b₃ r 14 budget s) (four : Fetched b₃ b₄ s 14 period t) where
  pub zero_bits_set : (zeros ≡ 0 → ⊥) → Err ZeroBits ≡ row_read b k
  zero_bits_set ne = grind (arith, nat_tests)

  pub row_read_lem : zeros ≡ 0 → Ok (record { kind = kind_of kind; budget = budget; period = period }) ≡ row_read b k
  row_read_lem e = grind (arith, nat_tests)

-- the two fields of a trace record
pub record_read_lem : (b : List ℕ) (k : ℕ) {kind argument p q r : ℕ} {b₀ b₁ b₂ : List ℕ} → b₀ ≡ b → p ≡ 8 * k → Fetched b₀ b₁ p 2 kind q → Fetched b₁ b₂ q 14 argument r → record_of kind argument ≡ record_read b k
record_read_lem b k bytes start one two = grind (arith, nat_tests)
