-- Counts that have been cleared read zero, and the allowance picks nobody that the rule below does not.
use Rattle.std.specs.Prelude.{◌≡◌, ℕ, ◌+◌, ◌<◌, ◌≤◌, min, Bool, true, false, cond, ◌⊎◌, List, replicate, Some, None, Option, ◌==◌, ◌≢◌, nat_eq, slice_index, refl}
use Rattle.std.proofs.Common.{ap, sym, ◌∙◌, inl, inr, ⊎_elim, arith}
use Rattle.std.proofs.lemmas.List.{get_or-replicate, get_or_past, get_or-set_same, get_or-set_other, length-replicate}
use Rattle.std.proofs.lemmas.Bool.{cases_lt, cases_eq, eq-eqb, ne_eqb}
use Rattle.donor.specs.declared.tally.Tally.{Tally}
use Rattle.donor.specs.Tally.{counted_servers, most_counted, frame_of, count_at, counts_at, counted_once, noted}

pub zero_count : (n i : ℕ) → ◌≡◌ {A = ℕ} (slice_index (replicate n 0) i) 0
zero_count n i =
    ⊎_elim (λ (h : i < n). get_or-replicate n i 0 0 h) (λ (h : n ≤ i). get_or_past (replicate n 0) i 0 (omega (arith, length-replicate {A = ℕ} n 0))) (cases_lt i n)

-- in another frame every count reads zero
pub other_frame : (tally : Tally) (instant server : ℕ) → (tally.frame ≢ frame_of instant) → count_at tally instant server ≡ 0
other_frame tally instant server ne =
    let other : nat_eq tally.frame (frame_of instant) ≡ false = ne_eqb tally.frame (frame_of instant) ne in
    ap (λ (t : Bool). slice_index (cond t tally.counts (replicate 32 0)) server) other ∙ zero_count 32 server

-- what is picked under a limit is what is picked without one
pub limited_inside : (over : Bool) (pick : Option ℕ) (k n : ℕ) → (pick ≡ Some k → k < n) → cond over None pick ≡ Some k → k < n
limited_inside true pick k n inside e = let z : ◌≡◌ {A = ℕ} 0 1 = cc in absurd (omega arith)
limited_inside false pick k n inside e = inside e

-- one tick counted on counts that are all zero
one_counted : (n server k : ℕ) → server < n → slice_index (counted_once (replicate {A = ℕ} n 0) server) k ≡ cond (k == server) 1 0
one_counted n server k counted = by_server (cases_eq k server)
  where
    by_server : (k ≡ server) ⊎ (k ≢ server) → slice_index (counted_once (replicate {A = ℕ} n 0) server) k ≡ cond (k == server) 1 0
    by_server (inl same) =
        let zeros = replicate {A = ℕ} n 0 in
        ap (λ (m : ℕ). slice_index (counted_once zeros server) m) same
        ∙ get_or-set_same zeros server (min most_counted (slice_index zeros server + 1)) 0 (omega (arith, length-replicate {A = ℕ} n 0))
        ∙ ap (λ (m : ℕ). min most_counted (m + 1)) (zero_count n server)
        ∙ sym (ap (λ (t : Bool). cond t 1 0) (eq-eqb k server same))
    by_server (inr other) =
        let zeros = replicate {A = ℕ} n 0 in
        get_or-set_other zeros server k (min most_counted (slice_index zeros server + 1)) 0 other
        ∙ zero_count n k
        ∙ sym (ap (λ (t : Bool). cond t 1 0) (ne_eqb k server other))

-- after the first tick noted in a frame only its server has a count, and it is 1
pub first_in_frame : (tally : Tally) (instant server k : ℕ) → (tally.frame ≢ frame_of instant) → server < counted_servers → count_at (noted tally instant server) instant k ≡ cond (k == server) 1 0
first_in_frame tally instant server k ne counted =
    let zeros = replicate {A = ℕ} counted_servers 0 in
    let old : counts_at tally instant ≡ zeros = ap (λ (t : Bool). cond t tally.counts zeros) (ne_eqb tally.frame (frame_of instant) ne) in
    let here : counts_at (noted tally instant server) instant ≡ counted_once zeros server =
    ap (λ (t : Bool). cond t (counted_once (counts_at tally instant) server) zeros) (eq-eqb (frame_of instant) (frame_of instant) refl)
    ∙ ap (λ (s : List ℕ). counted_once s server) old in
    ap (λ (s : List ℕ). slice_index s k) here ∙ one_counted counted_servers server k counted
