-- The earliest of some records: the smallest deadline, then the smallest number.
use Rattle.std.specs.Prelude.{◌≡◌, ℕ, suc, ◌<◌, Bool, true, false, cond, ◌&&◌, ◌||◌, ◌⊎◌, List, [], ◌∷◌, length, Some, None, Option, ◌==◌, ◌≢◌, nat_lt, slice_index_or}
use Rattle.std.specs.List.{HoldsAt, AllByRecursion}
use Rattle.std.specs.Fn.{Shared, FnReturnsAt}
use denote.Ref.{Bor}
use Rattle.earliest.specs.declared.search.Best.{Best}

-- takes says of each record what the test returns for it
abbrev pub Tells : {F C : Type 0} → Shared F (Bor C × Unit {0}) Bool → F → (C → Bool) → Type 0
Tells calls test takes = (x : _) (r : Bool) → FnReturnsAt calls test x r → r ≡ takes x

-- whether a record comes before another: by deadline, and then by number
abbrev pub sooner : Best → Best → Bool
sooner a b = nat_lt a.deadline b.deadline || (a.deadline == b.deadline && nat_lt a.number b.number)

-- a record held against the earliest so far: the earlier of the two, and of two alike the first
abbrev pub against : Option Best → Best → Option Best
against None found = Some found
against (Some old) found = Some (cond (sooner found old) found old)

abbrev pub position_of : Option Best → Option ℕ
position_of None = None
position_of (Some b) = Some b.position

-- a record with the deadline d and the number n, at position k, comes before one with e and m at j: by
-- deadline, then by number, and of two alike the first
abbrev pub Precedes : ℕ → ℕ → ℕ → ℕ → ℕ → ℕ → Type 0
Precedes d n k e m j = (d < e) ⊎ ((d ≡ e) × ((n < m) ⊎ ((n ≡ m) × (k < j))))

module _ {C : Type 0} (deadline number : C → ℕ) (takes : C → Bool) where
  -- the earliest so far, after the record x at position i
  abbrev pub after : Option Best → ℕ → C → Option Best
  after best i x = cond (takes x) (against best (record { position = i; deadline = deadline x; number = number x })) best

  -- the same after all of xs, the first of which is at position i
  abbrev pub after_all : Option Best → ℕ → List C → Option Best
  after_all best i [] = best
  after_all best i (x ∷ xs) = after_all (after best i x) (suc i) xs

  -- the position of the earliest of xs
  abbrev pub earliest_of : List C → Option ℕ
  earliest_of xs = position_of (after_all None 0 xs)

  -- the record at k takes part, and comes before every other that does
  abbrev pub ComesFirst : List C → ℕ → Type 0
  ComesFirst xs k =
      (k < length xs)
      × HoldsAt (λ x. takes x ≡ true) xs k
      × ((j : ℕ) (d : C) → j < length xs → (j ≢ k) → takes (slice_index_or xs j d) ≡ true → Precedes (deadline (slice_index_or xs k d)) (number (slice_index_or xs k d)) k (deadline (slice_index_or xs j d)) (number (slice_index_or xs j d)) j)

  -- what the earliest is: nobody exactly where no record takes part, else the one that comes first
  abbrev pub IsEarliest : List C → Option ℕ → Type 0
  IsEarliest xs None = AllByRecursion (λ x. takes x ≡ false) xs
  IsEarliest xs (Some k) = ComesFirst xs k
