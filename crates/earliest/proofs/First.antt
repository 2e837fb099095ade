-- The earliest so far comes first among the records so far, and one more record keeps that.
use Rattle.std.proofs.Common.{◌≡◌, ℕ, suc, ◌+◌, ◌<◌, ◌≤◌, Bool, true, false, cond, ◌⊎◌, List, [], ◌∷◌, ◌++◌, length, get_or, drop, Some, None, Option, IfSome, sym, refl, ap, ◌∙◌, subst, inl, inr, ⊎_elim, append_assoc, add-one, arith}
use Rattle.std.specs.List.{AllByRecursion}
use Rattle.std.proofs.ByRecursion.{All-append, All-get_or}
use Rattle.std.proofs.lemmas.List.{append-nil, get_or_append_left, get_or_push, length_push, at_drop_more}
use Rattle.std.proofs.lemmas.Bool.{cases_lt, cases_eq, cond_both, both_ways}
use Rattle.std.proofs.lemmas.Bool.Decides.{nat_tests}
use Rattle.earliest.specs.declared.search.Best.{Best}
use Rattle.earliest.specs.Earliest.{sooner, against, position_of, Precedes, after, after_all, earliest_of, ComesFirst, IsEarliest}

-- sooner, on the numbers
sooner_tells : (a b : Best) → sooner a b ≡ true → (a.deadline < b.deadline) ⊎ ((a.deadline ≡ b.deadline) × (a.number < b.number))
sooner_tells a b e = grind (arith, nat_tests)

not_sooner_tells : (a b : Best) → sooner a b ≡ false → (b.deadline < a.deadline) ⊎ ((b.deadline ≡ a.deadline) × (b.number ≤ a.number))
not_sooner_tells a b e = grind (arith, nat_tests)

-- the earlier of two is among the first n, where both are
pub against_inside : (n : ℕ) (best : Option Best) (found : Best) → IfSome best (λ b. b.position < n) → found.position < n → IfSome (against best found) (λ b. b.position < n)
against_inside n None found old new = new
against_inside n (Some b) found old new = cond_both (sooner found b) found b (λ x. x.position < n) (λ _. new) (λ _. old)

-- a new record that comes before the earliest so far comes before all that the latter came before
precedes_all : (d n k d' n' k' e m j : ℕ) → (d < d') ⊎ ((d ≡ d') × (n < n')) → (j ≡ k') ⊎ Precedes d' n' k' e m j → (j ≡ k' → (e ≡ d') × (m ≡ n')) → Precedes d n k e m j
precedes_all d n k d' n' k' e m j new old same = grind arith

-- the earliest so far comes before a record behind it that is not sooner
precedes_new : (d n k e m j : ℕ) → (d < e) ⊎ ((d ≡ e) × (n ≤ m)) → k < j → Precedes d n k e m j
precedes_new d n k e m j old behind = grind arith

module _ {C : Type 0} (deadline number : C → ℕ) (takes : C → Bool) where
  -- what is known of the earliest so far, over the records so far
  record Leads (xs : List C) (b : Best) : Type 0 where
    first : ComesFirst deadline number takes xs b.position
    deadlines : (d : C) → b.deadline ≡ deadline (get_or xs b.position d)
    numbers : (d : C) → b.number ≡ number (get_or xs b.position d)

  abbrev Known : List C → Option Best → Type 0
  Known xs None = AllByRecursion (λ x. takes x ≡ false) xs
  Known xs (Some b) = Leads xs b

  at_old : (xs : List C) (x d : C) (j : ℕ) → j < length xs → get_or (xs ++ (x ∷ [])) j d ≡ get_or xs j d
  at_old xs x d j h = get_or_append_left xs (x ∷ []) d j h

  at_new : (xs : List C) (x d : C) → get_or (xs ++ (x ∷ [])) (length xs) d ≡ x
  at_new xs x d = get_or_push xs x d (length xs) refl

  -- the leader stays where one more record does not take part or comes after it
  stays : (xs : List C) (x : C) (b : Best) → (takes x ≡ true → Precedes b.deadline b.number b.position (deadline x) (number x) (length xs)) → Leads xs b → Leads (xs ++ (x ∷ [])) b
  stays xs x b later leads =
      let k = b.position in
      let ys = xs ++ (x ∷ []) in
      let inside : k < length xs = leads.first.0 in
      let here : (d : C) → get_or ys k d ≡ get_or xs k d = λ d. at_old xs x d k inside in
      record {
        first = (
          omega (arith, length_push xs x),
          λ d. ap takes (here d) ∙ leads.first.1 d,
          λ j d h ne part.
              ⊎_elim
              (λ (old : j < length xs). let there = at_old xs x d j old in rw (here d, there) (leads.first.2 j d old ne (sym (ap takes there) ∙ part)))
              (λ (last : length xs ≤ j).
              let is : j ≡ length xs = omega (arith, length_push xs x) in
              let there : get_or ys j d ≡ x = ap (λ (m : ℕ). get_or ys m d) is ∙ at_new xs x d in
              rw (here d, there, ← leads.deadlines d, ← leads.numbers d, is) (later (sym (ap takes there) ∙ part)))
              (cases_lt j (length xs)),
        );
        deadlines = λ d. leads.deadlines d ∙ sym (ap deadline (here d));
        numbers = λ d. leads.numbers d ∙ sym (ap number (here d));
      }

  -- one more record leads where it takes part and comes before all that do
  takes_over : (xs : List C) (x : C) → takes x ≡ true → ((j : ℕ) (d : C) → j < length xs → takes (get_or xs j d) ≡ true → Precedes (deadline x) (number x) (length xs) (deadline (get_or xs j d)) (number (get_or xs j d)) j) → Leads (xs ++ (x ∷ [])) (record { position = length xs; deadline = deadline x; number = number x })
  takes_over xs x part before =
      let k = length xs in
      let ys = xs ++ (x ∷ []) in
      record {
        first = (
          omega (arith, length_push xs x),
          λ d. ap takes (at_new xs x d) ∙ part,
          λ j d h ne other.
              let old : j < length xs = less j (length xs) (length ys) (length_push xs x) h ne in
              let there = at_old xs x d j old in
              rw (at_new xs x d, there) (before j d old (sym (ap takes there) ∙ other)),
        );
        deadlines = λ d. sym (ap deadline (at_new xs x d));
        numbers = λ d. sym (ap number (at_new xs x d));
      }
    where
      less : (j m n : ℕ) → n ≡ m + 1 → j < n → (j ≡ m → ⊥) → j < m
      less j m n e h ne = grind arith

  module _ (xs : List C) (x : C) where
    new : Best
    new = record { position = length xs; deadline = deadline x; number = number x }

    by_order : (so : Bool) (b : Best) → sooner new b ≡ so → takes x ≡ true → Leads xs b → Leads (xs ++ (x ∷ [])) (cond so new b)
    unfolding new
    by_order true b order part leads =
        takes_over xs x part
        (λ j d inside other.
        precedes_all (deadline x) (number x) (length xs) b.deadline b.number b.position (deadline (get_or xs j d)) (number (get_or xs j d)) j
        (sooner_tells new b order)
        (⊎_elim inl (λ ne. inr (rw (leads.deadlines d, leads.numbers d) (leads.first.2 j d inside ne other))) (cases_eq j b.position))
        (λ e. (ap (λ (m : ℕ). deadline (get_or xs m d)) e ∙ sym (leads.deadlines d), ap (λ (m : ℕ). number (get_or xs m d)) e ∙ sym (leads.numbers d))))
    by_order false b order part leads =
        stays xs x b (λ _. precedes_new b.deadline b.number b.position (deadline x) (number x) (length xs) (not_sooner_tells new b order) leads.first.0) leads

    by_mark : (part : Bool) (best : Option Best) → takes x ≡ part → Known xs best → Known (xs ++ (x ∷ [])) (cond part (against best new) best)
    unfolding new
    by_mark false None mark known = All-append (λ y. takes y ≡ false) xs (x ∷ []) known (mark, tt)
    by_mark false (Some b) mark known = stays xs x b (λ part. absurd (both_ways (takes x) mark part)) known
    by_mark true None mark known =
        takes_over xs x mark (λ j d inside other. absurd (both_ways (takes (get_or xs j d)) (All-get_or (λ y. takes y ≡ false) xs j d inside known) other))
    by_mark true (Some b) mark known = by_order (sooner new b) b refl mark known

    known_more : (best : Option Best) → Known xs best → Known (xs ++ (x ∷ [])) (after deadline number takes best (length xs) x)
    unfolding new
    known_more best known = by_mark (takes x) best refl known

  known_all : (more xs : List C) (best : Option Best) → Known xs best → Known (xs ++ more) (after_all deadline number takes best (length xs) more)
  known_all [] xs best known = subst (λ (ys : List C). Known ys best) (sym (append-nil xs)) known
  known_all (x ∷ more) xs best known =
      let best' = after deadline number takes best (length xs) x in
      let rest = known_all more (xs ++ (x ∷ [])) best' (known_more xs x best known) in
      let next : length (xs ++ (x ∷ [])) ≡ suc (length xs) = length_push xs x ∙ add-one (length xs) in
      let placed = subst (λ (i : ℕ). Known ((xs ++ (x ∷ [])) ++ more) (after_all deadline number takes best' i more)) next rest in
      subst (λ (ys : List C). Known ys (after_all deadline number takes best' (suc (length xs)) more)) (append_assoc xs (x ∷ []) more) placed

  known_tells : (xs : List C) (best : Option Best) → Known xs best → IsEarliest deadline number takes xs (position_of best)
  known_tells xs None known = known
  known_tells xs (Some b) known = known.first

  pub is_earliest : (xs : List C) → IsEarliest deadline number takes xs (earliest_of deadline number takes xs)
  is_earliest xs = known_tells xs (after_all deadline number takes None 0 xs) (known_all xs [] None tt)

  -- one turn of the loop
  pub one_more : (xs : List C) (best : Option Best) (i : ℕ) (x : C) → i < length xs → x ≡ get_or xs i x → after_all deadline number takes best i (drop i xs) ≡ after_all deadline number takes (after deadline number takes best i x) (i + 1) (drop (i + 1) xs)
  one_more xs best i x inside is =
      at_drop_more (after_all deadline number takes best i) xs i x inside
      ∙ ap (λ (y : C). after_all deadline number takes (after deadline number takes best i y) (suc i) (drop (i + 1) xs)) (sym is)
      ∙ ap (λ (m : ℕ). after_all deadline number takes (after deadline number takes best i x) m (drop (i + 1) xs)) (sym (add-one i))

  -- who is found is among the records
  pub found_inside : (xs : List C) (k : ℕ) → earliest_of deadline number takes xs ≡ Some k → k < length xs
  found_inside xs k found = (subst (IsEarliest deadline number takes xs) found (is_earliest xs)).0
