-- A line, from its first word on.
use Rattle.std.proofs.Common.{◌≡◌, ℕ, suc, Bool, true, false, not, eqb, List, [], ◌∷◌, length, Bor, Option, Some, None, sym, refl, ap, ◌∙◌, one-add, arith}
use Rattle.std.specs.Bool.{then_some}
use Rattle.std.specs.List.{onto_first}
use Rattle.std.specs.Option.{option_copied}
use Rattle.std.proofs.lemmas.Bool.{ne_eqb}
use Rattle.plan_text.specs.Bytes.{blank, front, back}
use Rattle.plan_text.specs.Words.{split, non_empty, words_in, with_taken}
use Rattle.plan_text.specs.Reading.{terms_of, terms_of_taken}

-- what is left to split where a piece ended: nothing at the end, else what follows the byte at the cut
abbrev pub past_cut : (ℕ → Bool) → List ℕ → List (List ℕ)
past_cut at [] = []
past_cut at (b ∷ bs) = split at bs

-- the first piece reaches to the first cut
abbrev Cut : (ℕ → Bool) → List ℕ → Type 0
Cut at bs = split at bs ≡ front (λ b. not (at b)) bs ∷ past_cut at (back (λ b. not (at b)) bs)

cut_more : (at : ℕ → Bool) (b : ℕ) (bs : List ℕ) (r : Bool) → at b ≡ r → Cut at bs → Cut at (b ∷ bs)
cut_more at b bs true e rest = rw e
cut_more at b bs false e rest = rw (e, one-add) (ap (onto_first b) rest)

pub split_first : (at : ℕ → Bool) (bs : List ℕ) → Cut at bs
split_first at [] = refl
split_first at (b ∷ bs) = cut_more at b bs (at b) refl (split_first at bs)

-- one word in front of the others, where the word is not empty; else there are none
abbrev with_word : List ℕ → List (List ℕ) → List (List ℕ)
with_word [] ws = []
with_word (b ∷ w) ws = (b ∷ w) ∷ ws

module _ (at : ℕ → Bool) where
  -- the words of bs, from its first one on
  abbrev Words : List ℕ → Type 0
  Words bs = non_empty (split at bs) ≡ with_word (front (λ b. not (at b)) (back at bs)) (non_empty (split at (back (λ b. not (at b)) (back at bs))))

  -- the byte at a cut starts no word
  abbrev Past : List ℕ → Type 0
  Past bs = non_empty (past_cut at (back (λ b. not (at b)) bs)) ≡ non_empty (split at (back (λ b. not (at b)) bs))

  past_more : (b : ℕ) (bs : List ℕ) (r : Bool) → at b ≡ r → Past bs → Past (b ∷ bs)
  past_more b bs true e rest = rw (e, e)
  past_more b bs false e rest = rw (e, one-add) rest

  past_cut_lem : (bs : List ℕ) → Past bs
  past_cut_lem [] = refl
  past_cut_lem (b ∷ bs) = past_more b bs (at b) refl (past_cut_lem bs)

  words_more : (b : ℕ) (bs : List ℕ) (r : Bool) → at b ≡ r → Words bs → Words (b ∷ bs)
  words_more b bs true e rest = rw (e, one-add) rest
  words_more b bs false e rest =
      rw (e, e, one-add)
      (ap (λ ps. non_empty (onto_first b ps)) (split_first at bs)
      ∙ ap (λ ws. (b ∷ front (λ x. not (at x)) bs) ∷ ws) (past_cut_lem bs))

  words_first : (bs : List ℕ) → Words bs
  words_first [] = refl
  words_first (b ∷ bs) = words_more b bs (at b) refl (words_first bs)

-- the length of a word that is not empty passes no test for 0
some_word : (n : ℕ) → eqb (suc n) 0 ≡ false
some_word n = ne_eqb (suc n) 0 (λ e. omega arith)

-- a word is taken where it is not empty
taken : (w : Bor (List ℕ)) (word : List ℕ) (ws : List (List ℕ)) → w.now ≡ word → with_word word ws ≡ with_taken (option_copied (then_some (not (eqb (length word) 0)) w)) ws
taken w [] ws is = refl
taken w (b ∷ bs) ws is = rw (some_word (length bs)) (ap (λ (x : List ℕ). x ∷ ws) (sym is))

pub word_taken : (bs : List ℕ) (w : Bor (List ℕ)) (rest : List ℕ) → w.now ≡ front (λ b. not (blank b)) (back blank bs) → rest ≡ back (λ b. not (blank b)) (back blank bs) → words_in bs ≡ with_taken (option_copied (then_some (not (eqb (length w.now) 0)) w)) (words_in rest)
word_taken bs w rest first others =
    words_first blank bs ∙ (λ i. with_word (sym first i) (words_in (sym others i))) ∙ taken w w.now (words_in rest) refl

-- what four words in turn were suffices to tell what a line stands for
pub four_taken : (o₁ o₂ o₃ o₄ : Option (List ℕ)) (more : List (List ℕ)) → terms_of (with_taken o₁ (with_taken o₂ (with_taken o₃ (with_taken o₄ more)))) ≡ terms_of_taken o₁ o₂ o₃ o₄
four_taken None o₂ o₃ o₄ more = refl
four_taken (Some k) None o₃ o₄ more = refl
four_taken (Some k) (Some q) None o₄ more = refl
four_taken (Some k) (Some q) (Some t) None more = refl
four_taken (Some k) (Some q) (Some t) (Some u) more = refl
