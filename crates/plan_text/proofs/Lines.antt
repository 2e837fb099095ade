-- The lines of a text, read one after another.
use Rattle.std.proofs.Common.{◌≡◌, ℕ, Option, Some, None, subst, [], ◌+◌, Bool, false, Bor, List, ◌∷◌, Ok, Err, Result, sym, refl, ap}
use Rattle.std.specs.Fn.{CalledAt, Mut}
use Rattle.std.specs.Iterator.Adapters.{enumerate_source, enumerate_count, enumerate_steps}
use Rattle.std.specs.List.{enumerate_from}
use Rattle.std.specs.Slice.Iter.{split_rest, split_done, split_callee, split_steps}
use Rattle.std.specs.declared.iter.Enumerate.{Enumerate}
use Rattle.std.specs.declared.slice.Split.{Split}
use Rattle.std.proofs.lemmas.Iterator.{YieldsList}
use Rattle.std.proofs.lemmas.Iterator.Consumers.{YieldsList-at, YieldsList-from_enumerate}
use Rattle.std.proofs.lemmas.Iterator.Splits.{YieldsList-from_slice_split}
use Rattle.plan.specs.declared.terms.Terms.{Terms}
use Rattle.plan_text.specs.declared.fault.LineFault.{LineFault}
use Rattle.plan_text.specs.Bytes.{newline}
use Rattle.plan_text.specs.Words.{lines_of}
use Rattle.plan_text.specs.Reading.{rows_after_line, rows_after_lines, answer_of, rows_or}

module _ {E : Type 0} where
  pub err_answer : (x : Result (List Terms) E) (f : E) → Err f ≡ answer_of x → x ≡ Err f
  err_answer (Ok rows) f e = cc
  err_answer (Err g) f e = cc

  pub ok_answer : (x : Result (List Terms) E) (rows old : List Terms) → Ok tt ≡ answer_of x → rows ≡ rows_or x old → x ≡ Ok rows
  ok_answer (Ok more) rows old e h = cc
  ok_answer (Err g) rows old e h = cc

-- the lines with their numbers, counted from 0, as an iterator gives them
pub numbered : {F : Type 0} {t s : Enumerate (Split ℕ F)} {r : Split ℕ F} (g : Mut F (Bor ℕ × Unit {0}) Bool) {f : F} (text : List ℕ) → t ≡ s → enumerate_source s ≡ r → enumerate_count s ≡ 0 → split_rest r ≡ text → split_done r ≡ false → split_callee r ≡ f → ((b : ℕ) (x : Bool) (q : F) → CalledAt g f b x q → (q ≡ f) × (x ≡ newline b)) → YieldsList (enumerate_steps (split_steps g)) (λ p. (p.0, p.1.now)) t (enumerate_from 0 (lines_of text))
numbered g text into source count rest done closure test = YieldsList-at into (YieldsList-from_enumerate (YieldsList-at source (YieldsList-from_slice_split g newline text rest done closure test)) count)

-- a call of next on an iterator that has these lines left, of which the first has number n
module _ {S : Type 0} {steps : S → Option (ℕ × Bor (List ℕ)) → S → Type 0} (n : ℕ) where
  pub next_line : (lines : List (List ℕ)) (s t : S) (o : Option (ℕ × Bor (List ℕ))) (x : ℕ × Bor (List ℕ)) → YieldsList steps (λ p. (p.0, p.1.now)) s (enumerate_from n lines) → o ≡ Some x → steps s o t
      → (more : List (List ℕ)) × (lines ≡ x.1.now ∷ more) × (n ≡ x.0) × YieldsList steps (λ p. (p.0, p.1.now)) t (enumerate_from (n + 1) more)
  next_line [] s t o x left is gave = absurd (left.runs x t (subst (λ r. steps s r t) is gave))
  next_line (line ∷ lines) s t o x left is gave =
      let read = left.runs.1 x t (subst (λ r. steps s r t) is gave) in
      (lines, ap (λ p. p.1 ∷ lines) (sym read.0), ap (λ p. p.0) (sym read.0), record { runs = read.1 })

  pub no_line : (lines : List (List ℕ)) (s t : S) (o : Option (ℕ × Bor (List ℕ))) → YieldsList steps (λ p. (p.0, p.1.now)) s (enumerate_from n lines) → o ≡ None → steps s o t → lines ≡ []
  no_line [] s t o left is gave = refl
  no_line (line ∷ lines) s t o left is gave = absurd (left.runs.0 t (subst (λ r. steps s r t) is gave))

pub line_more : (n : ℕ) (rows more : List Terms) (line : List ℕ) (lines : List (List ℕ)) → rows_after_line rows line ≡ Ok more → rows_after_lines n rows (line ∷ lines) ≡ rows_after_lines (n + 1) more lines
line_more n rows more line lines ok = rw (ok, rows_after_lines) refl

pub line_fault : (n : ℕ) (rows : List Terms) (f : LineFault) (line : List ℕ) (lines : List (List ℕ)) → rows_after_line rows line ≡ Err f → rows_after_lines n rows (line ∷ lines) ≡ Err (record { line = n + 1; fault = f })
line_fault n rows f line lines err = rw (err, rows_after_lines) refl
