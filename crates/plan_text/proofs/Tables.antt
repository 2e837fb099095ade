-- The lines of a table, one after another.
use Rattle.std.proofs.Common.{◌≡◌, ℕ, ◌+◌, ◌<◌, ◌≤◌, List, ◌++◌, length, get_or, drop, codes, decimal, sym, ap, ◌∙◌, append_assoc, append-nil, refl}
use Rattle.std.proofs.lemmas.List.{at_drop_more, at_drop_all}
use Rattle.plan.specs.declared.terms.Terms.{Terms}
use Rattle.plan.specs.Terms.{blank, weight_of}
use Rattle.plan_text.specs.Kinds.{kind_word}
use Rattle.plan_text.specs.Table.{pad_left, pad_right, hundredths, milliseconds_of, share_of, heading, row_line, row_lines, sum_lines, table_by}

-- out has the lines of the rows before i
abbrev pub Sofar : List Terms → ℕ → List ℕ → Type 0
Sofar rows i out = out ++ row_lines i (drop i rows) ≡ row_lines 0 rows

pub row_more : (rows : List Terms) (i : ℕ) (out line next : List ℕ) → i < length rows → line ≡ row_line i (get_or rows i blank) → next ≡ out ++ line → Sofar rows i out → Sofar rows (i + 1) next
row_more rows i out line next within is adds sofar =
    ap (λ l. l ++ row_lines (i + 1) (drop (i + 1) rows)) (adds ∙ ap (λ l. out ++ l) is)
    ∙ append_assoc out (row_line i (get_or rows i blank)) _
    ∙ ap (λ l. out ++ l) (sym (at_drop_more (row_lines i) rows i blank within))
    ∙ sofar

pub row_all : (rows : List Terms) (i : ℕ) (out : List ℕ) → length rows ≤ i → Sofar rows i out → out ≡ row_lines 0 rows
row_all rows i out past sofar = sym (append-nil out) ∙ ap (λ l. out ++ l) (sym (at_drop_all (row_lines i) rows i past)) ∙ sofar

pub table_lines : (rows : List Terms) (load free file : ℕ) (lines sums text : List ℕ) → lines ≡ row_lines 0 rows → sums ≡ sum_lines load free → text ≡ heading ++ (lines ++ (sums ++ (codes "file " ++ (decimal file ++ codes " bytes\n")))) → text ≡ table_by rows load free file
table_lines rows load free file lines sums text p q is =
    is ∙ (λ i. heading ++ (p i ++ (q i ++ (codes "file " ++ (decimal file ++ codes " bytes\n")))))

pub row_printed : (server : ℕ) (t : Terms) (number kind budget period milliseconds weight percent text : List ℕ)
    → number ≡ pad_left 6 (decimal server) → kind ≡ pad_right 8 (kind_word t.kind) → budget ≡ pad_left 8 (decimal t.budget) → period ≡ pad_left 7 (decimal t.period)
    → milliseconds ≡ pad_left 11 (hundredths (milliseconds_of t.period)) → weight ≡ pad_left 8 (decimal (weight_of t)) → percent ≡ pad_left 10 (hundredths (share_of (weight_of t)))
    → text ≡ number ++ (codes "  " ++ (kind ++ (budget ++ (period ++ (milliseconds ++ (weight ++ (percent ++ codes "\n")))))))
    → text ≡ row_line server t
row_printed server t number kind budget period milliseconds weight percent text a b c d e f g is =
    is ∙ (λ i. a i ++ (codes "  " ++ (b i ++ (c i ++ (d i ++ (e i ++ (f i ++ (g i ++ codes "\n"))))))))

pub sums_printed : (load free : ℕ) (total taken rest left text : List ℕ)
    → total ≡ pad_left 44 (decimal load) → taken ≡ pad_left 10 (hundredths (share_of load)) → rest ≡ pad_left 44 (decimal free) → left ≡ pad_left 10 (hundredths (share_of free))
    → text ≡ codes " total" ++ (total ++ (taken ++ (codes "\n  free" ++ (rest ++ (left ++ codes "\n")))))
    → text ≡ sum_lines load free
sums_printed load free total taken rest left text a b c d is =
    is ∙ (λ i. codes " total" ++ (a i ++ (b i ++ (codes "\n  free" ++ (c i ++ (d i ++ codes "\n")))))) ∙ simp append_assoc refl
