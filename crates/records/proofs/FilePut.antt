-- Row after row, the packed form grows at the front of the buffer, and the rest of the buffer stays.
use Rattle.std.proofs.Common.{◌≡◌, ℕ, ◌+◌, ◌*◌, ◌<◌, List, [], ◌∷◌, ◌++◌, length, get_or, take, drop, sym, refl, ap, ◌∙◌, append_assoc, arith}
use Rattle.std.specs.List.{flat_map}
use Rattle.std.proofs.lemmas.List.{take_at, drop_at, drop-drop, take_more, flat_map_more, length-take-le}
use Rattle.plan.specs.declared.terms.Terms.{Terms}
use Rattle.plan.specs.Terms.{blank}
use Rattle.records.specs.Packed.{packed_row, packed_plan, packed_length}

pub length_rows : (rows : List Terms) → length (flat_map packed_row rows) ≡ 4 * length rows
length_rows [] = refl
length_rows (t ∷ rows) = omega (arith, length_rows rows)

pub length_packed : (rows : List Terms) → length (packed_plan rows) ≡ packed_length (length rows)
length_packed rows = omega (arith, length_rows rows)

-- one row more behind the first k, in a buffer that has room for it
pub row_more : (rows : List Terms) (b : List ℕ) (n k : ℕ) → k < length rows → take (1 + 4 * k) ((n ∷ flat_map packed_row (take k rows)) ++ drop (1 + 4 * k) b) ++ (packed_row (get_or rows k blank) ++ drop (1 + 4 * k + 4) ((n ∷ flat_map packed_row (take k rows)) ++ drop (1 + 4 * k) b)) ≡ (n ∷ flat_map packed_row (take (k + 1) rows)) ++ drop (1 + 4 * (k + 1)) b
row_more rows b n k inside =
    let front = n ∷ flat_map packed_row (take k rows) in
    let t = get_or rows k blank in
    let s = front ++ drop (1 + 4 * k) b in
    let long : length front ≡ 1 + 4 * k = omega (arith, length_rows (take k rows), length-take-le k rows (omega arith)) in
    let kept : take (1 + 4 * k) s ≡ front = take_at front (drop (1 + 4 * k) b) (1 + 4 * k) long in
    let rest : drop (1 + 4 * k + 4) s ≡ drop (1 + 4 * (k + 1)) b =
    sym (drop-drop 4 (1 + 4 * k) s)
    ∙ ap (drop 4) (drop_at front (drop (1 + 4 * k) b) (1 + 4 * k) long)
    ∙ drop-drop 4 (1 + 4 * k) b
    ∙ ap (λ (m : ℕ). drop m b) (next k) in
    let grown : front ++ packed_row t ≡ n ∷ flat_map packed_row (take (k + 1) rows) =
    flat_map_more packed_row (n ∷ []) (take k rows) t ∙ ap (λ (xs : List Terms). n ∷ flat_map packed_row xs) (sym (take_more rows k blank inside)) in
    ap (λ (xs : List ℕ). xs ++ (packed_row t ++ drop (1 + 4 * k + 4) s)) kept
    ∙ ap (λ (xs : List ℕ). front ++ (packed_row t ++ xs)) rest
    ∙ sym (append_assoc front (packed_row t) (drop (1 + 4 * (k + 1)) b))
    ∙ ap (λ (xs : List ℕ). xs ++ drop (1 + 4 * (k + 1)) b) grown
  where
    next : (k : ℕ) → 1 + 4 * k + 4 ≡ 1 + 4 * (k + 1)
    next k = omega arith
