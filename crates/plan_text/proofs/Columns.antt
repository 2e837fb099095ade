-- What the options of a format print: numbers and texts in columns.
use Rattle.std.proofs.Common.{◌≡◌, ℕ, zero, suc, ◌+◌, ◌-◌, ◌/◌, ◌%◌, ◌^◌, ◌<◌, ◌≤◌, true, false, ◌||◌, ltb, eqb, List, [], ◌∷◌, ◌++◌, length, replicate, decimal, ⊎_elim, sym, refl, ap, arith, append-nil, one-add, lit<, length-append}
use Rattle.std.specs.Fmt.{padded, padded_integral, styled_decimal, styled_text, format_spec, char_count, take_chars, is_char_start}
use Rattle.std.specs.List.{repeat}
use Rattle.std.specs.Str.{IsAscii}
use Rattle.std.proofs.lemmas.Bool.{lt-ltb, ne_eqb, cases_lt}
use Rattle.std.proofs.lemmas.Fmt.{IsAscii-decimal, decimal_digit, decimal_step, length-decimal-le}
use Rattle.std.proofs.lemmas.Str.{IsAscii-drop, IsAscii-append}
use Rattle.std.proofs.lemmas.Str.Ascii.{IsAscii-cons}
use lib.Utf8.{encode}
use Rattle.plan.specs.declared.terms.Kind.{Kind}
use Rattle.plan.specs.declared.terms.Kind.TheVariants.{NonIsolated, Isolated}
use Rattle.plan_text.specs.Kinds.{kind_word}
use Rattle.plan_text.specs.Table.{pad_left, pad_right, hundredths}

repeat_one : (n b : ℕ) → repeat n (b ∷ []) ≡ replicate n b
repeat_one zero b = refl
repeat_one (suc n) b = ap (λ l. b ∷ l) (repeat_one n b)

-- a number at the right of a column
number_padded : (width : ℕ) (digits : List ℕ) → padded_integral (format_spec 32 3 0 width (2 ^ 64 - 1)) false [] digits ≡ pad_left width digits
unfolding padded_integral char_count encode
number_padded width digits =
    let gap : width - length digits - 0 - 0 ≡ width - length digits = omega arith in
    let none : width - length digits - (width - length digits) ≡ 0 = omega arith in
    rw (gap, none, repeat_one (width - length digits) 32) (simp append-nil refl)

pub number_column : {spec : _} (width n : ℕ) → 0 < width → spec ≡ format_spec 32 3 0 width (2 ^ 64 - 1) → styled_decimal spec n ≡ pad_left width (decimal n)
number_column width n some is = rw (is, ne_eqb width 0 (λ e. omega (arith, e, some))) (number_padded width (decimal n))

-- a character of ASCII is one byte
ascii_start : (b : ℕ) → b < 128 → is_char_start b ≡ true
ascii_start b low = ap (λ t. t || ltb 191 b) (lt-ltb b 128 low)

char_count_ascii : (text : List ℕ) → IsAscii text → char_count text ≡ length text
unfolding char_count
char_count_ascii [] ascii = refl
char_count_ascii (b ∷ text) ascii = rw (ascii_start b (ascii 0), one-add) (ap suc (char_count_ascii text (IsAscii-drop (b ∷ text) 1 ascii)))

take_chars_ascii : (n : ℕ) (text : List ℕ) → IsAscii text → length text ≤ n → take_chars n text ≡ text
unfolding take_chars
take_chars_ascii n [] ascii short = refl
take_chars_ascii n (b ∷ text) ascii short =
    let some : eqb n 0 ≡ false = ne_eqb n 0 (λ e. omega (arith, e, short)) in
    rw (ascii_start b (ascii 0), some) (ap (λ l. b ∷ l) (take_chars_ascii (n - 1) text (IsAscii-drop (b ∷ text) 1 ascii) (omega (arith, short))))

-- a text at the right of a column
text_padded : (width : ℕ) (text : List ℕ) → IsAscii text → length text < 2 ^ 64 → padded (format_spec 32 3 0 width (2 ^ 64 - 1)) text ≡ pad_left width text
unfolding padded encode
text_padded width text ascii short =
    let none : width - length text - (width - length text) ≡ 0 = omega arith in
    rw (take_chars_ascii (2 ^ 64 - 1) text ascii (omega (arith, short)), char_count_ascii text ascii, none, repeat_one (width - length text) 32) (simp append-nil refl)

hundredths_ascii : (n : ℕ) → n < 2 ^ 64 → IsAscii (hundredths n)
hundredths_ascii n fits = IsAscii-append _ _ (IsAscii-decimal (n / 100) (omega (arith, fits))) (IsAscii-cons 46 _ (lit< tt) (IsAscii-append _ _ (IsAscii-decimal (n / 10 % 10) (omega arith)) (IsAscii-decimal (n % 10) (omega arith))))

hundredths_short : (n : ℕ) → n < 2 ^ 64 → length (hundredths n) < 2 ^ 64
hundredths_short n fits =
    let whole : n / 100 < 2 ^ 64 = omega (arith, fits) in
    let long = length-decimal-le 20 (n / 100) (lit< tt) (omega (arith, whole)) whole in
    rw (decimal_digit (n / 10 % 10) (omega arith), decimal_digit (n % 10) (omega arith), length-append) (omega (arith, long))

pub hundredths_column : {spec : _} (width n : ℕ) (text : List ℕ) → 0 < width → n < 2 ^ 64 → spec ≡ format_spec 32 3 0 width (2 ^ 64 - 1) → text ≡ hundredths n → styled_text spec text ≡ pad_left width (hundredths n)
hundredths_column width n text some fits spec is = rw (spec, is, ne_eqb width 0 (λ e. omega (arith, e, some))) (text_padded width (hundredths n) (hundredths_ascii n fits) (hundredths_short n fits))

-- the word for a kind at the left of its column
pub kind_column : {spec : _} (kind : Kind) (text : List ℕ) → spec ≡ format_spec 32 1 0 8 (2 ^ 64 - 1) → text ≡ kind_word kind → styled_text spec text ≡ pad_right 8 (kind_word kind)
unfolding padded encode char_count take_chars
kind_column NonIsolated text spec is = rw (spec, is) refl
kind_column Isolated text spec is = rw (spec, is) refl

low_digit : (n : ℕ) → n % 10 < 10
low_digit n = omega arith

-- the two decimals of hundredths
pub two_decimals : {spec : _} (n : ℕ) → spec ≡ format_spec 32 0 4 2 (2 ^ 64 - 1) → styled_decimal spec (n % 100) ≡ decimal (n / 10 % 10) ++ decimal (n % 10)
unfolding padded_integral char_count
two_decimals n spec = rw spec (⊎_elim
    (λ one.
    let high : n / 10 % 10 ≡ 0 = omega (arith, one) in
    let low : n % 100 ≡ n % 10 = omega (arith, one) in
    rw (high, low, decimal_digit (n % 10) (low_digit n)) (ap (λ l. l ++ ((48 + n % 10) ∷ [])) (sym (decimal_digit 0 (lit< tt)))))
    (λ two.
    let high : n % 100 / 10 ≡ n / 10 % 10 = omega (arith, two) in
    let low : n % 100 % 10 ≡ n % 10 = omega (arith, two) in
    let small : n % 100 < 2 ^ 64 = omega arith in
    rw (decimal_step (n % 100) two small, high, low, decimal_digit (n / 10 % 10) (low_digit (n / 10)), decimal_digit (n % 10) (low_digit n)))
    (cases_lt (n % 100) 10))
