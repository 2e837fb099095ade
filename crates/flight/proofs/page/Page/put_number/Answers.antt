use Rattle.std.proofs.Common.{◌≡◌, ℕ, zero, suc, ◌+◌, ◌<◌, List, [], ◌∷◌, ◌++◌, length, take, get_or, decimal, sym, refl, ap, ◌∙◌, arith}
use Rattle.std.proofs.lemmas.Fmt.{decimal_digit, decimal_nonempty}
use Rattle.std.proofs.lemmas.List.{take_all, take_more}
use Rattle.flight.specs.Page.{fitting}
use Rattle.flight.proofs.Fitting.{grown}
use Rattle.flight.proofs.page.Page.put_number.Goals as goal

-- one digit more
digit_more : (before middle after digits : List ℕ) (i : ℕ) → i < length digits → (i ≡ 0 → middle ≡ before) → (0 < i → middle ≡ fitting (before ++ take i digits)) → after ≡ fitting (middle ++ get_or digits i 0 ∷ []) → after ≡ fitting (before ++ take (i + 1) digits)
digit_more before middle after digits zero within untouched written put = rw (take_more digits 0 0 within, ← untouched refl) put
digit_more before middle after digits (suc i) within untouched written put =
    rw (take_more digits (suc i) 0 within) (grown before middle after (take (suc i) digits) (get_or digits (suc i) 0 ∷ []) (written (omega arith)) put)

pub returns-then-n-lt10 : goal.returns-then-n-lt10
returns-then-n-lt10 c = c.put.ensures ∙ ap (λ (digits : List ℕ). fitting (c.args.self.now ++ digits)) (sym (decimal_digit c.args.n (omega arith)))

pub loop-digit-preserved : goal.loop-digit-preserved
loop-digit-preserved c =
    record {
      untouched = λ none. absurd (omega arith);
      written = λ _. digit_more c.args.self.now c.loop-digit.self c.put-in-loop-digit.new.self c.as_bytes-digits.result.now c.loop-digit.digit-index (omega arith) c.loop-digit.invariant.untouched c.loop-digit.invariant.written c.put-in-loop-digit.ensures;
    }

pub returns : goal.returns
returns c =
    let digits = c.as_bytes-digits.result.now in
    let is : digits ≡ decimal c.args.n = c.as_bytes-digits.ensures.value ∙ c.format.ensures.text in
    let all = take_all c.loop-digit.digit-index digits (omega arith) in
    c.loop-digit.invariant.written (omega (arith, decimal_nonempty c.args.n (omega arith), ap length is))
    ∙ ap (λ (text : List ℕ). fitting (c.args.self.now ++ text)) (all ∙ is)
