-- A tick over an executive keeps the bound.
use Rattle.std.proofs.Common.{◌≡◌, ℕ, suc, Bool, List, map, Option, sym, ap, ◌∙◌, subst}
use Rattle.server.specs.declared.row.Row.{Row}
use Rattle.server.specs.declared.turn.Payment.{Payment}
use Rattle.server.specs.Turn.{Choice, runner_of, payment_of}
use Rattle.server.specs.Tick.{paid, finished_by, passed, settled, ticked}
use Rattle.server.specs.Demand.{Sound, Inside}
use Rattle.server.proofs.Bound.{tick_keeps}

pub tick_sound : (choice : Choice) (t : ℕ) (finished : Bool) (rows : List Row) → Inside choice → Sound t rows
    → (runner : Option ℕ) (payment : Option Payment) → runner ≡ runner_of choice t rows → payment ≡ payment_of choice t rows (runner_of choice t rows)
    → (u : ℕ) (after : List Row) → u ≡ suc t → after ≡ map (passed u) (finished_by finished t runner (paid t payment rows)) → Sound u after
tick_sound choice t finished rows inside sound runner payment runs pays u after next made =
    let settles : finished_by finished t runner (paid t payment rows) ≡ settled choice t finished rows =
    ap (λ (p : Option Payment). finished_by finished t runner (paid t p rows)) pays
    ∙ ap (λ (k : Option ℕ). finished_by finished t k (paid t (payment_of choice t rows (runner_of choice t rows)) rows)) runs in
    let is : after ≡ ticked choice t finished rows =
    made ∙ ap (λ (n : ℕ). map (passed n) (finished_by finished t runner (paid t payment rows))) next ∙ ap (map (passed (suc t))) settles in
    subst (λ (n : ℕ). Sound n after) (sym next) (subst (Sound (suc t)) (sym is) (tick_keeps choice t finished rows inside sound))
