-- What `take_while` and `count` give together: how many bytes at the front pass.
use Rattle.std.proofs.Common.{◌≡◌, ℕ, Bool, false, Bor, List, length, Option, ◌∙◌}
use Rattle.std.specs.Fn.{CalledAt, Mut}
use Rattle.std.specs.Iterator.{Drains}
use Rattle.std.specs.Iterator.Adapters.{take_while_source, take_while_done, take_while_callee, take_while_steps}
use Rattle.std.specs.List.{prefix_len}
use Rattle.std.specs.declared.iter.TakeWhile.{TakeWhile}
use Rattle.std.proofs.lemmas.Iterator.{YieldsList}
use Rattle.std.proofs.lemmas.Iterator.Consumers.{YieldsList-at, count_from_yields_List}
use Rattle.std.proofs.lemmas.Iterator.Search.{YieldsList-from_take_while}
use Rattle.std.proofs.lemmas.List.Folds.{length-prefix_len}

pub counted : {S F : Type 0} {steps : S → Option (Bor ℕ) → S → Type 0} {source : S} {s : TakeWhile S F} {f : F} (g : Mut F (Bor (Bor ℕ) × Unit {0}) Bool) (pass : ℕ → Bool) (bytes : List ℕ) (n : ℕ)
    → YieldsList steps (λ b. b.now) source bytes → take_while_source s ≡ source → take_while_callee s ≡ f → take_while_done s ≡ false → ((x : Bor ℕ) (b : Bool) (q : F) → CalledAt g f x b q → (q ≡ f) × (b ≡ pass x.now))
    → ((xs : List (Bor ℕ)) × Drains (take_while_steps steps g) s xs × (n ≡ length xs)) → n ≡ prefix_len pass bytes
counted g pass bytes n road source closure done tells ran = count_from_yields_List _ n ran (YieldsList-from_take_while g pass (YieldsList-at source road) closure done tells) ∙ length-prefix_len pass bytes
