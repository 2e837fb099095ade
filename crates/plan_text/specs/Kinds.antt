-- The words for the kinds of servers.
use Rattle.std.specs.Prelude.{ℕ, cond, List, Some, None, codes, Option}
use Rattle.std.specs.Str.{bytes_eq}
use Rattle.plan.specs.declared.terms.Kind.{Kind}
use Rattle.plan.specs.declared.terms.Kind.TheVariants.{NonIsolated, Isolated}

abbrev pub kind_word : Kind → List ℕ
kind_word NonIsolated = codes "shared"
kind_word Isolated = codes "isolated"

-- the kind that a word names, if it names one
abbrev pub kind_of : List ℕ → Option Kind
kind_of word =
    cond (bytes_eq word (kind_word Isolated)) (Some Isolated)
    (cond (bytes_eq word (kind_word NonIsolated)) (Some NonIsolated) None)
