-- A plan is the list of its rows, and `add` is the one way to a longer one.
use Rattle.std.specs.Prelude.{ℕ, ◌+◌, cond, List, [], ◌∷◌, ◌++◌, length, take, Some, None, Ok, Err, sum_by, Option, Result, nat_le, nat_lt, slice_index_or}
use Rattle.plan.specs.declared.table.Plan.{Plan}
use Rattle.plan.specs.declared.terms.Terms.{Terms}
use Rattle.plan.specs.declared.fault.PlanFault.{PlanFault}
use Rattle.plan.specs.declared.fault.PlanFault.TheVariants.{Full, Period, Budget, Weight}
use Rattle.plan.specs.Terms.{common_multiple, most_rows, weight_of, bad_period, bad_budget, blank}

-- the rows of a plan, in the order of their numbers
abbrev pub rows_of : Plan → List Terms
rows_of p = take p.count p.rows

-- the row with this number, if there is one
abbrev pub row_at : List Terms → ℕ → Option Terms
row_at rows n = cond (nat_lt n (length rows)) (Some (slice_index_or rows n blank)) None

-- what the rows weigh together
abbrev pub load_of : List Terms → ℕ
load_of rows = sum_by weight_of rows

-- why rows take no further row with the terms t: the first reason that applies
abbrev pub refusal : List Terms → Terms → Option PlanFault
refusal rows t =
    cond (nat_le most_rows (length rows)) (Some Full)
    (cond (bad_period t.period) (Some Period)
    (cond (bad_budget t.budget t.period) (Some Budget)
    (cond (nat_lt common_multiple (load_of rows + weight_of t)) (Some Weight) None)))

-- what `add` answers where it has this reason to refuse, or none: the new row's number, or the refusal
abbrev pub answer_for : Option PlanFault → List Terms → Result ℕ PlanFault
answer_for None rows = Ok (length rows)
answer_for (Some f) rows = Err f

-- the rows where `add` has this reason to refuse, or none: one more at the end, or the same
abbrev pub rows_for : Option PlanFault → List Terms → Terms → List Terms
rows_for None rows t = rows ++ (t ∷ [])
rows_for (Some f) rows t = rows

-- what `add` answers
abbrev pub added : List Terms → Terms → Result ℕ PlanFault
added rows t = answer_for (refusal rows t) rows

-- the rows after `add`
abbrev pub rows_after : List Terms → Terms → List Terms
rows_after rows t = rows_for (refusal rows t) rows t
