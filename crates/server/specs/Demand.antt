-- The demand bound: what every row may still be charged, up to any horizon, fits the ticks that are left.
use Rattle.std.specs.Prelude.{◌≡◌, ℕ, suc, ◌+◌, ◌-◌, ◌*◌, ◌/◌, ◌%◌, ◌<◌, ◌≤◌, Bool, cond, List, length, Some, sum_by, nat_le, slice_index_or}
use Rattle.std.specs.List.{AllByRecursion}
use Rattle.plan.specs.declared.terms.Kind.TheVariants.{Isolated}
use Rattle.plan.specs.declared.terms.Terms.{Terms}
use Rattle.plan.specs.Terms.{common_multiple, weight_of}
use Rattle.donor.specs.declared.offer.Offer.{Offer}
use Rattle.server.specs.declared.row.Phase.{Phase}
use Rattle.server.specs.declared.row.Phase.TheVariants.{Resting, AtWork, Supplying}
use Rattle.server.specs.declared.row.Row.{Row}
use Rattle.server.specs.Turn.{Choice, blank_row}
use Rattle.server.specs.Tick.{arrived_at, settled, ticked, fresh_rows}

-- what may yet be charged to a row under deadlines up to the horizon, as seen at instant t
abbrev pub demand : ℕ → ℕ → Row → ℕ
demand t horizon row =
    cond (nat_le t row.account.deadline)
    (cond (nat_le row.account.deadline horizon)
    (row.account.capacity + row.account.residual + row.terms.budget * ((horizon - row.account.deadline) / row.terms.period))
    0)
    (row.terms.budget * ((horizon - t) / row.terms.period))

-- terms within their limits
abbrev pub Fit : Terms → Type 0
Fit terms = (1 ≤ terms.budget) × (terms.budget ≤ terms.period) × (common_multiple % terms.period ≡ 0)

-- what every row keeps of its terms, and of its account at instant t, by its phase
abbrev pub KeptIn : Phase → ℕ → Row → Type 0
KeptIn Resting t row =
    (row.account.jobs ≡ 0)
    × (row.account.residual ≡ 0)
    × (row.terms.kind ≡ Isolated → row.account.capacity ≡ 0)
    × (t ≤ row.account.deadline → row.account.capacity * row.terms.period ≤ (row.account.deadline - t) * row.terms.budget)
KeptIn AtWork t row = (1 ≤ row.account.jobs) × (row.account.residual ≡ 0) × (t < row.account.deadline)
KeptIn Supplying t row = (row.account.capacity ≡ 0) × (t < row.account.deadline)

pub record Kept (t : ℕ) (row : Row) : Type 0 where
  pub fit : Fit row.terms
  pub within : row.account.capacity + row.account.residual ≤ row.terms.budget
  pub near : row.account.deadline ≤ t + row.terms.period
  pub phase : KeptIn row.phase t row

-- what every table keeps at instant t: rows in their places, their limits, and the bound for every horizon
pub record Sound (t : ℕ) (rows : List Row) : Type 0 where
  pub placed : (k : ℕ) → k < length rows → (slice_index_or rows k blank_row).number ≡ k
  pub kept : AllByRecursion (Kept t) rows
  pub light : sum_by (λ (row : Row). weight_of row.terms) rows ≤ common_multiple
  pub bound : (horizon : ℕ) → t ≤ horizon → sum_by (demand t horizon) rows ≤ horizon - t

-- a choice that names an offer made to it, or nobody
abbrev pub Inside : Choice → Type 0
Inside choice = (thief : ℕ) (offers : List Offer) (k : ℕ) → choice thief offers ≡ Some k → k < length offers

-- an arrival keeps it, and so does a tick under any such choice, with or without a finish
abbrev pub ArrivalKeepsTheBound : Type 0
ArrivalKeepsTheBound = (t k : ℕ) (rows : List Row) → Sound t rows → Sound t (arrived_at t k rows)

abbrev pub TickKeepsTheBound : Type 0
TickKeepsTheBound = (choice : Choice) (t : ℕ) (finished : Bool) (rows : List Row) → Inside choice → Sound t rows → Sound (suc t) (ticked choice t finished rows)

-- the rows of terms within their limits, which weigh no more than the common multiple, make a table that keeps it
abbrev pub FreshTableKeepsTheBound : Type 0
FreshTableKeepsTheBound = (terms : List Terms) → AllByRecursion Fit terms → sum_by weight_of terms ≤ common_multiple → Sound 0 (fresh_rows 0 terms)

-- a row at work, or one that supplies, has nothing left where its deadline has come
abbrev pub SpentIn : Phase → ℕ → Row → Type 0
SpentIn Resting t row = Unit {0}
SpentIn AtWork t row = row.account.deadline ≡ t → (row.account.capacity ≡ 0) × (row.account.residual ≡ 0)
SpentIn Supplying t row = row.account.deadline ≡ t → (row.account.capacity ≡ 0) × (row.account.residual ≡ 0)

abbrev pub NothingIsLeftAtADeadline : Type 0
NothingIsLeftAtADeadline = (choice : Choice) (t : ℕ) (finished : Bool) (rows : List Row) → Inside choice → Sound t rows → AllByRecursion (λ row. SpentIn row.phase (suc t) row) (settled choice t finished rows)
