-- What one call does to one server's row, as far as the law of shares needs it: the row stays under its deadline
-- and pays from what it holds, or it is renewed at the instant that the call leaves, or recharged to be stolen from.
use Rattle.std.proofs.Common.{◌≡◌, ℕ, suc, ◌+◌, ◌<◌, ◌≤◌, true, false, cond, ◌⊎◌}
use Rattle.server.specs.declared.row.Phase.TheVariants.{Resting, AtWork, Supplying}
use Rattle.server.specs.declared.row.Row.{Row}
use Rattle.executive.specs.Run.{Entry, row_of, holds, is_tick, runs, pays}

module _ {R : Type 0} (k Q T : ℕ) (e : Entry R) where
  abbrev t : ℕ
  t = e.before.instant

  abbrev before : Row
  before = row_of k e.before

  abbrev after : Row
  after = row_of k e.after

  abbrev paid : ℕ
  paid = cond (pays k e) 1 0

  abbrev ran : ℕ
  ran = cond (runs k e) 1 0

  abbrev pub Stays : Type 0
  Stays = (after.account.deadline ≡ before.account.deadline) × (holds after + paid ≤ holds before)

  abbrev pub Renewed : Type 0
  Renewed = (before.account.deadline ≤ e.after.instant) × (after.account.deadline ≡ e.after.instant + T) × (holds after ≤ Q) × (after.phase ≡ AtWork) × (after.account.capacity ≡ Q) × (paid ≤ holds before)

  abbrev pub Robbed : Type 0
  Robbed = (is_tick e ≡ true) × (before.account.deadline ≤ t) × (after.account.deadline ≡ t + T) × (holds after + 1 ≤ Q) × (before.phase ≡ Resting)

  abbrev pub Ticks : Type 0
  Ticks = ((suc t ≡ before.account.deadline) × (before.account.capacity ≤ ran))
      ⊎ ((suc t < before.account.deadline) × (after.account.deadline ≡ before.account.deadline) × ((after.phase ≡ AtWork × (before.account.capacity ≤ after.account.capacity + ran)) ⊎ (after.phase ≡ Supplying)))

  pub record Moves : Type 0 where
    pub still : is_tick e ≡ false → e.after.instant ≡ t
    pub ticks : is_tick e ≡ true → e.after.instant ≡ suc t
    pub way : Stays ⊎ (Renewed ⊎ Robbed)
    pub alive : (before.phase ≡ Resting → ⊥) → t < before.account.deadline
    pub work_still : before.phase ≡ AtWork → is_tick e ≡ false → (after.account.deadline ≡ before.account.deadline) × (after.phase ≡ AtWork) × (after.account.capacity ≡ before.account.capacity)
    pub work_ticks : before.phase ≡ AtWork → is_tick e ≡ true → Ticks
    pub supply_still : before.phase ≡ Supplying → is_tick e ≡ false → (after.account.deadline ≡ before.account.deadline) × (after.phase ≡ Supplying)
