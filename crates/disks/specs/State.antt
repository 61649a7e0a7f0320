-- A disk as contracts see it: what a read gives, and the disk's history, which says what a crash may leave.
use Rattle.std.specs.Prelude.{◌≡◌, ◌⊎◌, ◌<◌, ◌-◌, ◌^◌, ◌≤◌, ℕ, List, length}
use Rattle.disks.specs.Events.{Event, Images, LeftSince}

pub record State : Type 0 where
  pub seen : List ℕ  -- what a read gives
  pub events : List Event  -- what happened to it, the newest first
  pub failed : ℕ  -- how often the disk has failed
  pub calls : ℕ  -- for how many writes and syncs room is made
  pub end : ℕ  -- up to where room is made

-- what a crash may leave at this moment
abbrev pub may_leave : State → List ℕ → Type 0
may_leave disk image = Images disk.events disk.seen image

-- the moment, as a number that never falls
abbrev pub moment : State → ℕ
moment disk = length disk.events

-- what a crash at some moment since that one might have left
abbrev pub left_since : State → ℕ → List ℕ → Type 0
left_since disk t image = LeftSince disk.events disk.seen t image

-- nothing is pending: a crash leaves what a read gives, and nothing else
abbrev pub IsSettled : State → Type 0
IsSettled disk = (image : List ℕ) → may_leave disk image → image ≡ disk.seen

-- the number of failures rose, or stayed at its greatest value, which counts as a rise
abbrev pub Rose : ℕ → ℕ → Type 0
Rose before now = (before < now) ⊎ (now ≡ 2 ^ 64 - 1)

-- a crash at any moment since `old` leaves an image that has `P`
pub record LeavesOnly (old new : State) (P : List ℕ → Type 0) : Type 0 where
  pub later : moment old ≤ moment new
  pub each : (image : List ℕ) → left_since new (moment old) image → P image
  -- for a run of calls that began earlier
  pub before : (t : ℕ) (image : List ℕ) → t ≤ moment old → left_since new t image → left_since old t image ⊎ P image
