-- What follows from a history.
use Rattle.std.specs.Prelude.{◌≤◌, ℕ, List, [], ◌∷◌, length, refl}
use Rattle.std.proofs.Common.{inl, inr, arith}
use Rattle.disks.specs.Events.{Event, Images, LeftSince}
use Rattle.disks.specs.State.{State, may_leave, moment, left_since}

-- a crash may leave what a read gives
pub images_seen : (events : List Event) (seen : List ℕ) → Images events seen seen
images_seen [] seen = refl
images_seen (event ∷ past) seen = inl refl

pub seen_is_left : (disk : State) → may_leave disk disk.seen
seen_is_left disk = images_seen disk.events disk.seen

-- the present moment is one of those since an earlier one
left_now : (events : List Event) (seen : List ℕ) (t : ℕ) (image : List ℕ) → t ≤ length events → Images events seen image → LeftSince events seen t image
left_now [] seen t image le left = left
left_now (event ∷ past) seen t image le left = inl left

pub counts_now : (disk : State) (t : ℕ) (image : List ℕ) → t ≤ moment disk → may_leave disk image → left_since disk t image
counts_now disk t image le left = left_now disk.events disk.seen t image le left

-- the present moment is the only one since itself
left_only : (events : List Event) (seen image : List ℕ) → LeftSince events seen (length events) image → Images events seen image
left_only [] seen image left = left
left_only (event ∷ past) seen image (inl now) = now
left_only (event ∷ past) seen image (inr before) = absurd (omega (arith, before.0))

pub only_now : (disk : State) (image : List ℕ) → left_since disk (moment disk) image → may_leave disk image
only_now disk image left = left_only disk.events disk.seen image left
