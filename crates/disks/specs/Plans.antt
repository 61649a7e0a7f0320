-- Which call of a disk in memory is planned to fail, and what the planned crash leaves.
use Rattle.std.specs.Prelude.{◌≡◌, ◌-◌, ◌≤◌, ℕ, zero, suc, Option, None, Some, List, length, replicate}
use Rattle.disks.specs.Calls.{Holds}
use Rattle.disks.specs.declared.tear.Tear.{Tear}
use Rattle.disks.specs.declared.tear.Tear.TheVariants.{Old, New, Fill}

-- the planned faults of a disk and its planned crash
pub record Plan : Type 0 where
  pub tear : Tear  -- what a crash leaves in the ranges that were written and not kept
  pub works : Option ℕ  -- how many more writes and syncs work before all fail
  pub reads : Option ℕ  -- how many more reads work before one fails

-- no fault is planned, and a crash undoes what wasn't kept
abbrev pub no_plan : Plan
no_plan = record { tear = Old; works = None; reads = None }

-- the write or sync of this number (from 1) and all later ones fail
abbrev pub with_crash : ℕ → Tear → Plan → Plan
with_crash fail_at tear plan = record plan { tear = tear; works = Some (fail_at - 1) }

-- the read of this number (from 1) fails
abbrev pub with_read : ℕ → Plan → Plan
with_read fail_at plan = record plan { reads = Some (fail_at - 1) }

-- a call fails when no more calls of its kind work
abbrev pub IsDue : Option ℕ → Type 0
IsDue left = left ≡ Some 0

-- how many more calls work after this one: once none does, none ever does
abbrev pub fewer : Option ℕ → Option ℕ
fewer None = None
fewer (Some left) = Some (left - 1)

-- how many more calls work after this one, when only one call fails
abbrev pub fewer_once : Option ℕ → Option ℕ
fewer_once None = None
fewer_once (Some zero) = None
fewer_once (Some (suc left)) = Some left

-- the plan after a write or a sync, after a read, and after the disk was reopened
abbrev pub after_call : Plan → Plan
after_call plan = record plan { works = fewer plan.works }

abbrev pub after_read : Plan → Plan
after_read plan = record plan { reads = fewer_once plan.reads }

abbrev pub after_crash : Plan → Plan
after_crash plan = record plan { works = None }

-- What the planned crash leaves after a write that wasn't kept, if it left `old` before that write. A write that begins
-- past the end of `old` is lost.
abbrev pub Leaves : Tear → ℕ → List ℕ → List ℕ → List ℕ → Type 0
Leaves Old at text old new = new ≡ old
Leaves New at text old new = at ≤ length old → Holds old at text new
Leaves (Fill byte) at text old new = at ≤ length old → Holds old at (replicate (length text) byte) new
