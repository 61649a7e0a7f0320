-- A disk in a file, as contracts see it.
use Rattle.std.specs.Prelude.{◌≡◌, Bool, false, None, IsTrue}
use Rattle.disks.specs.Memory.{Memory}
use Rattle.disks.specs.Told.{Told}

pub record FileState : Type 0 where
  pub mirror : Memory  -- the disk in memory that answers reads; after `end_reads` contracts alone know its bytes
  pub file : Told  -- what the file was told
  pub broken : Bool  -- whether the file failed

-- all that a read gives was written to the file
abbrev pub IsTold : FileState → Type 0
IsTold disk = disk.file.holds ≡ disk.mirror.content

-- all of it was also synced to the file's device
pub record IsKept (disk : FileState) : Type 0 where
  pub told : IsTold disk
  pub kept : IsTrue disk.file.kept

-- until the file fails, all that a read gives was written to it, and no fault of the mirror is planned
pub record IsInStep (disk : FileState) : Type 0 where
  pub told : disk.broken ≡ false → IsTold disk
  pub steady : disk.mirror.plan.works ≡ None
