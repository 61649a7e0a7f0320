-- The disks of a bot's folder.
use Rattle.std.specs.Prelude.{◌≡◌, false, [], pos, ◌≤ℤ◌}
use Rattle.disks.specs.State.{IsSettled}
use Rattle.disks.specs.Memory.{state_of}
use Rattle.disks.specs.Files.{FileState, IsKept}
use Rattle.disks.specs.declared.pair.Pair.{Pair}
use Rattle.botjournal.specs.CutShort.{is_cut_short}
use Rattle.botfolder.specs.declared.begun.Begun.{Begun}
use Rattle.botfolder.specs.declared.begun.Begun.TheVariants.{Found, Empty}
use Rattle.botfolder.specs.declared.stopped.Stopped.{Stopped}

-- nothing is pending on the disk; all of it was written to its file and synced to its device; the file is no standard
-- stream
abbrev pub IsReady : FileState → Type 0
IsReady disk = IsSettled (state_of disk.mirror) × IsKept disk × (pos 3 ≤ℤ disk.file.descriptor)

abbrev pub AreReady : Pair → Type 0
AreReady disks = IsReady disks.first × IsReady disks.second

abbrev pub AreEmpty : Pair → Type 0
AreEmpty disks = (disks.first.mirror.content ≡ []) × (disks.second.mirror.content ≡ [])

-- the disks on which a journal is to be made are empty
abbrev pub IsBegun : Begun → Type 0
IsBegun (Found disks) = AreReady disks
IsBegun (Empty disks) = AreReady disks × AreEmpty disks

-- nothing is pending on the copies
abbrev pub AreCopies : Stopped → Type 0
AreCopies copies = IsSettled (state_of copies.first) × IsSettled (state_of copies.second)

-- the device did not cut the journal short
abbrev pub AreUncut : Stopped → Type 0
AreUncut copies = is_cut_short copies.first.content copies.second.content ≡ false

-- the same of two disks in files
abbrev pub AreUncutDisks : Pair → Type 0
AreUncutDisks disks = is_cut_short disks.first.mirror.content disks.second.mirror.content ≡ false

-- the journal that is found was not cut short
abbrev pub IsUncut : Begun → Type 0
IsUncut (Found disks) = AreUncutDisks disks
IsUncut (Empty disks) = Unit {0}
