-- What a place of a journal is ready for.
use Rattle.disks.specs.State.{IsSettled}
use Rattle.disks.specs.Memory.{state_of}
use Rattle.botjournal.specs.Journal.{IsSound}
use Rattle.stepcases.specs.declared.place.Place.{Place}
use Rattle.stepcases.specs.declared.place.Place.TheVariants.{OnDisks, InUse}

-- the disks may be opened, or the journal may be called
abbrev pub IsReady : Place → Type 0
IsReady (OnDisks disks) = IsSettled (state_of disks.first) × IsSettled (state_of disks.second)
IsReady (InUse journal) = IsSound state_of journal
