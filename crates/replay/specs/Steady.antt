-- A disk that never fails, as contracts see it.
use Rattle.disks.specs.State.{State}
use Rattle.disks.specs.Memory.{Memory, state_of}

-- a disk in memory that has not failed
abbrev pub steady_state : Memory → State
steady_state disk = record (state_of disk) { failed = 0 }
