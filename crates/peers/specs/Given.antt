-- What is returned for a packet.
use Rattle.std.specs.Prelude.{◌≡◌, ℕ, Option, Some, None}
use Rattle.std.specs.declared.alloc.Global.{Global}
use Rattle.std.specs.declared.vec.Vec.{Vec}
use Rattle.sharewire.specs.declared.packet.Packet.{Packet}
use Rattle.sharewire.specs.Frames.{frame, CanBeWritten}

-- its frame, or nothing if it cannot be written
abbrev pub IsGiven : Packet → Option (Vec ℕ Global) → Type 0
IsGiven packet (Some bytes) = CanBeWritten packet × (bytes.items ≡ frame packet)
IsGiven packet None = CanBeWritten packet → ⊥
