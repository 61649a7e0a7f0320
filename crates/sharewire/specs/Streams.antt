-- What a stream of bytes holds: packets, and then an incomplete frame, or a fault.
use Rattle.std.specs.Prelude.{◌≡◌, ◌<◌, ◌≤◌, ◌+◌, ℕ, List, ◌++◌, length, take, drop, slice_index, Option, Some, None, Result, Ok, Err, IsSome}
use Rattle.std.specs.List.{flat_map, AllByRecursion}
use Rattle.std.specs.Int.{w16, from_be_bytes}
use Rattle.sharewire.specs.declared.limits.TheConstants.{MAX_LENGTH}
use Rattle.sharewire.specs.declared.fault.WireFault.{WireFault}
use Rattle.sharewire.specs.declared.fault.WireFault.TheVariants.{BadLength, BadKind, BadBody, Failed}
use Rattle.sharewire.specs.declared.packet.Packet.{Packet}
use Rattle.sharewire.specs.Kinds.{kind_from}
use Rattle.sharewire.specs.Frames.{inside, frame, IsGoodPacket}

-- ---- the front of a stream

-- the length in the first two bytes
abbrev pub said : List ℕ → ℕ
said bytes = from_be_bytes w16 bytes

-- the byte after them
abbrev pub kind_in : List ℕ → ℕ
kind_in bytes = slice_index bytes 2

-- kind and body have 1 to 40,000 bytes
abbrev pub IsLength : ℕ → Type 0
IsLength n = (1 ≤ n) × (n ≤ MAX_LENGTH)

-- less than a whole frame, and nothing is wrong so far
pub record IsUnfinished (bytes : List ℕ) : Type 0 where
  pub fits : 2 ≤ length bytes → IsLength (said bytes)
  pub known : 3 ≤ length bytes → IsSome (kind_from (kind_in bytes))
  pub cut : 2 ≤ length bytes → length bytes < 2 + said bytes

-- A fault of the length is reported with its second byte, one of the kind with that byte, one of the body with its last
-- byte. `Failed` is no fault of a stream by itself: it says that the reader failed before.
abbrev pub HasFault : WireFault → List ℕ → Type 0
HasFault BadLength bytes = (2 ≤ length bytes) × (IsLength (said bytes) → ⊥)
HasFault BadKind bytes = (3 ≤ length bytes) × (IsLength (said bytes) × (kind_from (kind_in bytes) ≡ None))
HasFault BadBody bytes =
    IsLength (said bytes) × (IsSome (kind_from (kind_in bytes)) × ((2 + said bytes ≤ length bytes)
    × ((packet : Packet) → IsGoodPacket packet → inside packet ≡ take (said bytes) (drop 2 bytes) → ⊥)))
HasFault Failed bytes = ⊥

-- ---- a whole stream

-- how a stream ends so far: in the beginning of a frame, which is empty after a whole one, or at a fault
abbrev pub Ending : Type 0
Ending = Result (List ℕ) WireFault

abbrev pub Ends : List ℕ → Ending → Type 0
Ends rest (Ok begun) = (rest ≡ begun) × IsUnfinished rest
Ends rest (Err fault) = HasFault fault rest

-- the stream is the frames of these packets, and a rest with this ending
pub record Tells (stream : List ℕ) (packets : List Packet) (ending : Ending) : Type 0 where
  pub rest : List ℕ
  pub parts : stream ≡ flat_map frame packets ++ rest
  pub good : AllByRecursion IsGoodPacket packets
  pub ends : Ends rest ending

abbrev pub AreBytes : List ℕ → Type 0
AreBytes stream = (i : ℕ) → slice_index stream i < 256

-- the beginning of a frame, or the fault if there is one
abbrev pub ended : List ℕ → Option WireFault → Ending
ended begun None = Ok begun
ended begun (Some fault) = Err fault

-- the fault of a stream with this ending
abbrev pub fault_in : Ending → Option WireFault
fault_in (Ok begun) = None
fault_in (Err fault) = Some fault

-- the fault that is reported when the ending of a stream changes from the first to the second
abbrev pub fault_told : Ending → Ending → Option WireFault
fault_told (Err fault) new = Some Failed
fault_told (Ok begun) new = fault_in new
