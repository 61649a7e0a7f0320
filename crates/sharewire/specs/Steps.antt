-- What the steps of reading a stream return.
use Rattle.std.specs.Prelude.{◌≡◌, List, ℕ, ◌∷◌, ◌++◌, length, Option, Some, None, Result, Ok, Err}
use Rattle.std.specs.List.{flat_map, AllByRecursion}
use Rattle.std.specs.Int.{w16}
use Rattle.bytetext.specs.declared.memory.NoMemory.{NoMemory}
use Rattle.usercodec.specs.Fields.{number}
use Rattle.sharewire.specs.declared.fault.WireFault.{WireFault}
use Rattle.sharewire.specs.declared.kind.Kind.{Kind}
use Rattle.sharewire.specs.declared.packet.Packet.{Packet}
use Rattle.sharewire.specs.declared.front.Inside.{Inside}
use Rattle.sharewire.specs.declared.frames.Frames.{Frames}
use Rattle.sharewire.specs.declared.frames.Next.{Next}
use Rattle.sharewire.specs.declared.frames.Next.TheVariants.{Whole, End}
use Rattle.sharewire.specs.Kinds.{kind_byte}
use Rattle.sharewire.specs.Frames.{inside, frame, IsGoodPacket}
use Rattle.sharewire.specs.Streams.{IsLength, IsUnfinished, HasFault, Ends, ended}

-- a frame of this kind and body stands at the front, and the rest after it
pub record IsFrame (bytes : List ℕ) (kind : Kind) (body rest : List ℕ) : Type 0 where
  pub parts : bytes ≡ number w16 (length (kind_byte kind ∷ body)) ++ ((kind_byte kind ∷ body) ++ rest)
  pub fits : IsLength (length (kind_byte kind ∷ body))

abbrev pub IsFront : List ℕ → Result (Option Inside) WireFault → Type 0
IsFront bytes (Ok None) = IsUnfinished bytes
IsFront bytes (Ok (Some found)) = IsFrame bytes found.kind found.body.now found.rest.now
IsFront bytes (Err fault) = HasFault fault bytes

-- the packet of the kind and the body, or that no packet has them, unless memory runs out
abbrev pub ReadsBody : Kind → List ℕ → Result (Option Packet) NoMemory → Type 0
ReadsBody kind body (Ok (Some packet)) = IsGoodPacket packet × (inside packet ≡ kind_byte kind ∷ body)
ReadsBody kind body (Ok None) = (packet : Packet) → IsGoodPacket packet → inside packet ≡ kind_byte kind ∷ body → ⊥
ReadsBody kind body (Err refused) = Unit {0}

-- the packet at the front and the rest after it, or how the stream ends
abbrev pub IsNext : List ℕ → Next → Type 0
IsNext bytes (Whole packet rest) = (bytes ≡ frame packet ++ rest.now) × IsGoodPacket packet
IsNext bytes (End fault) = Ends bytes (ended bytes fault)

-- the bytes are the frames of these packets, and a rest with this ending
pub record IsRead (bytes : List ℕ) (frames : Frames) : Type 0 where
  pub parts : bytes ≡ flat_map frame frames.packets.items ++ frames.rest.now
  pub good : AllByRecursion IsGoodPacket frames.packets.items
  pub ends : Ends frames.rest.now (ended frames.rest.now frames.fault)
