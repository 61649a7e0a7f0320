-- Which packets a leaf's connection may bring.
use Rattle.std.specs.Prelude.{ℕ, ◌==◌, Bool, false, Option, Some, None}
use Rattle.sharewire.specs.declared.packet.Packet.{Packet}
use Rattle.peers.specs.PacketSpeakers.{speaker_of}

abbrev pub is_leaf : ℕ → Option ℕ → Bool
is_leaf leaf None = false
is_leaf leaf (Some speaker) = speaker == leaf

-- a packet that names this leaf as its sender
abbrev pub is_own : ℕ → Packet → Bool
is_own leaf packet = is_leaf leaf (speaker_of packet)
