-- When a bot looks for room on its disk, and what it takes with and without room.
use Rattle.std.specs.Prelude.{ℕ, Bool, true, false, ◌-◌, ◌&&◌, ◌||◌, nat_le, nat_lt, List, []}
use Rattle.sharewire.specs.declared.packet.Packet.{Packet}
use Rattle.upkeep.specs.declared.space.TheConstants.{APART}

-- once a minute, and in each second in which the bot is awake
abbrev pub is_due : ℕ → Bool → ℕ → Bool
is_due looked is_awake steady = nat_le APART (steady - looked) || (is_awake && nat_lt 0 (steady - looked))

-- with room for changes a turn takes all of these packets, and without none: they are dropped
abbrev pub admitted : Bool → List Packet → List Packet
admitted true packets = packets
admitted false packets = []
