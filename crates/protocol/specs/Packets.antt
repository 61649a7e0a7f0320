-- What the bots of a net send each other. Bot 0 is the hub, and leaves are numbered from 1.
use Rattle.std.specs.Prelude.{ℕ, zero, suc, ◌+◌, List, [], ◌∷◌}
use Rattle.usercodec.specs.declared.records.Record.{Record}
use Rattle.botjournal.specs.declared.reply.Verdict.{Verdict}
use Rattle.botjournal.specs.declared.reply.Verdict.TheVariants.{Taken, Refused as refused_request}
use Rattle.userfile.specs.declared.change.Change.{Change as UserChange}
use Rattle.userfile.specs.declared.error.ChangeFault.{ChangeFault}
use Rattle.sharewire.specs.declared.packet.Packet.{Packet as WirePacket}
use Rattle.sharewire.specs.declared.packet.Packet.TheVariants as wire

-- a packet of the link
pub data Packet : Type 0 where
  -- the layout that a leaf's journal has, the leaf, and the version that it is at
  Hello : (layout leaf version : ℕ) → Packet
  -- the accepted change of this number, the bot that asked for it and that bot's request number; both are 0 for the
  -- hub's own
  Change : (number origin request : ℕ) → UserChange → Packet
  -- a leaf asks for a change, under its own number
  Request : (leaf request : ℕ) → UserChange → Packet
  -- a leaf's request was accepted, and its change has this number
  Accepted : (leaf request number : ℕ) → Packet
  -- a leaf's request was rejected
  Refused : (leaf request : ℕ) → ChangeFault → Packet
  -- a text from one bot to another
  BotText : (from to : ℕ) (text : List ℕ) → Packet
  -- the part of this number, out of `count`, of the records at a version
  Part : (version part count : ℕ) → List Record → Packet

-- the packet that has this frame
abbrev pub from_wire : WirePacket → Packet
from_wire (wire.Hello layout leaf version) = Hello layout leaf version
from_wire (wire.Change number origin request change) = Change number origin request change
from_wire (wire.Request leaf request change) = Request leaf request change
from_wire (wire.Accepted leaf request number) = Accepted leaf request number
from_wire (wire.Refused leaf request fault) = Refused leaf request fault
from_wire (wire.BotText from to text) = BotText from to text
from_wire (wire.Part version part count records) = Part version part count records

-- a packet, and the bot that it goes to
pub record Outgoing : Type 0 where
  pub to : ℕ
  pub packet : Packet

-- a packet that was sent, by whom and to whom
pub record Sent : Type 0 where
  pub from : ℕ
  pub to : ℕ
  pub packet : Packet

-- an accepted change, with the leaf that asked for it and that leaf's request number
pub record AcceptedChange : Type 0 where
  pub origin : ℕ
  pub request : ℕ
  pub change : UserChange

-- the hub's own change: no leaf asked for it
abbrev pub own : UserChange → AcceptedChange
own change = record { origin = 0; request = 0; change = change }

-- the packet of an accepted change
abbrev pub change_packet : ℕ → AcceptedChange → Packet
change_packet number entry = Change number entry.origin entry.request entry.change

-- the packet that tells a leaf the outcome of its request
abbrev pub answer_packet : ℕ → ℕ → Verdict → Packet
answer_packet leaf request (Taken number) = Accepted leaf request number
answer_packet leaf request (refused_request fault) = Refused leaf request fault

-- one packet to each of `count` bots from the first on, in order
abbrev pub to_each : ℕ → ℕ → Packet → List Outgoing
to_each first zero packet = []
to_each first (suc count) packet = record { to = first; packet = packet } ∷ to_each (first + 1) count packet

-- these accepted changes to one leaf, numbered on from a version
abbrev pub numbered_from : ℕ → ℕ → List AcceptedChange → List Outgoing
numbered_from leaf version [] = []
numbered_from leaf version (entry ∷ entries) =
    record { to = leaf; packet = change_packet (version + 1) entry } ∷ numbered_from leaf (version + 1) entries
