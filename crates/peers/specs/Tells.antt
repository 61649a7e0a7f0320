-- What a bot queues for the others, and what it takes of what they sent.
use Rattle.std.specs.Prelude.{◌≡◌, ◌+◌, ◌++◌, ℕ, nat_le, not, Bool, true, false, List, [], length, Option, None, Some, IsSome, is_some, slice_get}
use Rattle.std.specs.List.{filter, list_any}
use Rattle.sharewire.specs.declared.packet.Packet.{Packet}
use Rattle.sharewire.specs.declared.packet.Packet.TheVariants.{Hello, Change, Part, Request, Accepted, Refused, BotText}
use Rattle.sharewire.specs.Frames.{CanBeWritten, frame}
use Rattle.peers.specs.declared.hub_connection.Hub.{Hub as HubState}
use Rattle.peers.specs.declared.hub_connection.Hub.TheVariants.{Meets, Linked}
use Rattle.peers.specs.declared.hub_links.HubLinks.{HubLinks}
use Rattle.peers.specs.declared.link_wire.LinkWire.{LinkWire}
use Rattle.peers.specs.declared.link_wire.TheConstants.{MAX_UNSENT}
use Rattle.peers.specs.declared.links.Links.{Links}
use Rattle.peers.specs.declared.links.Links.TheVariants.{Alone, Hub, Leaf}
use Rattle.handshake.specs.declared.own.HeldParts.{HeldParts}
use Rattle.peers.specs.declared.seat.Seat.{Seat}
use Rattle.handshake.specs.Owns.{holds}
use Rattle.peers.specs.Picking.{is_request}
use Rattle.peers.specs.Waiting.{TakesTurn}

-- ---- one connection

-- whether these bytes fit into the outbox
abbrev pub fits : LinkWire → List ℕ → Bool
fits wire bytes = nat_le (length wire.outbox + length bytes) MAX_UNSENT

-- nothing is queued for the other end
abbrev pub IsUntold : LinkWire → LinkWire → Type 0
IsUntold old new = (new.outbox ≡ old.outbox) × (new.gone ≡ old.gone)

-- All bytes are queued for the other end, after those before. If they do not fit, none is, and the connection is to be
-- closed.
abbrev pub IsToldIf : Bool → LinkWire → List ℕ → LinkWire → Type 0
IsToldIf true old bytes new = (new.outbox ≡ old.outbox ++ bytes) × (new.gone ≡ old.gone)
IsToldIf false old bytes new = (new.outbox ≡ old.outbox) × IsSome new.gone

abbrev pub IsTold : LinkWire → List ℕ → LinkWire → Type 0
IsTold old bytes new = IsToldIf (fits old bytes) old bytes new

-- a packet is queued as its frame; a packet that has none is lost
pub record Tells (packet : Packet) (old new : LinkWire) : Type 0 where
  pub framed : CanBeWritten packet → IsTold old (frame packet) new
  pub lost : (CanBeWritten packet → ⊥) → IsUntold old new

-- ---- a leaf at a hub, and a hub at a leaf

-- the packet is a part of a snapshot that the leaf holds, as its last beat says
abbrev pub is_held : HeldParts → Packet → Bool
is_held held (Part version part count records) = holds held version part
is_held held (Hello layout leaf version) = false
is_held held (Change number origin request change) = false
is_held held (Request leaf request change) = false
is_held held (Accepted leaf request number) = false
is_held held (Refused leaf request fault) = false
is_held held (BotText from to text) = false

-- the packet is queued for a leaf, unless the leaf holds it: then it is lost
abbrev pub TellsLeafIf : Bool → Packet → Seat → Seat → Type 0
TellsLeafIf true packet old new = new ≡ old
TellsLeafIf false packet old new = Tells packet old.wire new.wire

abbrev pub TellsLeaf : Packet → Seat → Seat → Type 0
TellsLeaf packet old new = TellsLeafIf (is_held old.held packet) packet old new

-- if a linked leaf has the place, the packet is told it
abbrev pub TellsSeat : Packet → Option Seat → Option Seat → Type 0
TellsSeat packet (Some old) (Some new) = TellsLeaf packet old new
TellsSeat packet (Some old) None = ⊥
TellsSeat packet None new = new ≡ None

-- the place with this number, if there is one
abbrev pub TellsPlace : Packet → Option (Option Seat) → Option (Option Seat) → Type 0
TellsPlace packet (Some old) (Some new) = TellsSeat packet old new
TellsPlace packet (Some old) None = ⊥
TellsPlace packet None new = new ≡ None

-- if the hub is linked, the packet is queued for it
abbrev pub TellsHub : Packet → Option HubState → Option HubState → Type 0
TellsHub packet (Some (Linked old)) (Some (Linked new)) = Tells packet old.wire new.wire
TellsHub packet (Some (Linked old)) (Some (Meets new)) = ⊥
TellsHub packet (Some (Linked old)) None = ⊥
TellsHub packet (Some (Meets old)) new = new ≡ Some (Meets old)
TellsHub packet None new = new ≡ None

-- ---- a bot's connections

-- the packet is queued for its recipient
abbrev pub TellsOne : ℕ → Packet → Links → Links → Type 0
TellsOne to packet Alone new = new ≡ Alone
TellsOne to packet (Hub old) (Hub new) = TellsPlace packet (slice_get old.seats.items to) (slice_get new.seats.items to)
TellsOne to packet (Hub old) Alone = ⊥
TellsOne to packet (Hub old) (Leaf new) = ⊥
TellsOne to packet (Leaf old) (Leaf new) = TellsHub packet old.hub new.hub
TellsOne to packet (Leaf old) Alone = ⊥
TellsOne to packet (Leaf old) (Hub new) = ⊥

-- ---- the packets of one turn

-- a hub that may be an older copy of itself grants no request
abbrev pub in_doubt : HubLinks → Bool
in_doubt hub = list_any is_some hub.doubts.items

abbrev pub granted : Bool → List Packet → List Packet
granted true packets = filter (λ packet. not (is_request packet)) packets
granted false packets = packets

-- they are taken from the queued ones; in doubt the requests among them are lost
pub record TakesGranted (old : HubLinks) (packets : List Packet) (new : HubLinks) : Type 0 where
  pub taken : List Packet
  pub turn : TakesTurn old.inbox taken new.inbox
  pub granted_are : packets ≡ granted (in_doubt old) taken

abbrev pub TakesPackets : Links → List Packet → Links → Type 0
TakesPackets Alone packets new = packets ≡ []
TakesPackets (Hub old) packets (Hub new) = TakesGranted old packets new
TakesPackets (Hub old) packets Alone = ⊥
TakesPackets (Hub old) packets (Leaf new) = ⊥
TakesPackets (Leaf old) packets (Leaf new) = TakesTurn old.inbox packets new.inbox
TakesPackets (Leaf old) packets Alone = ⊥
TakesPackets (Leaf old) packets (Hub new) = ⊥
