-- Whether anybody is connected to a bot, or the bot connects: a call allocates only then.
use Rattle.std.specs.Prelude.{◌≡◌, ◌≤◌, ◌||◌, ◌==◌, Bool, not, ℕ, List, length, Option, None, Some, IsTrue, is_some, slice_get}
use Rattle.std.specs.List.{list_any}
use Rattle.std.specs.declared.net.ip_addr.IpAddr.{IpAddr}
use Rattle.std.specs.Net.Grammar.{IsIpText}
use Rattle.settings.specs.declared.settings.Address.{Address}
use Rattle.peers.specs.declared.hub_connection.Hub.{Hub as HubState}
use Rattle.peers.specs.declared.hub_connection.Hub.TheVariants.{Meets, Linked}
use Rattle.peers.specs.declared.hub_connection.HubConnection.{HubConnection}
use Rattle.peers.specs.declared.hub_links.HubLinks.{HubLinks}
use Rattle.peers.specs.declared.links.Links.{Links}
use Rattle.peers.specs.declared.links.Links.TheVariants.{Alone, Hub, Leaf}
use Rattle.peers.specs.declared.seat.Seat.{Seat}

-- packets go to and come from the hub
abbrev pub IsLinked : Option HubState → Type 0
IsLinked None = ⊥
IsLinked (Some (Meets meeting)) = ⊥
IsLinked (Some (Linked link)) = Unit {0}

-- The leaf reads from the hub: not once the hub has shown its code and the leaf has still to save something.
abbrev pub IsHeard : Option HubState → Type 0
IsHeard None = ⊥
IsHeard (Some (Meets meeting)) = meeting.joined ≡ None
IsHeard (Some (Linked link)) = Unit {0}

-- a linked leaf has this place
abbrev pub IsTaken : Option (Option Seat) → Type 0
IsTaken None = ⊥
IsTaken (Some None) = ⊥
IsTaken (Some (Some seat)) = Unit {0}

-- the recipient of a packet is linked
abbrev pub Reaches : ℕ → Links → Type 0
Reaches to Alone = ⊥
Reaches to (Hub hub) = IsTaken (slice_get hub.seats.items to)
Reaches to (Leaf leaf) = IsLinked leaf.hub

-- somebody is connected to the hub: a guest that is not welcomed yet, or a leaf
abbrev pub has_somebody : HubLinks → Bool
has_somebody hub = not (length hub.door.guests.list.items == 0) || list_any is_some hub.seats.items

-- a hub to which somebody is connected, or a leaf that reads from its hub
abbrev pub Hears : Links → Type 0
Hears Alone = ⊥
Hears (Hub hub) = IsTrue (has_somebody hub)
Hears (Leaf leaf) = IsHeard leaf.hub

-- a host that spells no address, so that it has to be looked up
abbrev pub IsName : List ℕ → Type 0
IsName host = (ip : IpAddr) → IsIpText host ip → ⊥

-- a connection to the hub is due by this second, and the hub's host has to be looked up first
abbrev pub LooksUp : HubConnection → Option Address → ℕ → Type 0
LooksUp leaf None now = ⊥
LooksUp leaf (Some address) now = (leaf.hub ≡ None) × (leaf.turn.dialling.waits.due ≤ now) × IsName address.host

-- a hub, which accepts, or a leaf that looks up the hub whose turn it is
abbrev pub MayConnect : Links → List Address → ℕ → Type 0
MayConnect Alone hubs now = ⊥
MayConnect (Hub hub) hubs now = Unit {0}
MayConnect (Leaf leaf) hubs now = LooksUp leaf (slice_get hubs leaf.turn.dialling.place) now
