-- The nonces that a bot's handshakes say, and where they come from.
use Rattle.std.specs.Prelude.{◌≡◌, ◌++◌, ◌∷◌, [], ℕ, List, map, Option, None, Some}
use Rattle.peers.specs.declared.guest.Guest.{Guest}
use Rattle.peers.specs.declared.hub_connection.Hub.{Hub as HubState}
use Rattle.peers.specs.declared.hub_connection.Hub.TheVariants.{Meets, Linked}
use Rattle.peers.specs.declared.links.Links.{Links}
use Rattle.peers.specs.declared.links.Links.TheVariants.{Alone, Hub, Leaf}

-- The first nonces stand among the second ones, in the same order, each at a place of its own.
pub data AreAmong : List (List ℕ) → List (List ℕ) → Type 0 where
  no_more : AreAmong [] []
  this : {nonce : List ℕ} {some all : List (List ℕ)} → AreAmong some all → AreAmong (nonce ∷ some) (nonce ∷ all)
  other : {nonce : List ℕ} {some all : List (List ℕ)} → AreAmong some all → AreAmong some (nonce ∷ all)

-- A call has the dice roll some nonces. Each handshake that goes on after it says a nonce of its own: the one that it said before,
-- or one that was rolled in this call. No roll serves two handshakes.
pub record Draws (before after : List (List ℕ)) (rolled_before rolled_after : List (List ℕ)) : Type 0 where
  pub rolls : List (List ℕ)
  pub rolled : rolled_after ≡ rolled_before ++ rolls
  pub own : AreAmong after (before ++ rolls)

-- ---- which nonces the handshakes say

-- at a hub, to each guest, in the order in which they arrived
abbrev pub nonce_of : Guest → List ℕ
nonce_of guest = guest.side.nonce

abbrev pub nonces_of : List Guest → List (List ℕ)
nonces_of guests = map nonce_of guests

-- at a leaf, to its hub until the handshake is over
abbrev pub nonces_at : Option HubState → List (List ℕ)
nonces_at None = []
nonces_at (Some (Meets meeting)) = meeting.side.nonce ∷ []
nonces_at (Some (Linked link)) = []

abbrev pub nonces_in : Links → List (List ℕ)
nonces_in Alone = []
nonces_in (Hub hub) = nonces_of hub.door.guests.list.items
nonces_in (Leaf leaf) = nonces_at leaf.hub
