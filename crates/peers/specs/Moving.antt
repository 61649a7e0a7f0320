-- Which of its hubs a leaf tries, and when a hub tells it that it is to move.
use Rattle.std.specs.Prelude.{◌≡◌, ◌⊎◌, ℕ, nat_lt, Bool, false, Option, None, Some, if◌then◌else◌}
use Rattle.net.specs.Dials.{Dials, next_place}
use Rattle.peers.specs.declared.hub_connection.TheConstants.{LONGEST_WAIT, LONGEST_WAIT_IN_TURN}
use Rattle.peers.specs.declared.hub_connection.Hub.{Hub as HubState}
use Rattle.peers.specs.declared.hub_connection.Hub.TheVariants.{Meets, Linked}
use Rattle.peers.specs.declared.links.Links.{Links}
use Rattle.peers.specs.declared.links.Links.TheVariants.{Alone, Hub, Leaf}

-- ---- the hubs, in turn

-- after a try that failed, the next of the list, and after the last one the first; after a good link the same one once
-- more
abbrev pub next_hub : Dials → ℕ
next_hub dials = if dials.good then dials.place else next_place dials

-- a leaf with several hubs waits less, so that it finds a hub that lives
abbrev pub longest_wait : ℕ → ℕ
longest_wait hubs = if nat_lt 1 hubs then LONGEST_WAIT_IN_TURN else LONGEST_WAIT

-- nothing changed, or a try failed and the next hub is tried
abbrev pub TriesNext : Dials → Dials → Type 0
TriesNext old new = (new ≡ old) ⊎ (new.place ≡ next_hub old)

-- ---- the heir

-- the hub that the leaf meets has told it so
abbrev pub is_told : Option HubState → Bool
is_told None = false
is_told (Some (Meets meeting)) = meeting.told
is_told (Some (Linked link)) = false

-- a hub has told the leaf so
abbrev pub is_to_move : Links → Bool
is_to_move Alone = false
is_to_move (Hub hub) = false
is_to_move (Leaf leaf) = leaf.moves
