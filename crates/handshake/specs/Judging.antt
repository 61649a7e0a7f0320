-- Which leaf that has shown its code may join, and why another may not.
use Rattle.std.specs.Prelude.{ℕ, ◌==◌, ◌&&◌, ◌||◌, not, nat_lt, Bool, List, true, false, Option, Some, None, if◌then◌else◌}
use Rattle.std.specs.Str.{bytes_eq}
use Rattle.handshake.specs.declared.book.Place.{Place}
use Rattle.handshake.specs.declared.book.Place.TheVariants.{Free, Same, Taken, Barred}
use Rattle.handshake.specs.declared.progress.Progress.{Progress}
use Rattle.handshake.specs.declared.refusal.HandshakeRefusal.{HandshakeRefusal}
use Rattle.handshake.specs.declared.refusal.HandshakeRefusal.TheVariants.{Heir, Net, Count, Other, Ahead, Records, Older}
use Rattle.handshake.specs.declared.sides.LeafWords.{LeafWords}
use Rattle.handshake.specs.declared.hub_side.HubSide.{HubSide}
use Rattle.handshake.specs.Nets.{may_be_of}

-- another folder is the leaf, or this one never joins again
abbrev pub is_other : Place → Bool
is_other Free = false
is_other Same = false
is_other Taken = true
is_other Barred = true

abbrev pub is_same : Place → Bool
is_same Free = false
is_same Same = true
is_same Taken = false
is_same Barred = false

-- The hub has replied to a request that the leaf does not know. A leaf without records that knows of no request begins
-- anew. A folder that never was this leaf may lack the requests of an earlier one, as long as it holds no records.
abbrev pub is_older : Progress → Place → Progress → Bool
is_older leaf place hub = nat_lt leaf.last hub.last && (nat_lt 0 leaf.version || (is_same place && nat_lt 0 leaf.last))

-- Why a leaf of another net may not join: the hub's net is the heir of the leaf's, or of none or of a third one. A leaf
-- that keeps no net is never told that it is the heir.
abbrev pub net_refusal : Option (List ℕ) → Option (List ℕ) → HandshakeRefusal
net_refusal None net = Net
net_refusal (Some parent) None = Net
net_refusal (Some parent) (Some net) = if bytes_eq net parent then Heir else Net

-- why a leaf that says these words may not join a hub that has come so far; `place` is what the hub's book says of it
abbrev pub judged : HubSide → LeafWords → Place → Progress → Option HandshakeRefusal
judged side words place hub =
    if not (may_be_of side.net words.net) then Some (net_refusal side.parent words.net)
    else if not (words.leaves == side.leaves) then Some Count
    else if is_other place then Some Other
    else if nat_lt hub.version words.progress.version then Some Ahead
    else if (words.progress.version == hub.version) && not (bytes_eq words.progress.sum hub.sum) then Some Records
    else if is_older words.progress place hub then Some Older
    else None
