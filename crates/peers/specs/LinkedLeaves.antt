-- Which leaves a hub is linked with.
use Rattle.std.specs.Prelude.{ℕ, Bool, false, Option, None, Some, slice_get}
use Rattle.peers.specs.HandOver.{lives}
use Rattle.peers.specs.declared.links.Links.{Links}
use Rattle.peers.specs.declared.links.Links.TheVariants.{Alone, Hub, Leaf}
use Rattle.peers.specs.declared.seat.Seat.{Seat}

-- the place has a leaf with a living link
abbrev pub has_leaf : Option (Option Seat) → Bool
has_leaf None = false
has_leaf (Some None) = false
has_leaf (Some (Some seat)) = lives seat.wire

-- at a hub: the leaf of this number
abbrev pub is_linked_leaf : ℕ → Links → Bool
is_linked_leaf leaf Alone = false
is_linked_leaf leaf (Hub hub) = has_leaf (slice_get hub.seats.items leaf)
is_linked_leaf leaf (Leaf link) = false
