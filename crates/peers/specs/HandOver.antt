-- Which leaf has shown that it holds all changes of its hub.
use Rattle.std.specs.Prelude.{ℕ, ◌==◌, ◌&&◌, ◌||◌, not, Bool, false, is_some, Option, None, Some, slice_get}
use Rattle.peers.specs.declared.link_wire.LinkWire.{LinkWire}
use Rattle.peers.specs.declared.links.Links.{Links}
use Rattle.peers.specs.declared.links.Links.TheVariants.{Alone, Hub, Leaf}
use Rattle.peers.specs.declared.seat.Seat.{Seat}

-- the link is not marked as one to close, and its connection is not over
abbrev pub lives : LinkWire → Bool
lives wire = not (is_some wire.gone || wire.connection.is_over)

-- A leaf with a living link said this version last. No beat of it waits to be compared with the hub's own records; a beat
-- with other records at the hub's version would have ended the link.
abbrev pub shows_all : ℕ → Seat → Bool
shows_all version seat = lives seat.wire && (not (is_some seat.beat) && seat.version == version)

abbrev pub shown_at : ℕ → Option (Option Seat) → Bool
shown_at version None = false
shown_at version (Some None) = false
shown_at version (Some (Some seat)) = shows_all version seat

-- at a hub: the leaf of this number
abbrev pub has_all : ℕ → ℕ → Links → Bool
has_all leaf version Alone = false
has_all leaf version (Hub hub) = shown_at version (slice_get hub.seats.items leaf)
has_all leaf version (Leaf link) = false
