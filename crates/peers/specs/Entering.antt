-- The lines that have to be in a hub's book before the leaves that they name are welcomed.
use Rattle.std.specs.Prelude.{ℕ, Bool, true, false, List, [], Option, None, Some}
use Rattle.std.specs.List.{flat_map, list_any}
use Rattle.peers.specs.declared.guest.Guest.{Guest}
use Rattle.peers.specs.declared.guest_stage.GuestStage.{GuestStage}
use Rattle.peers.specs.declared.guest_stage.GuestStage.TheVariants.{Meets, Asks, Enters}
use Rattle.peers.specs.declared.hub_links.HubLinks.{HubLinks}
use Rattle.peers.specs.declared.links.Links.{Links}
use Rattle.peers.specs.declared.links.Links.TheVariants.{Alone, Hub, Leaf}
use Rattle.handshake.specs.declared.own.Own.{Own}
use Rattle.handshake.specs.Books.{entry_line}

-- a guest that may join as soon as its folder is in the book
abbrev pub is_at_book : GuestStage → Bool
is_at_book Meets = false
is_at_book (Asks asked) = false
is_at_book (Enters asked) = true

abbrev pub is_entering : Guest → Bool
is_entering guest = is_at_book guest.stage

-- its line
abbrev pub line_at : GuestStage → List ℕ
line_at Meets = []
line_at (Asks asked) = []
line_at (Enters asked) = entry_line asked.ask.words.leaf asked.ask.words.made

abbrev pub entry_of : Guest → List ℕ
entry_of guest = line_at guest.stage

-- none of them is welcomed until the process has told what it knows of its bot
abbrev pub lines_by : Option Own → List Guest → List ℕ
lines_by None guests = []
lines_by (Some own) guests = flat_map entry_of guests

abbrev pub lines_to_enter : HubLinks → List ℕ
lines_to_enter hub = lines_by hub.own hub.door.guests.list.items

abbrev pub is_any_entering : HubLinks → Bool
is_any_entering hub = list_any is_entering hub.door.guests.list.items

-- the same of a bot's connections
abbrev pub lines_of : Links → List ℕ
lines_of Alone = []
lines_of (Hub hub) = lines_to_enter hub
lines_of (Leaf leaf) = []
