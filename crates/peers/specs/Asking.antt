-- Which bot may ask for changes, and which of them in nobody's name.
use Rattle.std.specs.Prelude.{◌&&◌, not, Bool, true, false, is_some}
use Rattle.handshake.specs.declared.progress.LeafRights.{LeafRights}
use Rattle.handshake.specs.declared.progress.LeafRights.TheVariants.{Asks, Reads, Persons}
use Rattle.peers.specs.declared.hub_connection.HubConnection.{HubConnection}
use Rattle.peers.specs.declared.links.Links.{Links}
use Rattle.peers.specs.declared.links.Links.TheVariants.{Alone, Hub, Leaf}

-- a leaf that keeps no number of a net was never linked
abbrev pub is_new : HubConnection → Bool
is_new leaf = not (is_some leaf.station.net)

abbrev pub asks : LeafRights → Bool
asks Asks = true
asks Reads = false
asks Persons = true

abbrev pub asks_nameless : LeafRights → Bool
asks_nameless Asks = true
asks_nameless Reads = false
asks_nameless Persons = false

-- as the hub said last, but no leaf that was never linked
abbrev pub may_leaf_ask : HubConnection → Bool
may_leaf_ask leaf = asks leaf.may && not (is_new leaf)

abbrev pub may_leaf_ask_nameless : HubConnection → Bool
may_leaf_ask_nameless leaf = asks_nameless leaf.may && not (is_new leaf)

abbrev pub is_new_leaf : Links → Bool
is_new_leaf Alone = false
is_new_leaf (Hub hub) = false
is_new_leaf (Leaf leaf) = is_new leaf

abbrev pub may_ask : Links → Bool
may_ask Alone = true
may_ask (Hub hub) = true
may_ask (Leaf leaf) = may_leaf_ask leaf

abbrev pub may_ask_nameless : Links → Bool
may_ask_nameless Alone = true
may_ask_nameless (Hub hub) = true
may_ask_nameless (Leaf leaf) = may_leaf_ask_nameless leaf
