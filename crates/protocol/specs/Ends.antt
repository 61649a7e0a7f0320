-- A bot's end of the link, the hub's or a leaf's, and its calls as rows of one kind.
use Rattle.std.specs.Prelude.{ℕ, zero, suc, Bool, List, take}
use Rattle.userfile.specs.Records.{Records}
use Rattle.userfile.specs.declared.change.Change.{Change as UserChange}
use Rattle.protocol.specs.Packets.{Packet}
use Rattle.protocol.specs.Bots.{How, Row}
use Rattle.protocol.specs.HubRules.{Hub, version_of, hub_received}
use Rattle.protocol.specs.LeafRules.{Leaf, leaf_received}
use Rattle.protocol.specs.Network.{Event, hub_event, leaf_event, new_hub, new_leaf}

-- the hub's end, or a leaf's
pub data End : Type 0 where
  AtHub : Hub → End
  AtLeaf : Leaf → End

-- bot 0 is the hub
abbrev pub new_end : ℕ → ℕ → End
new_end zero leaves = AtHub (new_hub leaves)
new_end (suc place) leaves = AtLeaf new_leaf

-- ---- what an end shows

abbrev pub end_version : End → ℕ
end_version (AtHub hub) = version_of hub.kept
end_version (AtLeaf leaf) = leaf.kept.version

abbrev pub end_records : End → Records
end_records (AtHub hub) = hub.kept.records
end_records (AtLeaf leaf) = leaf.kept.records

abbrev pub end_is_down : End → Bool
end_is_down (AtHub hub) = hub.down
end_is_down (AtLeaf leaf) = leaf.down

-- the waiting asks
abbrev pub end_asks : End → List UserChange
end_asks (AtHub hub) = hub.loose
end_asks (AtLeaf leaf) = leaf.loose.waiting

-- the end with other asks
abbrev pub with_asks : End → List UserChange → End
with_asks (AtHub hub) asks = AtHub (record hub { loose = asks })
with_asks (AtLeaf leaf) asks = AtLeaf (record leaf { loose = record leaf.loose { waiting = asks } })

-- the end with only its oldest asks, at most this number
abbrev pub with_oldest : End → ℕ → End
with_oldest end count = with_asks end (take count (end_asks end))

-- ---- its calls

-- a row of the hub's, and one of a leaf's
abbrev pub of_hub : Row Hub → Row End
of_hub row = record { told = row.told; sends = row.sends; after = AtHub row.after }

abbrev pub of_leaf : Row Leaf → Row End
of_leaf row = record { told = row.told; sends = row.sends; after = AtLeaf row.after }

-- the bot of this number, in a net of `leaves` leaves
module _ (leaves number : ℕ) (how : How) where
  -- the row of an event at the bot
  abbrev pub end_did : End → Event → Row End
  end_did (AtHub hub) event = of_hub (hub_event leaves how hub event)
  end_did (AtLeaf leaf) event = of_leaf (leaf_event leaves how number leaf event)

  -- the row of a packet that the bot takes
  abbrev pub end_received : End → Packet → Row End
  end_received (AtHub hub) packet = of_hub (hub_received leaves how hub packet)
  end_received (AtLeaf leaf) packet = of_leaf (leaf_received leaves number how leaf packet)
