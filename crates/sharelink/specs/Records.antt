-- Which records an end may journal, and what is written into its journal for each.
use Rattle.std.specs.Prelude.{◌≡◌, ◌+◌, ◌<◌, ◌^◌, ℕ, true, nat_lt}
use Rattle.userfile.specs.Together.{AreSound}
use Rattle.usercodec.specs.Changes.{IsGoodChange}
use Rattle.botjournal.specs.Bases.{AreOut}
use Rattle.botjournal.specs.declared.entry.Entry.TheVariants.{Accepted, Settled, Applied, ReqOut, ReqDone}
use Rattle.botjournal.specs.Ledger.{Pending, Adding, Rebasing}
use Rattle.protocol.specs.Numbers.{last_number, item_at}
use Rattle.protocol.specs.HubRules.{HubState, HubRecord, Accept, Settle, Rebase, next_number}
use Rattle.protocol.specs.LeafRules.{LeafState, LeafRecord, Apply, Out, Done, Install, Compact}
use Rattle.protocol.specs.Journals.{hub_base, leaf_base, HubMay, LeafMay}
use Rattle.protocol.specs.Network.{new_hub, new_leaf}

-- ---- the hub

-- the hub before the first change; it sends no request
abbrev pub start_hub : ℕ → ℕ → HubState
start_hub leaves last = (new_hub leaves).kept

-- a record that the hub's journal may take now, whose numbers are in range
abbrev pub HubMayWrite : HubState → HubRecord → Type 0
HubMayWrite hub (Accept entry) = HubMay hub (Accept entry)
HubMayWrite hub (Settle leaf fault) = HubMay hub (Settle leaf fault) × (next_number (item_at hub.replies leaf) < 2 ^ 32)
HubMayWrite hub Rebase = nat_lt hub.generation last_number ≡ true

-- one more entry, or another base
abbrev pub hub_pending : HubState → HubRecord → Pending
hub_pending hub (Accept entry) = Adding (Accepted entry.origin entry.request entry.change)
hub_pending hub (Settle leaf fault) = Adding (Settled leaf (next_number (item_at hub.replies leaf)) fault)
hub_pending hub Rebase = Rebasing (hub_base hub)

-- ---- a leaf

-- a leaf before the first change, whose last request has this number
abbrev pub start_leaf : ℕ → LeafState
start_leaf last = record new_leaf.kept { last = last }

-- the state of a leaf: the records of a userfile, and requests with spellings that may be outstanding
pub record IsLeafState (leaf : LeafState) : Type 0 where
  pub records : AreSound leaf.records
  pub out : AreOut leaf.last leaf.out

-- a record that the leaf's journal may take now, whose numbers are in range
abbrev pub LeafMayWrite : LeafState → LeafRecord → Type 0
LeafMayWrite leaf (Apply change) = LeafMay leaf (Apply change) × (nat_lt leaf.version last_number ≡ true)
LeafMayWrite leaf (Out change) = LeafMay leaf (Out change) × IsGoodChange change
LeafMayWrite leaf (Done request) = LeafMay leaf (Done request)
LeafMayWrite leaf (Install version records) = AreSound records × (nat_lt leaf.generation last_number ≡ true)
LeafMayWrite leaf Compact = nat_lt leaf.generation last_number ≡ true

-- one more entry, or another base
abbrev pub leaf_pending : ℕ → LeafState → LeafRecord → Pending
leaf_pending number leaf (Apply change) = Adding (Applied (leaf.version + 1) change)
leaf_pending number leaf (Out change) = Adding (ReqOut (leaf.last + 1) change)
leaf_pending number leaf (Done request) = Adding (ReqDone request)
leaf_pending number leaf (Install version records) =
    Rebasing (leaf_base number (record leaf { version = version; records = records }))
leaf_pending number leaf Compact = Rebasing (leaf_base number leaf)
