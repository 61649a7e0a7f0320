-- What a bot's journal means as the state of a link, and what a link writes into it.
use Rattle.std.specs.Prelude.{◌≡◌, ℕ, zero, suc, ◌+◌, ◌==◌, nat_le, nat_lt, Bool, true, false, ◌&&◌, List, [], ◌∷◌, ◌++◌, length, slice_get, if◌then◌else◌, Option, None, Some, is_none, is_some, option_map}
use Rattle.std.specs.List.{list_all, AllByRecursion}
use Rattle.userfile.specs.Records.{Records}
use Rattle.userfile.specs.Apply.{refusal}
use Rattle.userfile.specs.Together.{records_fault, AreSound}
use Rattle.botjournal.specs.declared.base.Base.{Base}
use Rattle.botjournal.specs.declared.entry.Entry.{Entry}
use Rattle.botjournal.specs.declared.entry.Entry.TheVariants.{Accepted, Settled, Applied, ReqOut, ReqDone}
use Rattle.botjournal.specs.declared.reply.Reply.{Reply}
use Rattle.botjournal.specs.Bases.{are_out}
use Rattle.botjournal.specs.Contents.{Contents, added, rebased}
use Rattle.protocol.specs.Numbers.{last_number, item_at}
use Rattle.protocol.specs.Snapshots.{items_of, records_from}
use Rattle.protocol.specs.HubRules.{HubState, HubRecord, Accept, Settle, Rebase, AreInTurn, version_of, last_request, next_number, hub_folded}
use Rattle.protocol.specs.LeafRules.{LeafState, LeafRecord, Apply, Out, Done, Install, Compact, is_out, may_go_out, leaf_folded}

-- ---- reading entries

-- one more entry: none if it is no record of this state
abbrev pub read_next : {Kept Record : Type 0} → (Kept → Entry → Option Record) → (Kept → Record → Kept) → Option Kept → Entry
    → Option Kept
read_next record_of folded None entry = None
read_next record_of folded (Some kept) entry = option_map (folded kept) (record_of kept entry)

-- the entries folded in, the first of them first
abbrev pub reads : {Kept Record : Type 0} → (Kept → Entry → Option Record) → (Kept → Record → Kept) → Option Kept → List Entry
    → Option Kept
reads record_of folded start [] = start
reads record_of folded start (entry ∷ entries) = reads record_of folded (read_next record_of folded start entry) entries

-- records that one userfile can hold together
abbrev pub stand_together : Records → Bool
stand_together records = is_none (records_fault records.users records.bans)

-- ---- the hub

-- the replies to a leaf among those of a base
abbrev pub replies_among : ℕ → List Reply → List Reply
replies_among leaf [] = []
replies_among leaf (reply ∷ replies) =
    if reply.leaf == leaf then reply ∷ replies_among leaf replies else replies_among leaf replies

-- a place for each leaf from the first on
abbrev pub replies_of : ℕ → ℕ → List Reply → List (List Reply)
replies_of first zero replies = []
replies_of first (suc count) replies = replies_among first replies ∷ replies_of (first + 1) count replies

-- all replies that are kept, those to the first leaf first
abbrev pub replies_in : List (List Reply) → List Reply
replies_in [] = []
replies_in (kept ∷ others) = kept ++ replies_in others

-- a hub on a base alone
abbrev pub hub_of : ℕ → ℕ → Base → HubState
hub_of leaves generation base = record {
  floor = base.version;
  tail = [];
  records = records_from base.records;
  replies = replies_of 1 leaves base.replies;
  generation = generation;
}

-- the base of a hub's state
abbrev pub hub_base : HubState → Base
hub_base hub = record {
  bot = 0;
  version = version_of hub;
  records = items_of hub.records;
  replies = replies_in hub.replies;
  last_request = 0;
  out = [];
}

-- the reply is to one of this number of leaves, which are numbered from 1 on
abbrev pub is_to_leaf : ℕ → Reply → Bool
is_to_leaf leaves reply = nat_lt 0 reply.leaf && nat_le reply.leaf leaves

-- the base is a hub's with at most this number of leaves
abbrev pub is_hub_base : ℕ → Base → Bool
is_hub_base leaves base =
    (base.bot == 0) && (list_all (is_to_leaf leaves) base.replies && stand_together (records_from base.records))

-- the request is the leaf's next one, and the leaf has a place
abbrev pub is_next_of : Option (List Reply) → ℕ → Bool
is_next_of None request = false
is_next_of (Some kept) request = request == (last_request kept + 1)

-- the same for an accepted change; the hub's own has request number 0
abbrev pub is_next : List (List Reply) → ℕ → ℕ → Bool
is_next replies zero request = request == 0
is_next replies (suc place) request = is_next_of (slice_get replies place) request

abbrev pub record_if : {Record : Type 0} → Bool → Record → Option Record
record_if may entry = if may then Some entry else None

-- what an entry means to a hub in this state: none if it isn't the hub's, or can't be the next
abbrev pub hub_record : HubState → Entry → Option HubRecord
hub_record hub (Accepted origin request change) =
    record_if (is_none (refusal hub.records change) && (nat_lt (version_of hub) last_number && is_next hub.replies origin request))
    (Accept (record { origin = origin; request = request; change = change }))
hub_record hub (Settled leaf request fault) = record_if (is_next_of (item_at hub.replies leaf) request) (Settle leaf fault)
hub_record hub (Applied number change) = None
hub_record hub (ReqOut request change) = None
hub_record hub (ReqDone request) = None

-- what the contents of a journal mean to a hub with this number of leaves
abbrev pub hub_meaning : ℕ → Contents → Option HubState
hub_meaning leaves contents =
    if is_hub_base leaves contents.base
    then reads hub_record hub_folded (Some (hub_of leaves contents.generation contents.base)) contents.entries
    else None

-- what a record makes of the contents: one more entry, or another base
abbrev pub hub_written : Contents → HubState → HubRecord → Contents
hub_written contents hub (Accept entry) = added (Accepted entry.origin entry.request entry.change) contents
hub_written contents hub (Settle leaf fault) = added (Settled leaf (next_number (item_at hub.replies leaf)) fault) contents
hub_written contents hub Rebase = rebased (hub_base hub) contents

-- a record that the journal may take now
abbrev pub HubMay : HubState → HubRecord → Type 0
HubMay hub (Accept entry) =
    (refusal hub.records entry.change ≡ None)
    × ((nat_lt (version_of hub) last_number ≡ true) × (is_next hub.replies entry.origin entry.request ≡ true))
HubMay hub (Settle leaf fault) = is_some (item_at hub.replies leaf) ≡ true
HubMay hub Rebase = Unit {0}

-- all replies are to this leaf
abbrev pub AreTo : ℕ → List Reply → Type 0
AreTo leaf kept = AllByRecursion (λ (reply : Reply). reply.leaf ≡ leaf) kept

-- the state of a hub with this number of leaves: a place for each leaf, the replies to it there, and the records of a
-- userfile
pub record IsHubState (leaves : ℕ) (hub : HubState) : Type 0 where
  pub places : length hub.replies ≡ leaves
  pub placed : (place : ℕ) (kept : List Reply) → slice_get hub.replies place ≡ Some kept → AreTo (suc place) kept
  pub in_turn : (place : ℕ) (kept : List Reply) → slice_get hub.replies place ≡ Some kept → AreInTurn kept
  pub records : AreSound hub.records

-- ---- a leaf

-- a leaf on a base alone
abbrev pub leaf_of : ℕ → Base → LeafState
leaf_of generation base = record {
  version = base.version;
  records = records_from base.records;
  last = base.last_request;
  out = base.out;
  generation = generation;
}

-- the base of a leaf's state
abbrev pub leaf_base : ℕ → LeafState → Base
leaf_base number leaf = record {
  bot = number;
  version = leaf.version;
  records = items_of leaf.records;
  replies = [];
  last_request = leaf.last;
  out = leaf.out;
}

-- the base is that of the leaf with this number
abbrev pub is_leaf_base : ℕ → Base → Bool
is_leaf_base number base = (base.bot == number) && stand_together (records_from base.records)

-- what an entry means to a leaf in this state: none if it isn't a leaf's, or can't be the next
abbrev pub leaf_record : LeafState → Entry → Option LeafRecord
leaf_record leaf (Applied number change) =
    record_if (is_none (refusal leaf.records change) && (number == (leaf.version + 1))) (Apply change)
leaf_record leaf (ReqOut request change) =
    record_if (may_go_out leaf.last leaf.out && (request == (leaf.last + 1))) (Out change)
leaf_record leaf (ReqDone request) = record_if (is_out request leaf.out) (Done request)
leaf_record leaf (Accepted origin request change) = None
leaf_record leaf (Settled of request fault) = None

-- what the contents of a journal mean to the leaf of this number
abbrev pub leaf_meaning : ℕ → Contents → Option LeafState
leaf_meaning number contents =
    if is_leaf_base number contents.base
    then reads leaf_record leaf_folded (Some (leaf_of contents.generation contents.base)) contents.entries
    else None

-- what a record makes of the contents
abbrev pub leaf_written : ℕ → Contents → LeafState → LeafRecord → Contents
leaf_written number contents leaf (Apply change) = added (Applied (leaf.version + 1) change) contents
leaf_written number contents leaf (Out change) = added (ReqOut (leaf.last + 1) change) contents
leaf_written number contents leaf (Done request) = added (ReqDone request) contents
leaf_written number contents leaf (Install version records) =
    rebased (leaf_base number (record leaf { version = version; records = records })) contents
leaf_written number contents leaf Compact = rebased (leaf_base number leaf) contents

-- a record that the journal may take now
abbrev pub LeafMay : LeafState → LeafRecord → Type 0
LeafMay leaf (Apply change) = refusal leaf.records change ≡ None
LeafMay leaf (Out change) = may_go_out leaf.last leaf.out ≡ true
LeafMay leaf (Done request) = is_out request leaf.out ≡ true
LeafMay leaf (Install version records) = AreSound records
LeafMay leaf Compact = Unit {0}

-- the state of a leaf: the records of a userfile, and requests that may be outstanding, as those of a base
pub record IsLeafState (leaf : LeafState) : Type 0 where
  pub records : AreSound leaf.records
  pub out : are_out leaf.last leaf.out ≡ true
