-- What reading a journal's contents and taking one more entry return, and what a new end keeps.
use Rattle.std.specs.Prelude.{◌≡◌, ◌==◌, ◌&&◌, ℕ, suc, Bool, true, false, List, [], slice_get, Option, None, Some, is_some, Result, Ok, Err}
use Rattle.std.specs.List.{list_all}
use Rattle.bytetext.specs.declared.failure.Failure.{Failure}
use Rattle.bytetext.specs.declared.failure.Failure.TheVariants.{Refused, NoMemory}
use Rattle.userfile.specs.Records.{Records}
use Rattle.userfile.specs.Apply.{grows}
use Rattle.usercodec.specs.declared.records.Record.{Record as UserfileRecord}
use Rattle.botjournal.specs.declared.base.Base.{Base}
use Rattle.botjournal.specs.declared.entry.Entry.{Entry}
use Rattle.botjournal.specs.declared.reply.Reply.{Reply}
use Rattle.botjournal.specs.declared.found.Found.{Found}
use Rattle.botjournal.specs.Contents.{Contents}
use Rattle.botjournal.specs.declared.entry.Entry.TheVariants.{Accepted, Settled, Applied, ReqOut, ReqDone}
use Rattle.protocol.specs.Snapshots.{records_from}
use Rattle.protocol.specs.HubRules.{HubState, AreInTurn}
use Rattle.protocol.specs.LeafRules.{LeafState}
use Rattle.protocol.specs.Journals.{read_next, reads, stand_together, record_if, hub_of, is_hub_base, is_to_leaf, AreTo, leaf_of, is_leaf_base}
use Rattle.sharelink.specs.declared.state_fault.StateFault.{StateFault}

-- the result is what the contents mean, and an error says that they mean nothing
abbrev pub Reads : {Kept : Type 0} → Option Kept → Result Kept (Failure StateFault) → Type 0
Reads meant (Ok kept) = meant ≡ Some kept
Reads meant (Err (Refused fault)) = meant ≡ None
Reads meant (Err NoMemory) = Unit {0}

-- the next entry is folded in, or rejected as no record of this state; memory runs out only if it is one
abbrev pub Takes : {Kept Record : Type 0} → (Kept → Entry → Option Record) → (Kept → Record → Kept) → Kept → Entry
    → Result Unit (Failure StateFault) → Kept → Type 0
Takes record_of folded old entry (Ok _) new = read_next record_of folded (Some old) entry ≡ Some new
Takes record_of folded old entry (Err (Refused fault)) new = (record_of old entry ≡ None) × (new ≡ old)
Takes record_of folded old entry (Err NoMemory) new = (is_some (record_of old entry) ≡ true) × (new ≡ old)

-- the entries are folded in, the first of them first, or one of them is no record of the state before it
abbrev pub TakesAll : {Kept Record : Type 0} → (Kept → Entry → Option Record) → (Kept → Record → Kept) → Kept → List Entry
    → Result Unit (Failure StateFault) → Kept → Type 0
TakesAll record_of folded old entries (Ok _) new = reads record_of folded (Some old) entries ≡ Some new
TakesAll record_of folded old entries (Err (Refused fault)) new = reads record_of folded (Some old) entries ≡ None
TakesAll record_of folded old entries (Err NoMemory) new = Unit {0}

-- the base of a bot before the first change, when its last request had this number
abbrev pub empty_base : ℕ → ℕ → Base
empty_base bot last = record { bot = bot; version = 0; records = []; replies = []; last_request = last; out = [] }

-- the records of a base, if one userfile can hold them together
abbrev pub sound_records : List UserfileRecord → Option Records
sound_records items = record_if (stand_together (records_from items)) (records_from items)

-- what was found in a journal of this layout and generation
abbrev pub contents_in : ℕ → ℕ → Found → Contents
contents_in layout generation found =
    record { layout = layout; generation = generation; base = found.base; entries = found.entries }

-- a hub on a base alone, if the base is a hub's
abbrev pub hub_on : ℕ → ℕ → Base → Option HubState
hub_on leaves generation base = record_if (is_hub_base leaves base) (hub_of leaves generation base)

-- the base is a hub's, and has replies to at most this number of leaves
abbrev pub is_hubs : ℕ → Base → Bool
is_hubs leaves base = (base.bot == 0) && list_all (is_to_leaf leaves) base.replies

-- a leaf on a base alone, if the base is that leaf's
abbrev pub leaf_on : ℕ → ℕ → Base → Option LeafState
leaf_on number generation base = record_if (is_leaf_base number base) (leaf_of generation base)

-- what a hub keeps of a leaf: replies to it, at most eight, whose requests have consecutive numbers
abbrev pub IsKept : ℕ → List Reply → Type 0
IsKept leaf kept = AreTo leaf kept × AreInTurn kept

-- each leaf's replies are at its place
abbrev pub ArePlaced : List (List Reply) → Type 0
ArePlaced replies = (place : ℕ) (kept : List Reply) → slice_get replies place ≡ Some kept → IsKept (suc place) kept

-- the entry has a change that a hub accepted
abbrev pub is_accepted : Entry → Bool
is_accepted (Accepted origin request change) = true
is_accepted (Settled leaf request fault) = false
is_accepted (Applied number change) = false
is_accepted (ReqOut request change) = false
is_accepted (ReqDone request) = false

-- the entry has a change that a leaf keeps, or one that adds something to its records
abbrev pub wants_room : Entry → Bool
wants_room (Accepted origin request change) = false
wants_room (Settled leaf request fault) = false
wants_room (Applied number change) = grows change
wants_room (ReqOut request change) = true
wants_room (ReqDone request) = false
