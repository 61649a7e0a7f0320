-- What holds at each moment of history.
use Rattle.std.specs.Prelude.{◌≡◌, ◌⊎◌, ℕ, suc, ◌+◌, ◌≤◌, true, List, [], ◌∷◌, length, None, Some}
use Rattle.userfile.specs.Apply.{refusal}
use Rattle.userfile.specs.Together.{AreSound}
use Rattle.userfile.specs.declared.change.Change.{Change as UserChange}
use Rattle.usercodec.specs.declared.records.Record.{Record}
use Rattle.botjournal.specs.declared.request.Request.{Request as OutRequest}
use Rattle.botjournal.specs.declared.reply.Verdict.{Verdict}
use Rattle.botjournal.specs.declared.reply.Verdict.TheVariants.{Taken}
use Rattle.protocol.specs.Numbers.{item_at}
use Rattle.protocol.specs.Packets.{AcceptedChange}
use Rattle.protocol.specs.Bots.{Bot}
use Rattle.protocol.specs.Snapshots.{PartSet, part_count, part_of}
use Rattle.protocol.specs.HubRules.{HubRecord, Accept, Settle, Rebase}
use Rattle.protocol.specs.LeafRules.{LeafRecord, Apply, Out, Done, Install, Compact, LeafLoose, is_out}
use Rattle.protocol.specs.History.{PastHub, PastLeaf, HubPast, LeafPast, History, asked_of, records_of}
use Rattle.protocol.specs.Truth.{IsTrue, AllSent}

-- ---- the hub

-- the accepted change of this number is the hub's own; or its leaf asked for that change under its request number, and
-- the answer to that request is this number
abbrev pub IsOwned : (ℕ → List Verdict) → (ℕ → List UserChange) → ℕ → AcceptedChange → Type 0
IsOwned answers asked number entry =
    (entry.origin ≡ 0)
    ⊎
    ((item_at (answers entry.origin) entry.request ≡ Some (Taken number)) × (item_at (asked entry.origin) entry.request ≡ Some entry.change))

-- what the hub keeps: the records before an accepted change don't refuse it, the records at each version are a
-- userfile's, each accepted change has its owner, and the floor is a version that was reached
pub record HubHolds (asked : ℕ → List UserChange) (hub : PastHub) : Type 0 where
  pub taken : (place : ℕ) (entry : AcceptedChange) → item_at hub.accepted (suc place) ≡ Some entry
      → refusal (records_of hub.accepted place) entry.change ≡ None
  pub whole : (version : ℕ) → version ≤ length hub.accepted → AreSound (records_of hub.accepted version)
  pub owned : (number : ℕ) (entry : AcceptedChange) → item_at hub.accepted number ≡ Some entry → IsOwned hub.answers asked number entry
  pub floor : hub.floor ≤ length hub.accepted

-- a record that the hub may journal: an accepted change isn't refused, and is the hub's own or what its leaf asked next
abbrev pub HubFits : (ℕ → List UserChange) → PastHub → HubRecord → Type 0
HubFits asked hub (Accept entry) =
    (refusal (records_of hub.accepted (length hub.accepted)) entry.change ≡ None)
    × ((entry.origin ≡ 0)
    ⊎ ((entry.request ≡ length (hub.answers entry.origin) + 1) × (item_at (asked entry.origin) entry.request ≡ Some entry.change)))
HubFits asked hub (Settle leaf fault) = Unit {0}
HubFits asked hub Rebase = Unit {0}

-- ---- a leaf

-- each outstanding request is one that the leaf made, with its change
abbrev pub AreAsked : List UserChange → List OutRequest → Type 0
AreAsked asked [] = Unit {0}
AreAsked asked (request ∷ requests) = (item_at asked request.number ≡ Some request.change) × AreAsked asked requests

-- what a leaf keeps: its version was reached, its outstanding requests were asked, and each request that it made is
-- outstanding or was answered
pub record LeafHolds (hub : PastHub) (number : ℕ) (leaf : PastLeaf) : Type 0 where
  pub version : leaf.version ≤ length hub.accepted
  pub asked : AreAsked leaf.asked leaf.out
  pub answered : (request : ℕ) → request ≤ length leaf.asked
      → (is_out request leaf.out ≡ true) ⊎ (request ≤ length (hub.answers number))

-- a record that a leaf may journal
abbrev pub LeafFits : PastHub → ℕ → PastLeaf → LeafRecord → Type 0
LeafFits hub number leaf (Apply change) =
    (entry : AcceptedChange) × (item_at hub.accepted (suc leaf.version) ≡ Some entry) × (entry.change ≡ change)
LeafFits hub number leaf (Out change) = Unit {0}
LeafFits hub number leaf (Done request) = request ≤ length (hub.answers number)
LeafFits hub number leaf (Install version records) =
    (leaf.version ≤ version) × (version ≤ length hub.accepted) × (records ≡ records_of hub.accepted version)
LeafFits hub number leaf Compact = Unit {0}

-- each part of a set is one of the records at its version
pub record IsTrueSet (accepted : List AcceptedChange) (set : PartSet) : Type 0 where
  pub reached : set.version ≤ length accepted
  pub many : length set.parts ≡ part_count (records_of accepted set.version)
  pub these : (number : ℕ) (items : List Record) → item_at set.parts number ≡ Some (Some items)
      → items ≡ part_of (records_of accepted set.version) number

abbrev pub KeepsTrueParts : PastHub → LeafLoose → Type 0
KeepsTrueParts hub loose = (set : PartSet) → loose.parts ≡ Some set → IsTrueSet hub.accepted set

-- ---- a bot, and the net

-- a record is in doubt only while the bot is down, and may be journaled
pub record BotSound {Kept Loose Entry : Type 0} (Holds : Kept → Type 0) (HoldsLoose : Loose → Type 0) (Fits : Kept → Entry → Type 0)
    (bot : Bot Kept Loose Entry) : Type 0 where
  pub kept : Holds bot.kept
  pub loose : HoldsLoose bot.loose
  pub doubt : (entry : Entry) → bot.doubt ≡ Some entry → (bot.down ≡ true) × Fits bot.kept entry

abbrev pub HubSound : (ℕ → List UserChange) → HubPast → Type 0
HubSound asked = BotSound (HubHolds asked) (λ (waiting : List UserChange). Unit {0}) (HubFits asked)

abbrev pub LeafSound : PastHub → ℕ → LeafPast → Type 0
LeafSound hub number = BotSound (LeafHolds hub number) (KeepsTrueParts hub) (LeafFits hub number)

-- each bot is sound, and each packet that was ever sent is true
pub record IsSound (h : History) : Type 0 where
  pub hub : HubSound (asked_of h.leaves) h.hub
  pub leaves : (number : ℕ) → LeafSound h.hub.kept number (h.leaves number)
  pub packets : AllSent (IsTrue h.hub.kept (asked_of h.leaves)) h.packets
