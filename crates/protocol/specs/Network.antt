-- The net of links, and its steps. The caller chooses which bot acts and which packet is delivered, as often as it
-- likes.
use Rattle.std.specs.Prelude.{ℕ, zero, suc, false, List, [], ◌∷◌, ◌++◌, slice_get, slice_set, Option, None, Some, Result}
use Rattle.userfile.specs.Records.{no_records}
use Rattle.userfile.specs.declared.change.Change.{Change as UserChange}
use Rattle.protocol.specs.Numbers.{item_at}
use Rattle.protocol.specs.Packets.{Outgoing, Sent}
use Rattle.protocol.specs.Notes.{Note, LinkFault}
use Rattle.protocol.specs.Bots.{How, Fails, Row}
use Rattle.protocol.specs.HubRules.{Hub, hub_asked, text_told, hub_pumped, hub_received, hub_compacted, hub_restarted}
use Rattle.protocol.specs.LeafRules.{Leaf, no_loose, leaf_asked, leaf_pumped, leaf_received, leaf_compacted, leaf_restarted}
use Rattle.protocol.specs.Bots.{unless_down}
use Rattle.botjournal.specs.declared.reply.Reply.{Reply}

-- a hub, its leaves, and every packet that was ever sent; a leaf's place is one below its number
pub record Net : Type 0 where
  pub count : ℕ
  pub hub : Hub
  pub leaves : List Leaf
  pub packets : List Sent

-- what a bot can be asked to do
pub data Event : Type 0 where
  Ask : UserChange → Event
  Pump : Event
  Tell : (to : ℕ) (text : List ℕ) → Event
  Compact : Event
  Restart : Event

-- a step: an event at a bot, or the delivery of the packet of this number
pub data Step : Type 0 where
  At : (bot : ℕ) → Event → Step
  Deliver : (number : ℕ) → Step

-- what a step reports
pub data Outcome : Type 0 where
  Report : (bot : ℕ) → Result Note LinkFault → Outcome
  OutOfMemory : Outcome
  NoSuchBot : Outcome
  NoSuchPacket : Outcome

-- how a step goes: the bot makes its call, while the device does this; or memory runs out first
pub data Course : Type 0 where
  Makes : How → Course
  LacksMemory : Course

-- what a step reports, sends and leaves
pub record Stepped : Type 0 where
  pub outcome : Outcome
  pub sends : List Outgoing
  pub after : Net

abbrev pub posted : ℕ → List Outgoing → List Sent
posted from [] = []
posted from (outgoing ∷ packets) = record { from = from; to = outgoing.to; packet = outgoing.packet } ∷ posted from packets

-- ---- one bot moves

abbrev pub unmoved : Net → Outcome → Stepped
unmoved old outcome = record { outcome = outcome; sends = []; after = old }

abbrev pub hub_stepped : Net → Row Hub → Stepped
hub_stepped old row = record {
  outcome = Report 0 row.told;
  sends = row.sends;
  after = record old { hub = row.after; packets = old.packets ++ posted 0 row.sends };
}

abbrev pub leaf_stepped : Net → ℕ → Row Leaf → Stepped
leaf_stepped old place row = record {
  outcome = Report (suc place) row.told;
  sends = row.sends;
  after = record old { leaves = slice_set old.leaves place row.after; packets = old.packets ++ posted (suc place) row.sends };
}

abbrev pub leaf_met : Net → ℕ → (Leaf → Row Leaf) → Option Leaf → Stepped
leaf_met old place row None = unmoved old NoSuchBot
leaf_met old place row (Some leaf) = leaf_stepped old place (row leaf)

-- the row of the bot of this number
abbrev pub at_bot : Net → ℕ → Row Hub → (ℕ → Leaf → Row Leaf) → Stepped
at_bot old zero hub_row leaf_row = hub_stepped old hub_row
at_bot old (suc place) hub_row leaf_row = leaf_met old place (leaf_row (suc place)) (slice_get old.leaves place)

-- ---- the steps

abbrev pub hub_event : ℕ → How → Hub → Event → Row Hub
hub_event leaves how hub (Ask change) = hub_asked hub change
hub_event leaves how hub Pump = hub_pumped leaves how hub
hub_event leaves how hub (Tell to text) = unless_down hub (text_told hub leaves 0 to to text)
hub_event leaves how hub Compact = hub_compacted leaves how hub
hub_event leaves how hub Restart = hub_restarted leaves how hub

abbrev pub leaf_event : ℕ → How → ℕ → Leaf → Event → Row Leaf
leaf_event leaves how number leaf (Ask change) = leaf_asked leaf change
leaf_event leaves how number leaf Pump = leaf_pumped leaves number how leaf
leaf_event leaves how number leaf (Tell to text) = unless_down leaf (text_told leaf leaves number 0 to text)
leaf_event leaves how number leaf Compact = leaf_compacted leaves number how leaf
leaf_event leaves how number leaf Restart = leaf_restarted leaves number how leaf

abbrev pub delivered : How → Net → Option Sent → Stepped
delivered how old None = unmoved old NoSuchPacket
delivered how old (Some sent) =
    at_bot old sent.to (hub_received old.count how old.hub sent.packet) (λ number leaf. leaf_received old.count number how leaf sent.packet)

abbrev pub happened : How → Net → Step → Stepped
happened how old (At bot event) =
    at_bot old bot (hub_event old.count how old.hub event) (λ number leaf. leaf_event old.count how number leaf event)
happened how old (Deliver number) = delivered how old (item_at old.packets number)

-- a step that runs out of memory: it leaves the net as it was, except that after a restart the bot is down
abbrev pub lacked : Net → Step → Stepped
lacked old (At bot (Ask change)) = unmoved old OutOfMemory
lacked old (At bot Pump) = unmoved old OutOfMemory
lacked old (At bot (Tell to text)) = unmoved old OutOfMemory
lacked old (At bot Compact) = unmoved old OutOfMemory
lacked old (At bot Restart) = record (happened Fails old (At bot Restart)) { outcome = OutOfMemory }
lacked old (Deliver number) = unmoved old OutOfMemory

abbrev pub stepped : Course → Net → Step → Stepped
stepped (Makes how) old step = happened how old step
stepped LacksMemory old step = lacked old step

-- ---- a new net

abbrev pub no_replies : ℕ → List (List Reply)
no_replies zero = []
no_replies (suc count) = [] ∷ no_replies count

abbrev pub new_hub : ℕ → Hub
new_hub count = record {
  kept = record { floor = 0; tail = []; records = no_records; replies = no_replies count; generation = 1 };
  loose = [];
  down = false;
  doubt = None;
}

abbrev pub new_leaf : Leaf
new_leaf = record {
  kept = record { version = 0; records = no_records; last = 0; out = []; generation = 1 };
  loose = no_loose;
  down = false;
  doubt = None;
}

abbrev pub new_leaves : ℕ → List Leaf
new_leaves zero = []
new_leaves (suc count) = new_leaf ∷ new_leaves count

abbrev pub new_net : ℕ → Net
new_net count = record { count = count; hub = new_hub count; leaves = new_leaves count; packets = [] }
