-- A bot's end of the link over a journal as contracts see it, and how its calls match their rows.
use Rattle.std.specs.Prelude.{◌≡◌, ◌⊎◌, ℕ, zero, suc, false, List, [], Option, None, Some, option_map, Result, Ok, Err}
use Rattle.bytetext.specs.declared.failure.Failure.{Failure}
use Rattle.bytetext.specs.declared.failure.Failure.TheVariants.{Refused, NoMemory}
use Rattle.userfile.specs.declared.change.Change.{Change as UserChange}
use Rattle.sharewire.specs.declared.packet.Packet.{Packet}
use Rattle.disks.specs.State.{State, may_leave}
use Rattle.bytejournal.specs.Meaning.{IsWhole}
use Rattle.botjournal.specs.Contents.{Contents, meaning}
use Rattle.botjournal.specs.Ledger.{Device, Reopens, AtEachMoment}
use Rattle.protocol.specs.Packets.{from_wire}
use Rattle.protocol.specs.Bots.{How, Works, Fails, Counts, Row}
use Rattle.protocol.specs.HubRules.{HubState}
use Rattle.protocol.specs.LeafRules.{Leaf, LeafState, no_loose}
use Rattle.protocol.specs.Journals.{hub_meaning, leaf_meaning}
use Rattle.protocol.specs.Network.{Event, Ask, Tell, Compact, Restart, new_hub, new_leaf}
use Rattle.protocol.specs.Ends.{End, AtHub, AtLeaf, new_end, with_oldest, end_did, end_received}
use Rattle.sharelink.specs.declared.answer.Answer.{Answer}
use Rattle.sharelink.specs.declared.answer.Outgoing.{Outgoing}
use Rattle.sharelink.specs.declared.error.LinkFault.{LinkFault}
use Rattle.sharelink.specs.Calls.{IsFault}
use Rattle.sharelink.specs.Meets.{Meets, Answers, Restarts, TakesMemory}
use Rattle.sharelink.specs.Texts.{Sends}

-- whose end it is, the number of leaves, what it holds, and its two disks
pub record BotEnd : Type 0 where
  pub number : ℕ
  pub leaves : ℕ
  pub end : End
  pub device : Device

-- an end that was never used
abbrev pub new_bot_end : ℕ → ℕ → Device → BotEnd
new_bot_end number leaves device = record { number = number; leaves = leaves; end = new_end number leaves; device = device }

-- a new leaf whose last request has this number, so that its first one goes under the next number
abbrev pub leaf_after : ℕ → Leaf
leaf_after last = record new_leaf { kept = record new_leaf.kept { last = last } }

-- a new end: a leaf's last request has this number, and the hub, which sends no request, is any new hub
abbrev pub end_after : ℕ → ℕ → ℕ → End
end_after zero leaves last = AtHub (new_hub leaves)
end_after (suc place) leaves last = AtLeaf (leaf_after last)

-- such an end that was never used
abbrev pub bot_end_after : ℕ → ℕ → ℕ → Device → BotEnd
bot_end_after number leaves last device =
    record { number = number; leaves = leaves; end = end_after number leaves last; device = device }

-- ---- rows

-- the rows of an event at the bot, and of a packet that it takes
abbrev pub did : BotEnd → Event → How → Row End
did old event how = end_did old.leaves old.number how old.end event

abbrev pub took : BotEnd → Packet → How → Row End
took old packet how = end_received old.leaves old.number how old.end (from_wire packet)

-- an ask and a text journal nothing, whatever the device does
abbrev pub asked : BotEnd → UserChange → Row End
asked old change = did old (Ask change) Works

abbrev pub told : BotEnd → ℕ → List ℕ → Row End
told old to text = did old (Tell to text) Works

-- ---- what a journal means

-- a hub, and a leaf, whose journal was opened
abbrev pub hub_at_rest : HubState → End
hub_at_rest kept = AtHub (record { kept = kept; loose = []; down = false; doubt = None })

abbrev pub leaf_at_rest : LeafState → End
leaf_at_rest kept = AtLeaf (record { kept = kept; loose = no_loose; down = false; doubt = None })

-- what the contents of a journal mean to the bot of this number, in a net of `leaves` leaves
abbrev pub end_meaning : ℕ → ℕ → Contents → Option End
end_meaning zero leaves contents = option_map hub_at_rest (hub_meaning leaves contents)
end_meaning (suc place) leaves contents = option_map leaf_at_rest (leaf_meaning (suc place) contents)

-- the end after a compaction: its state alone is in the journal
abbrev pub compacted : ℕ → ℕ → End → End
compacted number leaves end = (end_did leaves number Works end Compact).after

-- what an end becomes when its journal has an older layout and is rewritten, as a compaction does it
abbrev pub RenewsEnd : ℕ → ℕ → End → End → Type 0
RenewsEnd number leaves before end = end ≡ compacted number leaves before

-- ---- what is left behind

-- these bytes of two disks mean what a restart finds, with the record in doubt or without it
pub record MeanEnd (link : BotEnd) (x y : List ℕ) : Type 0 where
  pub contents : Contents
  pub found : meaning x y ≡ Some contents
  pub means : (end_meaning link.number link.leaves contents ≡ Some (did link Restart Works).after)
      ⊎ (end_meaning link.number link.leaves contents ≡ Some (did link Restart Counts).after)

-- these bytes are the bot's: they mean what a restart finds, and all gates exist
pub record AreOf (link : BotEnd) (x y : List ℕ) : Type 0 where
  pub mean : MeanEnd link x y
  pub first_whole : IsWhole x
  pub second_whole : IsWhole y

-- whatever a crash leaves on the disks is the bot's
abbrev pub MayLeave : State → State → BotEnd → Type 0
MayLeave first second link = (x y : List ℕ) → may_leave first x → may_leave second y → AreOf link x y

-- at each moment of a call a crash leaves what is the bot's
abbrev pub LeavesOwn : BotEnd → Device → Device → Type 0
LeavesOwn link before now = AtEachMoment before now (AreOf link)

-- ---- calls

-- A call meets its row, and the bot keeps its identity. If it calls a disk, a crash at any moment of the call leaves
-- what belongs to the bot that the row leaves when the device fails.
pub record Calls (old : BotEnd) (rule : How → Row End) (result : Result Answer (Failure LinkFault)) (new : BotEnd) : Type 0 where
  pub row : Meets rule old.end old.device result new.end new.device
  pub number : new.number ≡ old.number
  pub leaves : new.leaves ≡ old.leaves
  pub moments : (new.device ≡ old.device) ⊎ LeavesOwn (record old { end = (rule Fails).after }) old.device new.device

-- the same for a restart, which reopens both disks, whatever its result
pub record CallsRestart (old : BotEnd) (result : Result Answer (Failure LinkFault)) (new : BotEnd) : Type 0 where
  pub row : Restarts (did old Restart) old.device result new.end new.device
  pub reopened : Reopens old.device new.device
  pub moments : LeavesOwn old old.device new.device
  pub number : new.number ≡ old.number
  pub leaves : new.leaves ≡ old.leaves

-- An ask, by cases on its result: it changes nothing but the waiting asks.
abbrev pub Asks : BotEnd → UserChange → Result Answer (Failure LinkFault) → BotEnd → Type 0
Asks old change (Ok answer) new = Answers (asked old change) answer new.end × (new ≡ record old { end = new.end })
Asks old change (Err (Refused fault)) new = IsFault fault (asked old change).told × (new ≡ old)
Asks old change (Err NoMemory) new = TakesMemory (did old (Ask change)) (asked old change).told × (new ≡ old)

-- A text to another bot, when this number of texts were sent before it.
abbrev pub Tells : BotEnd → ℕ → List ℕ → ℕ → Result Outgoing (Failure LinkFault) → Type 0
Tells old to text sent result = Sends (told old to text) sent result

-- only the oldest asks stay, at most this number
abbrev pub keeps_asks : BotEnd → ℕ → BotEnd
keeps_asks old count = record old { end = with_oldest old.end count }
