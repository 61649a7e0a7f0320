-- A leaf's end of the link as contracts see it, and how its calls match the protocol's.
use Rattle.std.specs.Prelude.{◌≤◌, ℕ, List, [], ◌∷◌, take, Result}
use Rattle.std.specs.List.{AllByRecursion}
use Rattle.userfile.specs.declared.change.Change.{Change}
use Rattle.usercodec.specs.Changes.{IsGoodChange}
use Rattle.usercodec.specs.declared.records.Record.{Record}
use Rattle.sharewire.specs.declared.packet.Packet.{Packet}
use Rattle.sharewire.specs.declared.packet.Packet.TheVariants as wire
use Rattle.botjournal.specs.declared.TheConstants.{LAYOUT}
use Rattle.botjournal.specs.declared.request.Request.{Request}
use Rattle.botjournal.specs.declared.reply.Verdict.{Verdict as Outcome}
use Rattle.botjournal.specs.declared.reply.Verdict.TheVariants.{Taken, Refused as refused_request}
use Rattle.protocol.specs.Numbers.{place_of}
use Rattle.protocol.specs.Packets.{from_wire}
use Rattle.protocol.specs.Packets.Packet.{BotText, Part}
use Rattle.protocol.specs.Notes.{Note}
use Rattle.protocol.specs.Notes.Note.{Idle, Sent, Accepted, Refused as RefusedFor}
use Rattle.protocol.specs.Bots.{How, Row, unless_down}
use Rattle.protocol.specs.HubRules.{text_told}
use Rattle.protocol.specs.LeafRules.{Leaf, LeafState, LeafRecord, Compact, LeafLoose, highest, leaf_asked, sent_again, leaf_pumped, leaf_pumped_up, leaf_received, leaf_received_up, change_placed, reply_received, part_taken, leaf_compacted, leaf_restarted, leaf_folded}
use Rattle.protocol.specs.Journals.{leaf_meaning}
use Rattle.protocol.specs.Snapshots.{set_for, with_part}
use Rattle.sharelink.specs.declared.TheConstants.{MAX_LEAVES}
use Rattle.sharelink.specs.Records.{LeafMayWrite}
use Rattle.sharelink.specs.Kept.{Kept, AreOf, Renews}
use Rattle.sharelink.specs.declared.answer.Answer.{Answer as Reply}
use Rattle.sharelink.specs.declared.answer.Outgoing.{Outgoing}
use Rattle.sharelink.specs.declared.error.LinkFault.{LinkFault}
use Rattle.bytetext.specs.declared.failure.Failure.{Failure}
use Rattle.sharelink.specs.StateEnds.{End, end_of, Calls as EndCalls, CallsRestart as EndRestarts}

abbrev pub LeafEnd : Type 0
LeafEnd = End Leaf

-- bytes of two disks that belong to the leaf of this number: they mean what it keeps, or that with the record in doubt
abbrev pub IsOwn : ℕ → Leaf → List ℕ → List ℕ → Type 0
IsOwn number leaf = AreOf (leaf_meaning number) leaf_folded leaf.kept leaf.doubt

-- what a leaf becomes when its journal is rewritten: the journal gets its state alone, and has a next generation
abbrev pub RenewsLeaf : LeafState → LeafState → Type 0
RenewsLeaf = Renews LeafMayWrite leaf_folded Compact

-- a leaf's call meets its row
abbrev pub Calls : LeafEnd → (How → Row Leaf) → Result Reply (Failure LinkFault) → LeafEnd → Type 0
Calls old row result new = EndCalls (IsOwn old.number) old row result new

abbrev pub CallsRestart : LeafEnd → (How → Row Leaf) → Result Reply (Failure LinkFault) → LeafEnd → Type 0
CallsRestart old row result new = EndRestarts (IsOwn old.number) old row result new

-- what a leaf keeps in its journal
abbrev pub KeptLeaf : Type 0
KeptLeaf = Kept LeafState LeafRecord

-- what is kept, with what a restart loses
abbrev pub leaf_end : ℕ → KeptLeaf → LeafLoose → LeafEnd
leaf_end leaves leaf loose = end_of leaf.who leaves leaf loose

-- only the oldest asks, at most this number
abbrev pub keeps_asks : LeafEnd → ℕ → LeafEnd
keeps_asks leaf count =
    record leaf { bot = record leaf.bot { loose = record leaf.bot.loose { waiting = take count leaf.bot.loose.waiting } } }

-- ---- how a call matches its row

module _ (leaf : LeafEnd) where
  abbrev pub asked : Change → How → Row Leaf
  asked change how = leaf_asked leaf.bot change

  abbrev pub pumped : How → Row Leaf
  pumped how = leaf_pumped leaf.leaves leaf.number how leaf.bot

  -- the row of a leaf that is up
  abbrev pub pumped_up : How → Row Leaf
  pumped_up how = leaf_pumped_up leaf.leaves leaf.number how leaf.bot leaf.bot.kept.out leaf.bot.loose.waiting

  -- the row of the outstanding requests
  abbrev pub sent_again_at : How → Row Leaf
  sent_again_at how = sent_again leaf.leaves leaf.number how leaf.bot leaf.bot.kept.out

  abbrev pub received : Packet → How → Row Leaf
  received packet how = leaf_received leaf.leaves leaf.number how leaf.bot (from_wire packet)

  -- the row of a change
  abbrev pub change_placed_at : ℕ → Change → How → Row Leaf
  change_placed_at number change how =
      change_placed leaf.leaves leaf.number how leaf.bot change (place_of number leaf.bot.kept.version)

  -- the row of a reply
  abbrev pub reply_placed_at : ℕ → ℕ → Outcome → How → Row Leaf
  reply_placed_at of request reply how = reply_received leaf.leaves leaf.number how leaf.bot of request reply

  -- the row of a part
  abbrev pub part_placed_at : ℕ → ℕ → ℕ → List Record → How → Row Leaf
  part_placed_at version part count items how =
      leaf_received_up leaf.leaves leaf.number how leaf.bot (Part version part count items)

  -- the row of a part that is new
  abbrev pub part_taken_at : ℕ → ℕ → ℕ → List Record → How → Row Leaf
  part_taken_at version part count items how =
      part_taken leaf.leaves leaf.number how leaf.bot part (with_part (set_for leaf.bot.loose.parts version count) part items)

  -- the row of a text
  abbrev pub text_placed_at : ℕ → ℕ → List ℕ → How → Row Leaf
  text_placed_at from to text how = leaf_received_up leaf.leaves leaf.number how leaf.bot (BotText from to text)

  abbrev pub compacted : How → Row Leaf
  compacted how = leaf_compacted leaf.leaves leaf.number how leaf.bot

  abbrev pub restarted : How → Row Leaf
  restarted how = leaf_restarted leaf.leaves leaf.number how leaf.bot

  -- the leaf sends a text to the hub
  abbrev pub told : ℕ → List ℕ → Row Leaf
  told to text = unless_down leaf.bot (text_told leaf.bot leaf.leaves leaf.number 0 to text)

-- the leaf's number is one of the net's, which has at most 1,000 leaves, and each waiting ask has a spelling
pub record IsLink (leaves number : ℕ) (waiting : List Change) : Type 0 where
  pub numbered : number ≤ leaves
  pub few : leaves ≤ MAX_LEAVES
  pub good : AllByRecursion IsGoodChange waiting

-- ---- what is sent

-- a hello, and a request, to the hub
abbrev pub hello_packet : ℕ → ℕ → Outgoing
hello_packet leaf version = record { to = 0; packet = wire.Hello LAYOUT leaf version }

abbrev pub request_packet : ℕ → ℕ → Change → Outgoing
request_packet leaf request change = record { to = 0; packet = wire.Request leaf request change }

abbrev pub request_packets : ℕ → List Request → List Outgoing
request_packets leaf [] = []
request_packets leaf (request ∷ requests) = request_packet leaf request.number request.change ∷ request_packets leaf requests

-- the note of requests that go out again
abbrev pub again_note : List Request → Note
again_note [] = Idle
again_note (request ∷ requests) = Sent (highest (request ∷ requests))

-- the note of a reply
abbrev pub reply_note : Outcome → Note
reply_note (Taken number) = Accepted number
reply_note (refused_request fault) = RefusedFor fault
