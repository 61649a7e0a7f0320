-- When a net stands for a moment of history, part by part: what the bots hold follows from what happened.
use Rattle.std.specs.Prelude.{◌≡◌, ℕ, suc, List, length, drop, slice_get, Some}
use Rattle.std.specs.List.{AllByRecursion}
use Rattle.botjournal.specs.declared.reply.Reply.{Reply}
use Rattle.botjournal.specs.declared.reply.Verdict.{Verdict}
use Rattle.protocol.specs.Numbers.{item_at}
use Rattle.protocol.specs.Packets.{AcceptedChange}
use Rattle.protocol.specs.Bots.{Bot}
use Rattle.protocol.specs.HubRules.{HubState, AreInTurn, last_request}
use Rattle.protocol.specs.LeafRules.{LeafState, Leaf}
use Rattle.protocol.specs.History.{PastHub, PastLeaf, History, records_of}
use Rattle.protocol.specs.Network.{Net}

-- the replies that the hub keeps to a leaf are the latest of its answers, and the last one is among them if there is
-- any
pub record KeepsLast (kept : List Reply) (answers : List Verdict) : Type 0 where
  pub in_turn : AreInTurn kept
  pub last : last_request kept ≡ length answers
  pub these : AllByRecursion (λ (reply : Reply). item_at answers reply.request ≡ Some reply.answer) kept

-- the tail is the accepted changes since the floor, and the records are those at the last version
pub record HubStands (state : HubState) (past : PastHub) : Type 0 where
  pub floor : state.floor ≡ past.floor
  pub tail : state.tail ≡ drop past.floor past.accepted
  pub records : state.records ≡ records_of past.accepted (length past.accepted)
  pub replies : (place : ℕ) (kept : List Reply) → slice_get state.replies place ≡ Some kept → KeepsLast kept (past.answers (suc place))

-- the records are those at the leaf's version, its last request number counts what it asked, and the same requests are
-- outstanding
pub record LeafStands (accepted : List AcceptedChange) (state : LeafState) (past : PastLeaf) : Type 0 where
  pub version : state.version ≡ past.version
  pub records : state.records ≡ records_of accepted past.version
  pub last : state.last ≡ length past.asked
  pub out : state.out ≡ past.out

pub record BotStands {State Past Loose Entry : Type 0} (StandsFor : State → Past → Type 0) (bot : Bot State Loose Entry)
    (past : Bot Past Loose Entry) : Type 0 where
  pub kept : StandsFor bot.kept past.kept
  pub loose : bot.loose ≡ past.loose
  pub down : bot.down ≡ past.down
  pub doubt : bot.doubt ≡ past.doubt

pub record Stands (net : Net) (h : History) : Type 0 where
  pub count : net.count ≡ h.count
  pub length : length net.leaves ≡ h.count
  pub hub : BotStands HubStands net.hub h.hub
  pub leaves : (place : ℕ) (leaf : Leaf) → slice_get net.leaves place ≡ Some leaf
      → BotStands (LeafStands h.hub.kept.accepted) leaf (h.leaves (suc place))
  pub packets : net.packets ≡ h.packets
