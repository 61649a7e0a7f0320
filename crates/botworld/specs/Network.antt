-- Moments of the network, its steps, and what holds of each one.
use Rattle.std.specs.Prelude.{◌≡◌, ◌≢◌, ℕ, suc, ◌+◌, ◌<◌, ◌≤◌, List, [], ◌∷◌, ◌++◌, length, slice_get, Option, None, Some, Ok}
use Rattle.userfile.specs.Apply.{refusal}
use Rattle.userfile.specs.declared.change.Change.{Change}
use Rattle.sharewire.specs.declared.packet.Packet.TheVariants.{Change as change_packet}
use Rattle.protocol.specs.Packets.{AcceptedChange, Sent as LinkSent, own, from_wire}
use Rattle.protocol.specs.History.{History, start as start_of_links, asked_of, records_of, Grows}
use Rattle.protocol.specs.Truth.{IsTrue, IsKeptAnswer, AllSent}
use Rattle.protocol.specs.Claims.{Holds}
use Rattle.protocol.specs.Network.{Net as LinkNet}
use Rattle.sharelink.specs.Calls.{note_of}
use Rattle.sharelink.specs.declared.note.LinkNote.TheVariants.{Accepted}
use Rattle.sharelink.specs.declared.error.LinkFault.TheVariants.{OtherLayout, Diverged}
use Rattle.protocol.specs.Ends.{End as LinkEnd, end_asks}
use Rattle.protocol.specs.Nets.{IsMoment, MovesAsTold, ends_of as ends_in}
use Rattle.procs.specs.Promises.{Promised}
use Rattle.botcore.specs.declared.event.BotEvent.TheVariants.{Pump}
use Rattle.botcore.specs.declared.fault.Refusal.TheVariants.{Link as link_refusal}
use Rattle.botcore.specs.declared.report.End.{End}
use Rattle.botcore.specs.declared.report.End.TheVariants.{Done, Refused, NoMemory}
use Rattle.botcore.specs.declared.report.Note.{Note}
use Rattle.botcore.specs.declared.report.Note.TheVariants.{Link as link_note, Bound, Unbound, Bad}
use Rattle.botcore.specs.Bots.{Bot, new_bot}
use Rattle.botworld.specs.declared.sent.Sent.{Sent}
use Rattle.botworld.specs.declared.step.Step.{Step}
use Rattle.botworld.specs.declared.step.Step.TheVariants.{At, Deliver}
use Rattle.botworld.specs.declared.outcome.Outcome.{Outcome}
use Rattle.botworld.specs.declared.outcome.Outcome.TheVariants.{Report as reported, NoSuchBot, NoSuchPacket}
use Rattle.botworld.specs.Net.{Net, NetStep, packet_at, shown_version}

-- a moment of the network: what happened over its links until then, which no bot holds, and the net
pub record State : Type 0 where
  pub links : History
  pub net : Net

-- the changes that the hub has accepted by then, in order
abbrev pub accepted_by : State → List AcceptedChange
accepted_by s = s.links.hub.kept.accepted

-- ---- the links of a net

-- the bots' ends of the link, in order
abbrev pub ends_of : List Bot → List LinkEnd
ends_of [] = []
ends_of (bot ∷ bots) = bot.link.end ∷ ends_of bots

-- the packets that were ever sent, in the words of the links
abbrev pub sent_as : Sent → LinkSent
sent_as sent = record { from = sent.from; to = sent.to; packet = from_wire sent.packet }

abbrev pub all_sent : List Sent → List LinkSent
all_sent [] = []
all_sent (sent ∷ packets) = sent_as sent ∷ all_sent packets

-- ---- the first moment

-- each bot is as it was made
abbrev pub AllNew : List Bot → Type 0
AllNew bots = (place : ℕ) (b : Bot) → slice_get bots place ≡ Some b → b ≡ new_bot b.config b.link.device

-- a bot at its place among this number of bots: its number is the place, and it knows of a leaf for each bot but the
-- hub
pub record IsNumberedAt (bots place : ℕ) (b : Bot) : Type 0 where
  pub number : b.config.number ≡ place
  pub leaves : b.config.leaves + 1 ≡ bots

-- a hub and all of its leaves, in order
pub record AreNumbered (bots : List Bot) : Type 0 where
  pub hub : 0 < length bots
  pub each : (place : ℕ) (b : Bot) → slice_get bots place ≡ Some b → IsNumberedAt (length bots) place b

-- the number of bots other than the first
abbrev pub leaf_count : List Bot → ℕ
leaf_count [] = 0
leaf_count (hub ∷ leaves) = length leaves

-- these bots with these procs before the first step
abbrev pub start : List Bot → List (List ℕ) → State
start bots store =
    record { links = start_of_links (leaf_count bots); net = record { bots = bots; packets = []; store = store } }

-- a first moment: nothing has happened, and nothing was sent
pub record IsStart (s : State) : Type 0 where
  pub links : s.links ≡ start_of_links (leaf_count s.net.bots)
  pub packets : s.net.packets ≡ []
  pub numbered : AreNumbered s.net.bots
  pub all_new : AllNew s.net.bots

-- ---- what holds at each moment

-- a bot's end is that of its place, in a net with this number of leaves
pub record IsPlacedAt (count place : ℕ) (b : Bot) : Type 0 where
  pub number : b.link.number ≡ place
  pub leaves : b.link.leaves ≡ count

-- the ends of the bots and the packets stand for what happened, and all promises of the links hold of it
pub record IsSound (s : State) : Type 0 where
  pub links : IsMoment (ends_of s.net.bots) (all_sent s.net.packets) s.links
  pub placed : (place : ℕ) (b : Bot) → slice_get s.net.bots place ≡ Some b → IsPlacedAt s.links.count place b

-- a packet that was sent is true of what happened: a change is the accepted change of its number, a part is one of the
-- records at its version, a request is what the leaf asked under its number, and an answer is the hub's
abbrev pub IsTruePacket : State → Sent → Type 0
IsTruePacket s sent = IsTrue s.links.hub.kept (asked_of s.links.leaves) (from_wire sent.packet)

-- all promises of the links at a moment: above all that a request is accepted at most once, that its change is the one
-- that the leaf asked for, and that it is reported under its number and never as refused
pub record KeepsPromises (s : State) : Type 0 where
  pub links : LinkNet
  pub ends : ends_of s.net.bots ≡ ends_in links
  -- the packets of the world are those of the links, and of the history of which `Holds` speaks
  pub packets : all_sent s.net.packets ≡ links.packets
  pub sent : links.packets ≡ s.links.packets
  pub holds : Holds links s.links

-- ---- what holds of each step

-- no bot shows a lower version than before
abbrev pub NeverBack : Net → Net → Type 0
NeverBack old new = (bot u : ℕ) → shown_version old bot ≡ Some u → (v : ℕ) × (shown_version new bot ≡ Some v) × (u ≤ v)

-- what happened stays and more is added, no version goes back, and the bots and the procs stay
pub record Follows (old new : State) : Type 0 where
  pub links : Grows old.links new.links
  pub packets : (more : List Sent) × (new.net.packets ≡ old.net.packets ++ more)
  pub versions : NeverBack old.net new.net
  pub bots : length new.net.bots ≡ length old.net.bots
  pub store : new.net.store ≡ old.net.store

-- a bot took part, and is done
abbrev pub IsDone : Outcome → Type 0
IsDone (reported report) = report.end ≡ Done
IsDone NoSuchBot = ⊥
IsDone NoSuchPacket = ⊥

-- the step was made: it did not end out of memory
abbrev pub IsMade : Outcome → Type 0
IsMade (reported report) = report.end ≢ NoMemory
IsMade NoSuchBot = Unit {0}
IsMade NoSuchPacket = Unit {0}

abbrev pub AllMade : List Outcome → Type 0
AllMade [] = Unit {0}
AllMade (outcome ∷ outcomes) = IsMade outcome × AllMade outcomes

-- a bot took part, and this is its note
abbrev pub HasNote : Outcome → Note → Type 0
HasNote (reported report) note = report.note ≡ Some note
HasNote NoSuchBot note = ⊥
HasNote NoSuchPacket note = ⊥

-- the next change that is delivered to a leaf, and done, is applied
abbrev pub AppliesNext : State → Step → Outcome → State → Type 0
AppliesNext old step outcome new = (packet leaf v origin request from : ℕ) (change : Change) → step ≡ Deliver packet
    → packet_at old.net.packets packet ≡ Some (record { from = from; to = suc leaf; packet = change_packet (v + 1) origin request change })
    → shown_version old.net (suc leaf) ≡ Some v → IsDone outcome → shown_version new.net (suc leaf) ≡ Some (v + 1)

-- the asks that wait at a bot
abbrev pub waiting_at : Option Bot → List Change
waiting_at None = []
waiting_at (Some b) = end_asks b.link.end

-- the oldest ask, if the records allow it and a pump of the hub is done, is accepted under the next number
abbrev pub AcceptsNext : State → Step → Outcome → State → Type 0
AcceptsNext old step outcome new = (change : Change) (rest : List Change) → step ≡ At 0 Pump → waiting_at (slice_get old.net.bots 0) ≡ change ∷ rest
    → refusal (records_of (accepted_by old) (length (accepted_by old))) change ≡ None → IsDone outcome
    → HasNote outcome (link_note (Accepted (length (accepted_by old) + 1))) × (accepted_by new ≡ accepted_by old ++ own change ∷ [])

-- no bot meets another layout, and no leaf finds that its records differ
pub record IsFineEnd (end : End) : Type 0 where
  pub same_layout : end ≢ Refused (link_refusal OtherLayout)
  pub undiverged : end ≢ Refused (link_refusal Diverged)

abbrev pub IsFine : Outcome → Type 0
IsFine (reported report) = IsFineEnd report.end
IsFine NoSuchBot = Unit {0}
IsFine NoSuchPacket = Unit {0}

-- The accepted changes grow by one if the hub reports that it accepted a change, whose number is then their count.
-- They grow by one or none if the hub reports that it was restarted, at the version that is then their count.
-- Otherwise they do not grow.
abbrev pub GrowsByNote : ℕ → Option Note → List AcceptedChange → List AcceptedChange → Type 0
GrowsByNote bot None old new = new ≡ old
GrowsByNote bot (Some (link_note note)) old new = MovesAsTold old new bot (Ok (note_of note))
GrowsByNote bot (Some (Bound number)) old new = new ≡ old
GrowsByNote bot (Some (Unbound number)) old new = new ≡ old
GrowsByNote bot (Some (Bad fault)) old new = new ≡ old

abbrev pub GrowsAsToldBy : State → Outcome → State → Type 0
GrowsAsToldBy old (reported report) new = GrowsByNote report.bot report.note (accepted_by old) (accepted_by new)
GrowsAsToldBy old NoSuchBot new = accepted_by new ≡ accepted_by old
GrowsAsToldBy old NoSuchPacket new = accepted_by new ≡ accepted_by old

-- each answer to a request that the step sends is one that the hub keeps, one of the last eight to its leaf
abbrev pub AnswersAsKept : State → State → Type 0
AnswersAsKept old new =
    (more : List Sent) × (new.net.packets ≡ old.net.packets ++ more) × AllSent (IsKeptAnswer new.links.hub.kept) (all_sent more)

-- a step, and what holds of each one
pub record LawfulStep (promised : Promised)
    (old : State) (step : Step) (outcome : Outcome) (new : State) : Type 0 where
  pub by_rule : NetStep promised old.net step outcome new.net
  pub sound : IsSound new
  pub follows : Follows old new
  pub answers : AnswersAsKept old new
  pub grows : GrowsAsToldBy old outcome new
  pub applies_next : AppliesNext old step outcome new
  pub accepts_next : AcceptsNext old step outcome new
  pub fine : IsFine outcome
