-- The moment of a link's history for which a net of processes stands.
use Rattle.std.specs.Prelude.{◌≡◌, ◌+◌, ◌<◌, ◌≤◌, ℕ, List, [], ◌∷◌, length, slice_get, Some}
use Rattle.botjournal.specs.declared.request.Request.{Request as OutRequest}
use Rattle.protocol.specs.Packets.{Sent as LinkSent}
use Rattle.protocol.specs.Numbers.{item_at}
use Rattle.protocol.specs.LeafRules.{LeafState}
use Rattle.protocol.specs.History.{History, HubGrows, LeafGrows, Grows}
use Rattle.protocol.specs.Ends.{End as LinkEnd, AtHub, AtLeaf}
use Rattle.protocol.specs.Nets.{IsMoment}
use Rattle.sharelink.specs.BotLinks.{BotEnd, MeanEnd}
use Rattle.botworld.specs.declared.sent.Sent.{Sent}
use Rattle.botworld.specs.Network.{sent_as}
use Rattle.processes.specs.Deeds.{Process, Runs, Ended, Net, Deed, after_deed, AcceptsIn, Stays}

-- ---- what an end holds at each moment

-- these requests have numbers above this one
abbrev pub AreAbove : ℕ → List OutRequest → Type 0
AreAbove floor [] = Unit {0}
AreAbove floor (request ∷ requests) = (floor < request.number) × AreAbove floor requests

-- the outstanding requests of a leaf have numbers above this one, and so has its next request
pub record AsksAbove (floor : ℕ) (leaf : LeafState) : Type 0 where
  pub last : floor ≤ leaf.last
  pub out : AreAbove floor leaf.out

-- a hub has a place for its replies to each of `count` leaves; a leaf's requests have numbers above this one
abbrev pub HoldsAbove : (floor count : ℕ) → LinkEnd → Type 0
HoldsAbove floor count (AtHub hub) = length hub.kept.replies ≡ count
HoldsAbove floor count (AtLeaf leaf) = AsksAbove floor leaf.kept

-- ---- a moment

-- a process has this end of the link: its bot has it, or a restart finds it in what the disks mean
abbrev pub HasEnd : BotEnd → Process → Type 0
HasEnd link (Runs bot) = bot.link ≡ link
HasEnd link (Ended first second) = MeanEnd link first second

-- the process at a place has the end of the link that stands there
pub record IsAt (h : History) (ends : List LinkEnd) (place : ℕ) (process : Process) : Type 0 where
  pub link : BotEnd
  pub at : slice_get ends place ≡ Some link.end
  pub number : link.number ≡ place
  pub leaves : link.leaves ≡ h.count
  pub holds : HoldsAbove 0 h.count link.end
  pub has : HasEnd link process

abbrev pub IsAmong : LinkSent → List LinkSent → Type 0
IsAmong sent packets = (number : ℕ) × (item_at packets number ≡ Some sent)

-- each packet in a report is among these
abbrev pub AreAmong : List Sent → List LinkSent → Type 0
AreAmong [] packets = Unit {0}
AreAmong (sent ∷ others) packets = IsAmong (sent_as sent) packets × AreAmong others packets

-- The processes stand for this moment of history, and all promises of the links hold of it. History may have more
-- packets than the reports: also those of a call during which the process ended.
pub record Stands (w : Net) (h : History) : Type 0 where
  pub ends : List LinkEnd
  pub packets : List LinkSent
  pub moment : IsMoment ends packets h
  pub many : length w.processes ≡ h.count + 1
  pub told : AreAmong w.packets packets
  pub each : (place : ℕ) (process : Process) → slice_get w.processes place ≡ Some process → IsAt h ends place process

-- ---- from one moment to a later one

-- History has grown by these deeds: nothing is taken back, but for what is of a leaf that was replaced.
pub record GrowsBy (deeds : List Deed) (old new : History) : Type 0 where
  pub hub : HubGrows old.hub.kept new.hub.kept
  pub leaves : (leaf : ℕ) → Stays leaf deeds → LeafGrows (old.leaves leaf).kept (new.leaves leaf).kept
  -- if no leaf was replaced, nothing is taken back
  pub whole : ((leaf : ℕ) → Stays leaf deeds) → Grows old new

-- the net stands for a moment into which this history has grown by these deeds
pub record Reaches (deeds : List Deed) (h : History) (w : Net) : Type 0 where
  pub after : History
  pub stands : Stands w after
  pub grows : GrowsBy deeds h after

-- the same of one deed, in which changes are accepted as its kind says
pub record Leads (h : History) (w : Net) (deed : Deed) : Type 0 where
  pub after : History
  pub stands : Stands (after_deed w deed) after
  pub grows : GrowsBy (deed ∷ []) h after
  pub accepts : AcceptsIn deed h.hub.kept.accepted after.hub.kept.accepted
