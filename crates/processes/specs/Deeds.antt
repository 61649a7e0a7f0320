-- What bots in processes of their own do, and where a list of their deeds leads.
use Rattle.std.specs.Prelude.{◌≡◌, ◌⊎◌, ℕ, ◌+◌, ◌<◌, ◌==◌, nat_lt, Bool, false, ◌&&◌, if◌then◌else◌, List, [], ◌∷◌, ◌++◌, length, slice_get, slice_set, Option, None, Some}
use Rattle.userfile.specs.Records.{Records}
use Rattle.sharewire.specs.declared.packet.Packet.{Packet}
use Rattle.procs.specs.Promises.{Promised}
use Rattle.botjournal.specs.Contents.{Contents, meaning}
use Rattle.protocol.specs.Bots.{Fails}
use Rattle.protocol.specs.Packets.{AcceptedChange, Packet as LinkPacket, from_wire}
use Rattle.protocol.specs.Packets.Packet.{Hello, Change, Request, Accepted, Refused, BotText, Part}
use Rattle.protocol.specs.Network.Event.{Pump as pumps, Compact as compacts}
use Rattle.protocol.specs.Ends.{End, end_is_down}
use Rattle.sharelink.specs.BotLinks.{BotEnd, did, took, MeanEnd, end_meaning}
use Rattle.sharelink.specs.Telling.{end_last_request, end_last_reply}
use Rattle.botcore.specs.declared.event.BotEvent.{BotEvent}
use Rattle.botcore.specs.declared.event.BotEvent.TheVariants.{Connect, Line, Ask, Pump, Receive, Clock, Bind, Unbind}
use Rattle.botcore.specs.declared.event.BotEvent.TheVariants.{Compact, Restart}
use Rattle.botcore.specs.declared.report.Report.{Report}
use Rattle.botcore.specs.Bots.{Bot, new_bot, bot_after}
use Rattle.botcore.specs.Links.{link_version, link_records}
use Rattle.botcore.specs.Steps.{TakesStep}
use Rattle.watching.specs.Openings.{IsOpened, IsUnopened}
use Rattle.botworld.specs.declared.sent.Sent.{Sent}
use Rattle.botworld.specs.Net.{packet_at, posted}
use Rattle.botworld.specs.Network.{GrowsByNote}

-- ---- processes and their deeds

-- The process of a bot. While it runs it has the bot; once it has ended, only the bytes of the bot's two disks remain.
pub data Process : Type 0 where
  Runs : Bot → Process
  Ended : (first second : List ℕ) → Process

-- the process of each bot, the hub's first, and the packets in the reports, in the order of the reports, but for those
-- that left as a leaf was replaced
pub record Net : Type 0 where
  pub processes : List Process
  pub packets : List Sent

-- one call of a bot: the names of the procs of its store, the bot before, the event, the report, the bot after
pub record Step : Type 0 where
  pub names : List (List ℕ)
  pub was : Bot
  pub event : BotEvent
  pub report : Report
  pub after : Bot

-- what a process did when it ended: no call of its bot, or a call with this event that has not returned
pub data Doing : Type 0 where
  Nothing : Doing
  Telling : BotEvent → Doing

-- what the process of a bot does
pub data Deed : Type 0 where
  -- its bot makes a step
  Made : (bot : ℕ) → Step → Deed
  -- the process ends, and this is on the disks
  Died : (bot : ℕ) → (was : Bot) → Doing → (first second : List ℕ) → Deed
  -- another process opens the bot from the bytes on the disks
  Opened : (bot : ℕ) → (after : Bot) → Deed
  -- another process was to open the bot, and ended before it had: this is on the disks
  Unopened : (bot : ℕ) → (first second : List ℕ) → Deed
  -- the hub renews a leaf: a new process begins as that leaf, in a new folder, whatever became of the earlier one
  Replaced : (leaf : ℕ) → (after : Bot) → Deed

-- ---- the net after deeds

-- a request of this leaf that has a higher number than its last request that the hub replied to
abbrev pub is_unanswered : (leaf last : ℕ) → LinkPacket → Bool
is_unanswered leaf last (Hello layout from version) = false
is_unanswered leaf last (Change number origin request change) = false
is_unanswered leaf last (Request from request change) = (from == leaf) && nat_lt last request
is_unanswered leaf last (Accepted to request number) = false
is_unanswered leaf last (Refused to request fault) = false
is_unanswered leaf last (BotText from to text) = false
is_unanswered leaf last (Part version part count items) = false

-- the packets but for such requests
abbrev pub answered : (leaf last : ℕ) → List Sent → List Sent
answered leaf last [] = []
answered leaf last (sent ∷ packets) =
    if is_unanswered leaf last (from_wire sent.packet) then answered leaf last packets
    else sent ∷ answered leaf last packets

abbrev pub with_process : Net → ℕ → Process → List Sent → Net
with_process w bot process more =
    record { processes = slice_set w.processes bot process; packets = w.packets ++ more }

abbrev pub after_deed : Net → Deed → Net
after_deed w (Made bot step) = with_process w bot (Runs step.after) (posted bot step.report.packets)
after_deed w (Died bot was doing first second) = with_process w bot (Ended first second) []
after_deed w (Opened bot after) = with_process w bot (Runs after) []
after_deed w (Unopened bot first second) = with_process w bot (Ended first second) []
after_deed w (Replaced leaf after) = record {
  processes = slice_set w.processes leaf (Runs after);
  packets = answered leaf (end_last_request after.link.end) w.packets;
}

abbrev pub net_after : Net → List Deed → Net
net_after w [] = w
net_after w (deed ∷ deeds) = net_after (after_deed w deed) deeds

-- ---- which deeds may happen

-- A bot takes only packets that a report sent to it: from any bot, at any time, and as often as they come.
abbrev pub WasTold : List Sent → ℕ → BotEvent → Type 0
WasTold packets bot Connect = Unit {0}
WasTold packets bot (Line line) = Unit {0}
WasTold packets bot (Ask change) = Unit {0}
WasTold packets bot Pump = Unit {0}
WasTold packets bot (Receive packet) =
    (number from : ℕ) × (packet_at packets number ≡ Some (record { from = from; to = bot; packet = packet }))
WasTold packets bot (Clock now) = Unit {0}
WasTold packets bot (Bind asked) = Unit {0}
WasTold packets bot (Unbind gone) = Unit {0}
WasTold packets bot Compact = Unit {0}
WasTold packets bot Restart = Unit {0}

abbrev pub WasDoing : List Sent → ℕ → Doing → Type 0
WasDoing packets bot Nothing = Unit {0}
WasDoing packets bot (Telling event) = WasTold packets bot event

-- The end of the link after such a call if the device failed in it: the record that the call was journaling is in
-- doubt. A call that journals nothing puts nothing in doubt.
abbrev pub failing : BotEnd → Doing → End
failing link Nothing = link.end
failing link (Telling Connect) = link.end
failing link (Telling (Line line)) = link.end
failing link (Telling (Ask change)) = link.end
failing link (Telling Pump) = (did link pumps Fails).after
failing link (Telling (Receive packet)) = (took link packet Fails).after
failing link (Telling (Clock now)) = link.end
failing link (Telling (Bind asked)) = link.end
failing link (Telling (Unbind gone)) = link.end
failing link (Telling Compact) = (did link compacts Fails).after
failing link (Telling Restart) = link.end

-- the same bot's end of the link, with this content
abbrev pub with_end : BotEnd → End → BotEnd
with_end link end = record link { end = end }

-- these bytes mean what the bot kept before the call, or the same with the record that the call was journaling
abbrev pub LeavesIn : Doing → BotEnd → List ℕ → List ℕ → Type 0
LeavesIn doing link first second = MeanEnd (with_end link (failing link doing)) first second

-- these bytes mean this end to the hub of a net of `bots` bots
pub record MeanHub (bots : ℕ) (first second : List ℕ) (end : End) : Type 0 where
  pub leaves : ℕ
  pub many : leaves + 1 ≡ bots
  pub contents : Contents
  pub found : meaning first second ≡ Some contents
  pub means : end_meaning 0 leaves contents ≡ Some end

-- the hub's end of the link: that of its bot, which runs and isn't down, or what its disks mean once its process ended
abbrev pub IsHubEnd : ℕ → Process → End → Type 0
IsHubEnd bots (Runs hub) end = (hub.link.end ≡ end) × (end_is_down end ≡ false)
IsHubEnd bots (Ended first second) end = MeanHub bots first second end

-- A new bot with the number of a leaf. It is at version 0, and has no records and no requests. Its first request gets the
-- number after that of the leaf's last request that the hub has replied to.
pub record IsReplaced (w : Net) (leaf : ℕ) (after : Bot) : Type 0 where
  pub hub : Process
  pub end : End
  pub at : slice_get w.processes 0 ≡ Some hub
  pub has : IsHubEnd (length w.processes) hub end
  pub above : 0 < leaf
  pub within : leaf < length w.processes
  pub number : after.config.number ≡ leaf
  pub leaves : after.config.leaves + 1 ≡ length w.processes
  pub made : after ≡ bot_after after.config (end_last_reply end leaf) after.link.device

module _ (promised : Promised) where
  -- the bot runs, a report sent it the packet that it takes, and the step is one that a bot takes
  pub record Makes (w : Net) (bot : ℕ) (step : Step) : Type 0 where
    pub running : slice_get w.processes bot ≡ Some (Runs step.was)
    pub told : WasTold w.packets bot step.event
    pub takes : TakesStep promised step.names step.was step.event step.report step.after

  -- the bot ran, and a death at that moment of the call may leave these bytes
  pub record Dies (w : Net) (bot : ℕ) (was : Bot) (doing : Doing) (first second : List ℕ) : Type 0 where
    pub running : slice_get w.processes bot ≡ Some (Runs was)
    pub told : WasDoing w.packets bot doing
    pub leaves : LeavesIn doing was.link first second

  -- this deed may happen now
  abbrev pub Happens : Net → Deed → Type 0
  Happens w (Made bot step) = Makes w bot step
  Happens w (Died bot was doing first second) = Dies w bot was doing first second
  Happens w (Opened bot after) = (first second : List ℕ) × (slice_get w.processes bot ≡ Some (Ended first second))
      × IsOpened bot (length w.processes) first second after
  Happens w (Unopened bot first second) = (x y : List ℕ) × (slice_get w.processes bot ≡ Some (Ended x y))
      × IsUnopened bot (length w.processes) x y first second
  Happens w (Replaced leaf after) = IsReplaced w leaf after

  -- each of these deeds happens after those before it
  abbrev pub Run : Net → List Deed → Type 0
  Run w [] = Unit {0}
  Run w (deed ∷ deeds) = Happens w deed × Run (after_deed w deed) deeds

-- ---- the first moment

-- the bot with this number runs as it was made, in a net with this number of leaves
pub record IsNew (count place : ℕ) (process : Process) : Type 0 where
  pub bot : Bot
  pub runs : process ≡ Runs bot
  pub made : bot ≡ new_bot bot.config bot.link.device
  pub number : bot.config.number ≡ place
  pub leaves : bot.config.leaves ≡ count

-- a hub and `count` leaves run as they were made, and no report has sent a packet
pub record IsFirst (count : ℕ) (w : Net) : Type 0 where
  pub many : length w.processes ≡ count + 1
  pub packets : w.packets ≡ []
  pub all_new : (place : ℕ) (process : Process) → slice_get w.processes place ≡ Some process → IsNew count place process

-- ---- which changes the hub accepts

abbrev pub AtMostOneMore : List AcceptedChange → List AcceptedChange → Type 0
AtMostOneMore old new = (new ≡ old) ⊎ ((entry : AcceptedChange) × (new ≡ old ++ entry ∷ []))

-- A step accepts changes as its report says. Another deed accepts at most the one that was in doubt when the hub's process
-- ended.
abbrev pub AcceptsIn : Deed → List AcceptedChange → List AcceptedChange → Type 0
AcceptsIn (Made bot step) old new = GrowsByNote bot step.report.note old new
AcceptsIn (Died bot was doing first second) old new = AtMostOneMore old new
AcceptsIn (Opened bot after) old new = AtMostOneMore old new
AcceptsIn (Unopened bot first second) old new = AtMostOneMore old new
AcceptsIn (Replaced leaf after) old new = AtMostOneMore old new

-- ---- which bots are replaced

-- this deed does not replace this bot
abbrev pub StaysIn : ℕ → Deed → Type 0
StaysIn bot (Made at step) = Unit {0}
StaysIn bot (Died at was doing first second) = Unit {0}
StaysIn bot (Opened at after) = Unit {0}
StaysIn bot (Unopened at first second) = Unit {0}
StaysIn bot (Replaced leaf after) = leaf ≡ bot → ⊥

-- none of these deeds replaces this bot
abbrev pub Stays : ℕ → List Deed → Type 0
Stays bot [] = Unit {0}
Stays bot (deed ∷ deeds) = StaysIn bot deed × Stays bot deeds

-- ---- what is shown

abbrev pub version_in : Option Process → Option ℕ
version_in None = None
version_in (Some (Runs bot)) = Some (link_version bot.link)
version_in (Some (Ended first second)) = None

abbrev pub records_in : Option Process → Option Records
records_in None = None
records_in (Some (Runs bot)) = Some (link_records bot.link)
records_in (Some (Ended first second)) = None

-- the version of a bot, and its records; none while its process doesn't run
abbrev pub shown_version : Net → ℕ → Option ℕ
shown_version w bot = version_in (slice_get w.processes bot)

abbrev pub shown_records : Net → ℕ → Option Records
shown_records w bot = records_in (slice_get w.processes bot)

-- a report has sent this packet, which is none of the requests that left as a leaf was replaced
abbrev pub IsTold : Net → Packet → Type 0
IsTold w packet = (number : ℕ) × (sent : Sent) × (packet_at w.packets number ≡ Some sent) × (sent.packet ≡ packet)
