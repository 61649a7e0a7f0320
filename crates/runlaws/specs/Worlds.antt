-- Processes of bots, the network and the files: what happens, and that it is a list of deeds of the bots.
use Rattle.std.specs.Prelude.{◌≡◌, ◌<◌, ◌+◌, ◌++◌, ℕ, Bool, true, false, List, [], ◌∷◌, slice_get, Option, Some, None}
use Rattle.sharewire.specs.declared.packet.Packet.{Packet}
use Rattle.procs.specs.Promises.{Promised}
use Rattle.disks.specs.State.{may_leave}
use Rattle.protocol.specs.Packets.{from_wire}
use Rattle.protocol.specs.Ends.{End}
use Rattle.sharelink.specs.Telling.{end_last_request, end_last_reply}
use Rattle.botcore.specs.declared.event.BotEvent.{BotEvent}
use Rattle.botcore.specs.declared.event.BotEvent.TheVariants.{Receive}
use Rattle.botcore.specs.declared.report.Report.{Report}
use Rattle.botcore.specs.Bots.{Bot, bot_after}
use Rattle.botcore.specs.Steps.{TakesStep}
use Rattle.botworld.specs.declared.sent.Sent.{Sent}
use Rattle.botworld.specs.Net.{posted}
use Rattle.watching.specs.Openings.{CrashesIn, IsUnopened}
use Rattle.watching.specs.Acts.{Act, Opens, Creates, Began, Told, Made, Forgets, Hears, Sends, Waits, Station, bot_in}
use Rattle.watching.specs.Following.{IsLawful}
use Rattle.processes.specs.Deeds.{Process, Runs, Net, Deed, Made as MadeStep, Died, Opened, Unopened, Replaced, WasTold, IsHubEnd, Run, net_after, is_unanswered, answered}
use Rattle.processes.specs.Promises.{Once}
use Rattle.runlaws.specs.Calls.{Doing, Nothing, Opening, Creating, Telling, Forgetting, doing}
use Rattle.runlaws.specs.Folders.{Folder, What, Does, Takes, Ends, Happening, Files, NoFiles, HasFiles, Holder, NoneYet, NoneNow, Holds, past_of, files_of, is_holder, holder_of, holds, process_of, call_of}

-- ---- the packets

-- The packets after an act, in a folder that holds its number, or doesn't. What a folder reports that doesn't hold its
-- number is sent to nobody.
abbrev pub posted_by : Bool → ℕ → Act → List Sent → List Sent
posted_by false number act packets = packets
posted_by true number (Opens first second) packets = packets
posted_by true number (Creates first second last) packets = packets
posted_by true number (Began bot) packets = packets
posted_by true number (Told bot event) packets = packets
posted_by true number (Made report bot) packets = packets ++ posted number report.packets
posted_by true number (Forgets bot) packets = packets
posted_by true number (Hears heard) packets = packets
posted_by true number (Sends outgoing) packets = packets
posted_by true number Waits packets = packets

-- The packets after a folder has taken its number with this bot. The requests of an earlier bot of the number leave, if
-- they have higher numbers than the last request of this one.
abbrev pub kept_by : Holder → ℕ → Bot → List Sent → List Sent
kept_by NoneYet number bot packets = packets
kept_by NoneNow number bot packets = answered number (end_last_request bot.link.end) packets
kept_by (Holds folder) number bot packets = answered number (end_last_request bot.link.end) packets

abbrev pub sent_after : ℕ → Holder → ℕ → What → List Sent → List Sent
sent_after folder holder number (Does act) packets = posted_by (is_holder folder holder) number act packets
sent_after folder holder number (Takes bot) packets = kept_by holder number bot packets
sent_after folder holder number (Ends first second) packets = packets

abbrev pub told_after : ℕ → Holder → ℕ → What → List Sent → List Sent
told_after folder holder number (Does act) packets = posted_by (is_holder folder holder) number act packets
told_after folder holder number (Takes bot) packets = packets
told_after folder holder number (Ends first second) packets = packets

module _ (folders : ℕ → Folder) where
  -- all packets in the reports of bots, in the order of the reports
  abbrev pub told_in : List Happening → List Sent
  told_in [] = []
  told_in (h ∷ world) = let number = (folders h.folder).number in
      told_after h.folder (holder_of folders number world) number h.what (told_in world)

  -- those of them that may still arrive: all but the requests that left as a folder took a number
  abbrev pub sent_in : List Happening → List Sent
  sent_in [] = []
  sent_in (h ∷ world) = let number = (folders h.folder).number in
      sent_after h.folder (holder_of folders number world) number h.what (sent_in world)

  -- ---- the steps

  -- the step of the bot in this folder that a report ends, as a deed
  abbrev pub step_ended : ℕ → Doing → Report → Bot → List Deed
  step_ended folder Nothing report after = []
  step_ended folder (Opening first second) report after = []
  step_ended folder Creating report after = []
  step_ended folder (Telling was event) report after = MadeStep (folders folder).number
      (record { names = (folders folder).names; was = was; event = event; report = report; after = after }) ∷ []
  step_ended folder Forgetting report after = []

  -- the step that a happening ends, in a folder that holds its number: what happens in another folder is no deed
  abbrev pub step_by : Bool → ℕ → Doing → What → List Deed
  step_by false folder call what = []
  step_by true folder call (Does (Opens first second)) = []
  step_by true folder call (Does (Creates first second last)) = []
  step_by true folder call (Does (Began bot)) = []
  step_by true folder call (Does (Told bot event)) = []
  step_by true folder call (Does (Made report bot)) = step_ended folder call report bot
  step_by true folder call (Does (Forgets bot)) = []
  step_by true folder call (Does (Hears heard)) = []
  step_by true folder call (Does (Sends outgoing)) = []
  step_by true folder call (Does Waits) = []
  step_by true folder call (Takes bot) = []
  step_by true folder call (Ends first second) = []

  -- the steps that bots have made, the oldest first
  abbrev pub steps_in : List Happening → List Deed
  steps_in [] = []
  steps_in (h ∷ world) = steps_in world ++ step_by (holds folders h.folder world) h.folder (doing (past_of h.folder world)) h.what

-- ---- what the outside does

-- The files stay as they were.
abbrev pub StaysAs : Files → List ℕ → List ℕ → Type 0
StaysAs NoFiles x y = Unit {0}
StaysAs (HasFiles first second) x y = (first ≡ x) × (second ≡ y)

-- what a process leaves that ends between two calls of its bot, or before it opens one
abbrev pub LeavesBetween : Option Bot → Files → List ℕ → List ℕ → Type 0
LeavesBetween None files x y = StaysAs files x y
LeavesBetween (Some bot) files x y = may_leave bot.link.device.first x × may_leave bot.link.device.second y

-- what is asked only of a folder that holds its number
abbrev pub IfHolds : Bool → Type 0 → Type 0
IfHolds false A = Unit {0}
IfHolds true A = A

module _ (folders : ℕ → Folder) where
  -- The network: a bot is told only packets that a report had sent to it. They come whole, but from any bot, at any time
  -- and as often as may be.
  abbrev pub IsDelivered : List Happening → ℕ → BotEvent → Type 0
  IsDelivered world number event = WasTold (sent_in folders world) number event

  -- What a process meets: a bot is opened from what the last process in its folder left.
  abbrev pub Meets : List Happening → ℕ → Act → Type 0
  Meets world folder (Opens x y) = files_of folder world ≡ HasFiles x y
  Meets world folder (Creates x y last) = Unit {0}
  Meets world folder (Began bot) = Unit {0}
  Meets world folder (Told bot event) = IsDelivered world (folders folder).number event
  Meets world folder (Made report bot) = Unit {0}
  Meets world folder (Forgets bot) = Unit {0}
  Meets world folder (Hears heard) = Unit {0}
  Meets world folder (Sends outgoing) = Unit {0}
  Meets world folder Waits = Unit {0}

module _ (folders : ℕ → Folder) (leaves : ℕ) where
  -- A leaf is renewed, so that its number gets a new bot. The requests of this one have higher numbers than the last
  -- request of the number that the hub has replied to: the hub has told it that one. Nobody is taking a request that
  -- leaves now. The hub's process runs, and its disks have not failed; or it has ended.
  pub record IsRenewed (number : ℕ) (world : List Happening) (bot : Bot) : Type 0 where
    pub above : 0 < number
    pub hub : Process
    pub at : process_of folders 0 world ≡ Some hub
    pub end : End
    pub has : IsHubEnd (leaves + 1) hub end
    pub made : bot ≡ bot_after bot.config (end_last_reply end number) bot.link.device
    pub quiet : (other : ℕ) (was : Bot) (packet : Packet) → call_of folders other world ≡ Telling was (Receive packet)
        → is_unanswered number (end_last_request bot.link.end) (from_wire packet) ≡ false

-- ---- a world

-- the station of a bot in a net of so many leaves
abbrev pub station : ℕ → ℕ → Station
station leaves number = record { number = number; leaves = leaves }

module _ (promised : Promised) (folders : ℕ → Folder) (leaves : ℕ) where
  -- all that the process in this folder has done is lawful
  abbrev pub IsLawfulIn : ℕ → List Happening → Type 0
  IsLawfulIn folder world =
      IsLawful promised (folders folder).names (station leaves (folders folder).number) (past_of folder world)

module _ (promised : Promised) (folders : ℕ → Folder) (leaves : ℕ) (first : Net) where
  -- The bot with which a folder takes its number. The first one is the bot that `first` has: a net in which each bot runs
  -- as it is created.
  abbrev pub IsNext : Holder → ℕ → List Happening → Bot → Type 0
  IsNext NoneYet number world bot = slice_get first.processes number ≡ Some (Runs bot)
  IsNext NoneNow number world bot = IsRenewed folders leaves number world bot
  IsNext (Holds folder) number world bot = IsRenewed folders leaves number world bot

  -- The files: what a process leaves that ends in this call. In a step, a crash at some moment of it leaves this.
  abbrev pub LeavesDoing : ℕ → Doing → Option Bot → Files → List ℕ → List ℕ → Type 0
  LeavesDoing folder Nothing bot files x y = LeavesBetween bot files x y
  LeavesDoing folder (Opening a b) bot files x y = IsUnopened (folders folder).number (leaves + 1) a b x y
  LeavesDoing folder Creating bot files x y = Unit {0}
  LeavesDoing folder (Telling was event) bot files x y = (report : Report) × (after : Bot)
      × TakesStep promised (folders folder).names was event report after × CrashesIn was.link after.link x y
  LeavesDoing folder Forgetting bot files x y = Unit {0}

  -- What the outside does at a happening. It may do anything to a folder that doesn't hold its number.
  abbrev pub Comes : List Happening → ℕ → What → Type 0
  Comes world folder (Does act) = IfHolds (holds folders folder world) (Meets folders world folder act)
  Comes world folder (Takes bot) = IsNext (holder_of folders (folders folder).number world) (folders folder).number world bot
  Comes world folder (Ends x y) = IfHolds (holds folders folder world)
      (LeavesDoing folder (doing (past_of folder world)) (bot_in (past_of folder world)) (files_of folder world) x y)

  -- At each moment all that a process has done is lawful, and the outside does as above.
  abbrev pub IsWorld : List Happening → Type 0
  IsWorld [] = Unit {0}
  IsWorld (h ∷ world) = IsLawfulIn promised folders leaves h.folder (h ∷ world) × Comes world h.folder h.what × IsWorld world

-- ---- that it is a list of deeds

-- the steps among deeds
abbrev pub step_in : Deed → List Deed
step_in (MadeStep bot step) = MadeStep bot step ∷ []
step_in (Died bot was doing first second) = []
step_in (Opened bot after) = []
step_in (Unopened bot first second) = []
step_in (Replaced leaf after) = []

abbrev pub steps_of : List Deed → List Deed
steps_of [] = []
steps_of (deed ∷ deeds) = step_in deed ++ steps_of deeds

-- A request is accepted at most once in all reports. `Once` of a net reads its packets alone.
abbrev pub OnceIn : (ℕ → Folder) → List Happening → Type 0
OnceIn folders world = Once (record { processes = []; packets = told_in folders world })

-- no folder takes this number in these happenings
abbrev pub StaysBy : What → ℕ → ℕ → Type 0
StaysBy (Does act) at number = Unit {0}
StaysBy (Takes bot) at number = at ≡ number → ⊥
StaysBy (Ends first second) at number = Unit {0}

abbrev pub StaysIn : (ℕ → Folder) → ℕ → List Happening → Type 0
StaysIn folders number [] = Unit {0}
StaysIn folders number (h ∷ more) = StaysBy h.what (folders h.folder).number number × StaysIn folders number more

-- What happened is a list of deeds, each of which may happen after those before it.
pub record AreDeeds (promised : Promised) (folders : ℕ → Folder) (first : Net) (world : List Happening) : Type 0 where
  pub deeds : List Deed
  pub run : Run promised first deeds
  -- the steps among them are those that bots have made
  pub steps : steps_of deeds ≡ steps_in folders world
  -- they have led to the packets that may still arrive
  pub sent : (net_after first deeds).packets ≡ sent_in folders world
  -- and to each process that holds a number: to the bot that it has, or to what it has left on the disks
  pub shows : (number : ℕ) (process : Process) → process_of folders number world ≡ Some process
      → slice_get (net_after first deeds).processes number ≡ Some process
