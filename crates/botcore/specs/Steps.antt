-- One step of a bot: what one event makes it report, and the bot that it leaves.
use Rattle.std.specs.Prelude.{◌≡◌, ◌⊎◌, ℕ, ◌==◌, nat_le, nat_lt, Bool, true, false, List, [], ◌∷◌, ◌++◌, length, map, find, Option, Some, None, Result, Ok, Err, if◌then◌else◌}
use Rattle.bytetext.specs.declared.failure.Failure.{Failure}
use Rattle.ircline.specs.declared.line.Line.TheVariants.{Message as a_message, Bad as a_bad_line}
use Rattle.ircline.specs.declared.message.Message.{Message}
use Rattle.chanstate.specs.Events.{events_of}
use Rattle.bytetext.specs.Words.{first_word}
use Rattle.chanstate.specs.Views.{connected}
use Rattle.bottimers.specs.declared.fault.ClockFault.{ClockFault}
use Rattle.bottimers.specs.Seconds.{reading_fault, seconds_run}
use Rattle.procs.specs.Promises.{Promised}
use Rattle.procs.specs.Seen.{Seen}
use Rattle.procs.specs.declared.bind.Bind.{Bind as HeldBind}
use Rattle.procs.specs.declared.bind_fault.BindFault.{BindFault}
use Rattle.procs.specs.declared.bind_fault.BindFault.TheVariants.{NoSuchBind}
use Rattle.procs.specs.Tables.{Table, Asked, refusal, number_of, bound, is_such, without_such}
use Rattle.sharewire.specs.declared.packet.Packet.{Packet}
use Rattle.botjournal.specs.Ledger.{Device}
use Rattle.protocol.specs.Bots.{How, Works, Fails, Row}
use Rattle.protocol.specs.Network.Event.{Pump as pumps, Compact as compacts}
use Rattle.userfile.specs.declared.change.Change.{Change}
use Rattle.sharelink.specs.declared.answer.Answer.{Answer}
use Rattle.sharelink.specs.declared.error.LinkFault.{LinkFault}
use Rattle.sharelink.specs.declared.note.LinkNote.TheVariants.{Text as told_text}
use Rattle.sharelink.specs.Shapes.{HasGoodRecords}
use Rattle.protocol.specs.Ends.{End as LinkEnd}
use Rattle.sharelink.specs.BotLinks.{BotEnd, did, took, Calls, CallsRestart, Asks, LeavesOwn}
use Rattle.botcore.specs.declared.event.BotEvent.{BotEvent}
use Rattle.botcore.specs.declared.event.BotEvent.TheVariants.{Connect, Line, Ask, Pump, Receive, Clock, Bind, Unbind, Compact, Restart}
use Rattle.botcore.specs.declared.event.NewBind.{NewBind}
use Rattle.botcore.specs.declared.event.OldBind.{OldBind}
use Rattle.botcore.specs.declared.fault.Refusal.TheVariants.{Bind as bind_refusal, Clock as clock_refusal}
use Rattle.botcore.specs.declared.report.End.{End}
use Rattle.botcore.specs.declared.report.End.TheVariants.{Done, Refused, NoMemory}
use Rattle.procs.specs.declared.made_call.MadeCall.{MadeCall}
use Rattle.procs.specs.declared.trigger.Trigger.{Trigger}
use Rattle.procs.specs.declared.trigger.Trigger.TheVariants.{Heard, Said}
use Rattle.botcore.specs.declared.report.Note.{Note}
use Rattle.botcore.specs.declared.report.Note.TheVariants.{Link as link_note, Bound, Unbound, Bad}
use Rattle.botcore.specs.declared.report.Report.{Report}
use Rattle.botcore.specs.Bots.{Bot, bot_seen, bot_setting, restarted, with_device}
use Rattle.procs.specs.Tellings.{Entry, Telling, calls_in, unbound_in}
use Rattle.procs.specs.Dispatching.{told_of, is_logged}
use Rattle.botcore.specs.Acting.{faults_of}
use Rattle.botcore.specs.Happenings.{Saying, saying_of, seconds_of, passed_all}
use Rattle.botcore.specs.Automatic.{greeting}
use Rattle.botcore.specs.Lines.{acting_of, acting_after, Finish, finish_text, finish_line, finish_reading}
use Rattle.botcore.specs.Putting.{put_all, put_faults}
use Rattle.outqueue.specs.Sending.{idle}
use Rattle.botcore.specs.declared.manner.Manner.TheVariants.{InTurn}
use Rattle.botcore.specs.Shown.{AreTaken}
use Rattle.procs.specs.Made.{entry_of, AllKept}
use Rattle.botcore.specs.Reports.{done, refused, out_of_memory, answer_report}

-- ---- events that call nothing

-- the result of an event, whatever it reports, unless memory runs out
pub record Due : Type 0 where
  pub report : Report
  pub after : Bot

-- connected: on no channel, under the nick of the configuration, and of all lines for the server only the greeting
-- waits; the bot does not allocate
abbrev pub connect_due : Bot → Due
connect_due old = record {
  report = record (done None) { faults = put_faults InTurn idle (greeting old.config) };
  after = record old {
    channels = connected old.config.nick;
    queues = put_all InTurn idle (greeting old.config);
    welcomed = false;
  };
}

-- a bind that is made, unless the table refuses it
abbrev pub asked_of : NewBind → Asked
asked_of asked = record { kind = asked.kind; flags = asked.flags; mask = asked.mask; proc = asked.proc }

abbrev pub bind_due : Bot → Asked → Option BindFault → Due
bind_due old asked (Some fault) = record { report = refused (bind_refusal fault); after = old }
bind_due old asked None =
    record { report = done (Some (Bound (number_of old.binds asked))); after = record old { binds = bound old.binds asked } }

-- the bind to remove, if there is one
abbrev pub bind_to_go : Table → OldBind → Option HeldBind
bind_to_go table gone = find (is_such gone.kind gone.mask gone.proc) table.binds

-- a bind is removed, if there is one
abbrev pub unbind_due : Bot → OldBind → Option HeldBind → Due
unbind_due old gone None = record { report = refused (bind_refusal NoSuchBind); after = old }
unbind_due old gone (Some bind) = record {
  report = done (Some (Unbound bind.number));
  after = record old { binds = record old.binds { binds = without_such gone.kind gone.mask gone.proc old.binds.binds } };
}

-- what is due is reported and done; out of memory, which requires an allocation, leaves the bot as it was
abbrev pub Gives : End → Type 0 → Bot → Due → Report → Bot → Type 0
Gives Done Grows old due report new = (report ≡ due.report) × (new ≡ due.after)
Gives (Refused why) Grows old due report new = (report ≡ due.report) × (new ≡ due.after)
Gives NoMemory Grows old due report new = Grows × (report ≡ out_of_memory) × (new ≡ old)

abbrev pub GivesBind : Bot → Asked → Report → Bot → Type 0
GivesBind old asked report new =
    Gives report.end (refusal old.binds asked ≡ None) old (bind_due old asked (refusal old.binds asked)) report new

abbrev pub GivesUnbind : Bot → OldBind → Report → Bot → Type 0
GivesUnbind old gone report new = Gives report.end ⊥ old (unbind_due old gone (bind_to_go old.binds gone)) report new

-- ---- calls of the link

-- The link was called: its end met the rule, the answer is reported, and the bot is left with that end.
pub record GivesCall (Met : Result Answer (Failure LinkFault) → BotEnd → Type 0)
    (left : Result Answer (Failure LinkFault) → BotEnd → Bot) (told : Report) (new : Bot) : Type 0 where
  pub answer : Result Answer (Failure LinkFault)
  pub met : Met answer new.link
  pub report : told ≡ answer_report answer
  pub after : new ≡ left answer new.link

-- then only the end of the link differs
abbrev pub relinked : Bot → Result Answer (Failure LinkFault) → BotEnd → Bot
relinked old answer link = record old { link = link }

abbrev pub GivesAsk : Bot → Change → Report → Bot → Type 0
GivesAsk old change report new = GivesCall (Asks old.link change) (relinked old) report new

abbrev pub GivesRow : Bot → (How → Row LinkEnd) → Report → Bot → Type 0
GivesRow old row report new = GivesCall (Calls old.link row) (relinked old) report new

-- A restart loses everything but the binds and the content of the journal. A failed restart loses nothing, and leaves
-- its end of the link down.
abbrev pub after_restart : Bot → Result Answer (Failure LinkFault) → BotEnd → Bot
after_restart old (Ok answer) link = restarted old link
after_restart old (Err why) link = record old { link = link }

abbrev pub GivesRestart : Bot → Report → Bot → Type 0
GivesRestart old report new = GivesCall (CallsRestart old.link) (after_restart old) report new

-- ---- events that call procs

-- All these calls were made, each answered by its proc, which saw the bot `start`, and their actions were carried out,
-- from that bot on; `finish` gives what the event then leaves.
pub record IsCalled (promised : Promised) (told : List Telling)
    (start : Bot) (came : Option Note) (finish : List MadeCall → Finish) (report : Report) (new : Bot) : Type 0 where
  pub calls : map entry_of report.calls ≡ calls_in told
  pub kept : AllKept promised (bot_seen start) report.calls
  pub note : report.note ≡ came
  pub packets : report.packets ≡ (acting_after start report.calls).sent
  pub lines : report.lines ≡ (finish report.calls).lines
  pub faults : report.faults ≡ faults_of (acting_of start) report.calls (unbound_in told) ++ (finish report.calls).faults
  pub logged : report.logged ≡ is_logged (calls_in told)
  pub after : new ≡ (finish report.calls).after

-- the first of these calls were made before memory ran out, and the bot is as it was
pub record IsCutShort (promised : Promised) (seen : Seen) (told : List Telling) (old : Bot) (report : Report) (new : Bot) : Type 0 where
  pub rest : List Entry
  pub calls : map entry_of report.calls ++ rest ≡ calls_in told
  pub kept : AllKept promised seen report.calls
  pub note : report.note ≡ None
  pub packets : report.packets ≡ []
  pub lines : report.lines ≡ []
  pub faults : report.faults ≡ []
  pub logged : report.logged ≡ is_logged (map entry_of report.calls)
  pub after : new ≡ old

-- an event that calls procs is never refused
abbrev pub TakesCalls : End → Promised → List Telling → Bot
    → Bot → Option Note → (List MadeCall → Finish) → Report → Bot → Type 0
TakesCalls Done promised told old start came finish report new = IsCalled promised told start came finish report new
TakesCalls (Refused why) promised told old start came finish report new = ⊥
TakesCalls NoMemory promised told old start came finish report new = IsCutShort promised (bot_seen start) told old report new

-- a message: its events call procs, their actions are carried out, it is applied to the channel state, and the bot's
-- own lines are queued
abbrev pub message_told : Promised → List (List ℕ) → Bot → Message → List Telling
message_told promised names bot message = told_of (bot_setting promised names bot) (map Heard (events_of message bot.channels))

abbrev pub TakesMessage : Promised → List (List ℕ)
    → Bot → Message → Report → Bot → Type 0
TakesMessage promised names old message report new =
    TakesCalls report.end promised (message_told promised names old message) old old None (finish_line old message) report new

-- a text of another bot calls procs by its first word, if it begins with one
abbrev pub said_occasions : Saying → List Trigger
said_occasions saying = if length (first_word saying.text) == 0 then [] else Said saying.from saying.text ∷ []

abbrev pub text_note : Saying → Note
text_note saying = link_note (told_text saying.from saying.text)

abbrev pub TakesText : Promised → List (List ℕ)
    → Bot → Saying → Report → Bot → Type 0
TakesText promised names old saying report new =
    TakesCalls report.end promised (told_of (bot_setting promised names old) (said_occasions saying)) old old
    (Some (text_note saying)) (finish_text old) report new

-- a packet is one call of the link, and the bot handles its text, if it brings one to this bot; what a text does
-- doesn't depend on what happened to the disks
abbrev pub TakesPacket : Option Saying → Promised → List (List ℕ)
    → Bot → Packet → Report → Bot → Type 0
TakesPacket None promised names old packet report new = GivesRow old (took old.link packet) report new
TakesPacket (Some saying) promised names old packet report new =
    (device : Device) × ((device ≡ old.link.device) ⊎ LeavesOwn (record old.link { end = (took old.link packet Fails).after }) old.link.device device)
    × TakesText promised names (with_device old device) saying report new

-- ---- readings of the clock

-- a reading before the last one
abbrev pub is_past : Option ℕ → ℕ → Bool
is_past None now = false
is_past (Some last) now = nat_lt now last

-- a reading that is not above the last one
abbrev pub is_no_later : Option ℕ → ℕ → Bool
is_no_later None now = false
is_no_later (Some last) now = nat_le now last

-- a reading that does nothing: one that is not above the last, or, for a bot that sends at once, one before the last
abbrev pub is_stale : Bool → Option ℕ → ℕ → Bool
is_stale true last now = is_past last now
is_stale false last now = is_no_later last now

-- the bot when all seconds of a reading have run: its clock is at the reading, at which new timers are made
abbrev pub run_to : Bot → ℕ → Bot
run_to old now = record old { clock = Some now; timers = passed_all old.timers (seconds_run old.clock now) }

-- the seconds of a reading call procs, then all actions are carried out, and then the lines that may go are sent; out
-- of memory, only the first procs may be called
abbrev pub TakesSeconds : Promised → List (List ℕ)
    → Bot → ℕ → Report → Bot → Type 0
TakesSeconds promised names old now report new =
    (occasions : List Trigger)
    × AreTaken report.end (seconds_of old.config.zone old.timers (seconds_run old.clock now)) occasions
    × TakesCalls report.end promised (told_of (bot_setting promised names old) occasions) old (run_to old now)
    None (finish_reading (run_to old now) now) report new

-- a reading that is stale does nothing, and does not allocate; at any other one of the last second no second runs, and
-- the lines that may go are sent
abbrev pub TakesMoment : Bool → Promised → List (List ℕ)
    → Bot → ℕ → Report → Bot → Type 0
TakesMoment true promised names old now report new = (report ≡ done None) × (new ≡ old)
TakesMoment false promised names old now report new = TakesSeconds promised names old now report new

-- a reading that is not a moment is refused
abbrev pub TakesReading : Option ClockFault → Promised → List (List ℕ)
    → Bot → ℕ → Report → Bot → Type 0
TakesReading (Some fault) promised names old now report new = (report ≡ refused (clock_refusal fault)) × (new ≡ old)
TakesReading None promised names old now report new =
    TakesMoment (is_stale old.config.sends_at_once old.clock now) promised names old now report new

-- ---- any event

-- a packet that arrives has well-formed records
abbrev pub IsGoodEvent : BotEvent → Type 0
IsGoodEvent Connect = Unit {0}
IsGoodEvent (Line line) = Unit {0}
IsGoodEvent (Ask change) = Unit {0}
IsGoodEvent Pump = Unit {0}
IsGoodEvent (Receive packet) = HasGoodRecords packet
IsGoodEvent (Clock now) = Unit {0}
IsGoodEvent (Bind asked) = Unit {0}
IsGoodEvent (Unbind gone) = Unit {0}
IsGoodEvent Compact = Unit {0}
IsGoodEvent Restart = Unit {0}

-- one step with a store of these names, from old to new
abbrev pub TakesStep : Promised → List (List ℕ)
    → Bot → BotEvent → Report → Bot → Type 0
TakesStep promised names old Connect report new = Gives report.end ⊥ old (connect_due old) report new
TakesStep promised names old (Line (a_message message)) report new = TakesMessage promised names old message report new
TakesStep promised names old (Line (a_bad_line fault)) report new = (report ≡ done (Some (Bad fault))) × (new ≡ old)
TakesStep promised names old (Ask change) report new = GivesAsk old change report new
TakesStep promised names old Pump report new = GivesRow old (did old.link pumps) report new
TakesStep promised names old (Receive packet) report new =
    TakesPacket (saying_of (took old.link packet Works).told) promised names old packet report new
TakesStep promised names old (Clock now) report new = TakesReading (reading_fault now) promised names old now report new
TakesStep promised names old (Bind asked) report new = GivesBind old (asked_of asked) report new
TakesStep promised names old (Unbind gone) report new = GivesUnbind old gone report new
TakesStep promised names old Compact report new = GivesRow old (did old.link compacts) report new
TakesStep promised names old Restart report new = GivesRestart old report new
