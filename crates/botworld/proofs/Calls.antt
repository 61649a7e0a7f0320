-- Alike bots make the same calls, at any moments of a run; where the promised codes ignore the channels, bots that are alike but for
-- these do too.
use Rattle.std.proofs.lemmas.Bool.Decides.{nat_tests}
use Rattle.std.proofs.Common.{◌≡◌, ℕ, zero, suc, ◌+◌, ◌-◌, ◌≤◌, ◌==◌, max, Bool, true, false, if◌then◌else◌, List, [], ◌∷◌, length, map, slice_get, Option, None, Some, Result, Ok, Err}
use Rattle.std.proofs.Common.{refl, ap, sym, subst, ◌∙◌, arith}
use Rattle.std.proofs.lemmas.Bool.{leb-true}
use Rattle.std.proofs.Math.Nat.{le-max_left}
use Rattle.std.proofs.Math.Path.{fun_ext}
use Rattle.std.specs.List.{range_with_len}
use Rattle.std.specs.Option.{option_map}
use Rattle.userfile.specs.Records.{Records}
use Rattle.chanstate.specs.declared.event.IrcEvent.{IrcEvent as MessageEvent}
use Rattle.chanstate.specs.Events.{events_of}
use Rattle.bytetext.specs.Words.{first_word}
use Rattle.chanstate.specs.declared.state.ChanState.{ChanState}
use Rattle.chanstate.specs.Views.{mapping_of}
use Rattle.bottimers.specs.declared.fault.ClockFault.{ClockFault}
use Rattle.bottimers.specs.Seconds.{reading_fault, seconds_run}
use Rattle.sharewire.specs.declared.packet.Packet.{Packet}
use Rattle.ircline.specs.declared.line.Line.TheVariants.{Message as a_message, Bad as a_bad_line}
use Rattle.bytetext.specs.declared.failure.Failure.{Failure}
use Rattle.bytetext.specs.declared.failure.Failure.TheVariants.{Refused as refused_by, NoMemory as no_memory}
use Rattle.protocol.specs.Packets.{AcceptedChange}
use Rattle.protocol.specs.Bots.{Works}
use Rattle.protocol.specs.History.{Extends, records_of}
use Rattle.protocol.proofs.Lists.{Extends-length, records_of-more}
use Rattle.sharelink.specs.declared.answer.Answer.{Answer}
use Rattle.sharelink.specs.declared.error.LinkFault.{LinkFault}
use Rattle.sharelink.specs.BotLinks.{BotEnd, took}
use Rattle.procs.specs.Promises.{Promised, code_at}
use Rattle.procs.specs.Seen.{Sight}
use Rattle.procs.specs.declared.call.Call.{Call}
use Rattle.procs.specs.declared.reply.Code.{Code}
use Rattle.procs.specs.declared.bind.Bind.{Bind as HeldBind}
use Rattle.procs.specs.declared.bind_fault.BindFault.{BindFault}
use Rattle.procs.specs.Tables.{Asked, refusal}
use Rattle.botcore.specs.declared.event.BotEvent.{BotEvent}
use Rattle.botcore.specs.declared.event.BotEvent.TheVariants.{Connect, Line, Ask, Pump, Receive, Clock, Bind, Unbind, Compact, Restart}
use Rattle.botcore.specs.declared.event.OldBind.{OldBind}
use Rattle.botcore.specs.declared.fault.Refusal.{Refusal}
use Rattle.botcore.specs.declared.fault.Refusal.TheVariants.{Clock as clock_refusal}
use Rattle.procs.specs.declared.made_call.MadeCall.{MadeCall}
use Rattle.procs.specs.declared.trigger.Trigger.{Trigger}
use Rattle.procs.specs.declared.trigger.Trigger.TheVariants.{Heard, Said}
use Rattle.botcore.specs.declared.report.Note.{Note}
use Rattle.botcore.specs.declared.report.End.{End}
use Rattle.botcore.specs.declared.report.End.TheVariants.{Done, Refused, NoMemory}
use Rattle.botcore.specs.declared.report.Report.{Report as BotReport}
use Rattle.botcore.specs.Bots.{Bot, with_device, bot_setting}
use Rattle.procs.specs.Tellings.{Telling}
use Rattle.procs.specs.Dispatched.{setting_of, setting_for}
use Rattle.procs.specs.Dispatching.{Setting, told_of}
use Rattle.botcore.specs.Happenings.{Happening, Saying, saying_of, said, said_if, seconds_of, happenings_of}
use Rattle.botcore.specs.Happenings.Happening.{Heard as heard_event, Said as said_text}
use Rattle.botcore.specs.Lines.{Finish}
use Rattle.botcore.specs.Links.{link_version, link_records}
use Rattle.procs.specs.Made.{entry_of}
use Rattle.botcore.specs.Reports.{refused, answer_report}
use Rattle.botcore.specs.Shown.{AreOccasions, AreTaken}
use Rattle.botcore.specs.Steps.{Due, bind_due, unbind_due, bind_to_go, asked_of, Gives, GivesCall, TakesCalls, said_occasions, TakesPacket}
use Rattle.botcore.specs.Steps.{is_stale, run_to, TakesMoment, TakesReading, TakesStep}
use Rattle.botcore.proofs.Calendar.{same_occasions}
use Rattle.botworld.specs.declared.step.Part.{Part}
use Rattle.botworld.specs.declared.step.Step.{Step}
use Rattle.botworld.specs.declared.outcome.Outcome.{Outcome}
use Rattle.botworld.specs.Net.{Net, report_of, part_of, TakesPart, Comes, NetStep, shown_version}
use Rattle.botworld.specs.Network.{State, accepted_by, IsSound}
use Rattle.botworld.specs.Calling.{ProcCall, proc_call, Calling, calling_done, calling_by, calling_in, calling, IsAlikeButChannels, IsAlike, IgnoresChannels}
use Rattle.botworld.specs.Standing.{Moment, Run, Past, Stands, SameCalls, SameCallsIgnoringChannels}
use Rattle.botworld.proofs.Start.{start_sound}
use Rattle.botworld.proofs.Runs.{Run-follows}
use Rattle.botworld.proofs.Shown.{shown_at}
use Rattle.botworld.proofs.Alike.{proc_call_of, proc_calls, told_of-alike}

-- the calls of one step -----------------------------------------------------------------------------------------------

map-entry_of : (made : List MadeCall) → map proc_call made ≡ map proc_call_of (map entry_of made)
map-entry_of [] = refl
map-entry_of (m ∷ made) = ap (λ (cs : List ProcCall). proc_call m ∷ cs) (map-entry_of made)

-- a report without calls
abbrev HasNone : BotReport → Type 0
HasNone report = map proc_call report.calls ≡ []

-- what is due to a done step
due_done : (Grows : Type 0) (old : Bot) (due : Due) (report : BotReport) (new : Bot) (end : End) → end ≡ Done → Gives end Grows old due report new
    → (report ≡ due.report) × (new ≡ due.after)
due_done Grows old due report new Done e g = g
due_done Grows old due report new (Refused why) e g = cc
due_done Grows old due report new NoMemory e g = cc

none_due : (Grows : Type 0) (old : Bot) (due : Due) (report : BotReport) (new : Bot) → report.end ≡ Done → Gives report.end Grows old due report new
    → due.report.calls ≡ [] → HasNone report
none_due Grows old due report new done g none =
    ap (λ (r : BotReport). map proc_call r.calls) (due_done Grows old due report new report.end done g).0 ∙ ap (map proc_call) none

answer_report-none : (answer : Result Answer (Failure LinkFault)) → (answer_report answer).calls ≡ []
answer_report-none (Ok answer) = refl
answer_report-none (Err (refused_by fault)) = refl
answer_report-none (Err no_memory) = refl

-- a call of the link calls no proc
call_none : {Met : Result Answer (Failure LinkFault) → BotEnd → Type 0} {left : Result Answer (Failure LinkFault) → BotEnd → Bot} (report : BotReport)
    (new : Bot) → GivesCall Met left report new → HasNone report
call_none report new g = ap (λ (r : BotReport). map proc_call r.calls) g.report ∙ ap (map proc_call) (answer_report-none g.answer)

bind_due-none : (old : Bot) (asked : Asked) (r : Option BindFault) → (bind_due old asked r).report.calls ≡ []
bind_due-none old asked None = refl
bind_due-none old asked (Some fault) = refl

unbind_due-none : (old : Bot) (gone : OldBind) (r : Option HeldBind) → (unbind_due old gone r).report.calls ≡ []
unbind_due-none old gone None = refl
unbind_due-none old gone (Some bind) = refl

-- a done step made the calls of what happened, with some minutes for the numbers of minutes
pub record AreCalled (promised : Promised) (names : List (List ℕ)) (old : Bot) (happenings : List Happening) (calls : List ProcCall) : Type 0 where
  pub occasions : List Trigger
  pub are : AreOccasions happenings occasions
  pub made : calls ≡ proc_calls (told_of (bot_setting promised names old) occasions)

-- nothing happened, and nothing was called
none_called : (promised : Promised) (names : List (List ℕ)) (old : Bot) (report : BotReport) → HasNone report
    → AreCalled promised names old [] (map proc_call report.calls)
none_called promised names old report none = record { occasions = []; are = tt; made = none }

made_calls : (promised : Promised) (told : List Telling) (old start : Bot) (note : Option Note)
    (finish : List MadeCall → Finish) (report : BotReport) (new : Bot) (end : End) → end ≡ Done → TakesCalls end promised told old start note finish report new
    → map proc_call report.calls ≡ proc_calls told
made_calls promised told old start came finish report new Done e h = map-entry_of report.calls ∙ ap (map proc_call_of) h.calls
made_calls promised told old start came finish report new (Refused why) e h = absurd h
made_calls promised told old start came finish report new NoMemory e h = cc

-- the events of a message are occasions
are_heard : (events : List MessageEvent) → AreOccasions (map heard_event events) (map Heard events)
are_heard [] = tt
are_heard (e ∷ events) = (refl, are_heard events)

-- and so is a text
are_said : (saying : Saying) → AreOccasions (said saying) (said_occasions saying)
are_said saying = by (length (first_word saying.text) == 0)
  where
    by : (b : Bool) → AreOccasions (if b then [] else said_text saying.from saying.text ∷ []) (if b then [] else Said saying.from saying.text ∷ [])
    by true = tt
    by false = ((refl, refl), tt)

packet_calls : (promised : Promised) (names : List (List ℕ)) (old : Bot) (packet : Packet)
    (report : BotReport) (new : Bot) → report.end ≡ Done → (saying : Option Saying) → TakesPacket saying promised names old packet report new
    → AreCalled promised names old (said_if saying) (map proc_call report.calls)
packet_calls promised names old packet report new done None t = none_called promised names old report (call_none report new t)
packet_calls promised names old packet report new done (Some saying) t =
    record {
      occasions = said_occasions saying;
      are = are_said saying;
      made = made_calls promised _ (with_device old t.0) (with_device old t.0) _ _ report new report.end done t.2;
    }

-- at a reading that is not above the last no second runs, so at no stale one
not_above : (at_once : Bool) (last now : ℕ) → is_stale at_once (Some last) now ≡ true → now ≤ last
not_above true last now e = grind (arith, nat_tests, e)
not_above false last now e = leb-true now last e

stale_none : (at_once : Bool) (last : Option ℕ) (now : ℕ) → is_stale at_once last now ≡ true → seconds_run last now ≡ []
stale_none true None now e = refl
stale_none false None now e = refl
stale_none at_once (Some last) now e =
    let above : last + 1 ≤ max (last + 1) (now - 599) = le-max_left (last + 1) (now - 599) in
    let below : now ≤ last = not_above at_once last now e in
    let none : now + 1 - max (last + 1) (now - 599) ≡ 0 = omega (arith, above, below) in
    ap (range_with_len (max (last + 1) (now - 599))) none

moment_calls : (promised : Promised) (names : List (List ℕ)) (old : Bot) (now : ℕ)
    (report : BotReport) (new : Bot) → report.end ≡ Done → (stale : Bool) → is_stale old.config.sends_at_once old.clock now ≡ stale
    → TakesMoment stale promised names old now report new
    → AreCalled promised names old (seconds_of old.config.zone old.timers (seconds_run old.clock now)) (map proc_call report.calls)
moment_calls promised names old now report new done true e t =
    rw (stale_none old.config.sends_at_once old.clock now e) (none_called promised names old report (ap (λ (r : BotReport). map proc_call r.calls) t.0))
moment_calls promised names old now report new done false e t =
    record {
      occasions = t.0;
      are = subst (λ (end : End). AreTaken end (seconds_of old.config.zone old.timers (seconds_run old.clock now)) t.0) done t.1;
      made = made_calls promised _ old (run_to old now) _ _ report new report.end done t.2;
    }

refused_done : (report : BotReport) (why : Refusal) → report.end ≡ Done → report ≡ refused why → ⊥
refused_done report why done is = let both = sym done ∙ ap (λ (r : BotReport). r.end) is in cc

reading_calls : (promised : Promised) (names : List (List ℕ)) (old : Bot) (now : ℕ)
    (report : BotReport) (new : Bot) → report.end ≡ Done → (fault : Option ClockFault) → TakesReading fault promised names old now report new
    → AreCalled promised names old (seconds_of old.config.zone old.timers (seconds_run old.clock now)) (map proc_call report.calls)
reading_calls promised names old now report new done (Some fault) t = absurd (refused_done report (clock_refusal fault) done t.0)
reading_calls promised names old now report new done None t = moment_calls promised names old now report new done (is_stale old.config.sends_at_once old.clock now) refl t

pub step_calls : (promised : Promised) (names : List (List ℕ)) (old : Bot) (event : BotEvent)
    (report : BotReport) (new : Bot) → report.end ≡ Done → TakesStep promised names old event report new
    → AreCalled promised names old (happenings_of old event) (map proc_call report.calls)
step_calls promised names old Connect report new done t = none_called promised names old report (none_due _ old _ report new done t refl)
step_calls promised names old (Line (a_message message)) report new done t =
    record {
      occasions = map Heard (events_of message old.channels);
      are = are_heard (events_of message old.channels);
      made = made_calls promised _ old old _ _ report new report.end done t;
    }
step_calls promised names old (Line (a_bad_line fault)) report new done t =
    none_called promised names old report (ap (λ (r : BotReport). map proc_call r.calls) t.0)
step_calls promised names old (Ask change) report new done t = none_called promised names old report (call_none report new t)
step_calls promised names old Pump report new done t = none_called promised names old report (call_none report new t)
step_calls promised names old (Receive packet) report new done t =
    packet_calls promised names old packet report new done (saying_of (took old.link packet Works).told) t
step_calls promised names old (Clock now) report new done t = reading_calls promised names old now report new done (reading_fault now) t
step_calls promised names old (Bind asked) report new done t =
    none_called promised names old report (none_due _ old _ report new done t (bind_due-none old (asked_of asked) (refusal old.binds (asked_of asked))))
step_calls promised names old (Unbind gone) report new done t =
    none_called promised names old report (none_due _ old _ report new done t (unbind_due-none old gone (bind_to_go old.binds gone)))
step_calls promised names old Compact report new done t = none_called promised names old report (call_none report new t)
step_calls promised names old Restart report new done t = none_called promised names old report (call_none report new t)

-- what a promised code may depend on at a bot that shows this version, on these channels
abbrev pub sight_at : List AcceptedChange → ℕ → ChanState → Sight
sight_at all version channels = record { records = records_of all version; channels = channels }

-- what the calls of a bot with these records depend on
abbrev pub setting_by : Promised → List (List ℕ) → Bot → Records → Setting
setting_by promised names bot records =
    setting_for promised names (record { records = records; channels = bot.channels }) bot.binds.binds bot.config.exclusive

-- what they depend on by its version
abbrev pub setting_at : Promised → List (List ℕ) → List AcceptedChange → Bot → Setting
setting_at promised names all bot = setting_by promised names bot (records_of all (link_version bot.link))

-- the calls are those of the bot at its version
pub record IsCalled (promised : Promised) (names : List (List ℕ)) (all : List AcceptedChange) (a : Calling) : Type 0 where
  pub version : link_version a.bot.link ≤ length all
  pub occasions : List Trigger
  pub are : AreOccasions a.happenings occasions
  pub calls : a.calls ≡ proc_calls (told_of (setting_at promised names all a.bot) occasions)

part_calls : (promised : Promised) (s : State) (part : Part) (o : Outcome) (w : Net) → IsSound s
    → (t : TakesPart promised s.net part o w) (a : Calling) (end : End) → t.report.end ≡ end
    → calling_done end part.event (report_of part.bot (length s.net.packets + 1) t.report) t.was ≡ Some a → IsCalled promised s.net.store (accepted_by s) a
part_calls promised s part o w sound t a Done e is =
    let it : Calling = record { bot = t.was; happenings = happenings_of t.was part.event; calls = map proc_call t.report.calls } in
    let same : it ≡ a = cc in
    let shows : shown_version s.net part.bot ≡ Some (link_version t.was.link) = ap (option_map (λ (b : Bot). link_version b.link)) t.there in
    let at = shown_at s sound part.bot (link_version t.was.link) shows in
    let records : link_records t.was.link ≡ records_of (accepted_by s) (link_version t.was.link) =
    let both = sym (ap (option_map (λ (b : Bot). link_records b.link)) t.there) ∙ at.1 in cc in
    let made = step_calls promised s.net.store t.was part.event t.report t.after e t.steps in
    let calls = made.made
    ∙ ap (λ (r : Records). proc_calls (told_of (setting_by promised s.net.store t.was r) made.occasions)) records in
    subst (IsCalled promised s.net.store (accepted_by s)) same (record { version = at.0; occasions = made.occasions; are = made.are; calls = calls })
part_calls promised s part o w sound t a (Refused why) e is = cc
part_calls promised s part o w sound t a NoMemory e is = cc

calls_at : (promised : Promised) (s : State) (step : Step) (o : Outcome) (w : Net) → IsSound s
    → NetStep promised s.net step o w → (a : Calling) → calling s.net step o ≡ Some a → IsCalled promised s.net.store (accepted_by s) a
calls_at promised s step o w sound rule a is = by (part_of s.net step) rule is
  where
    by : (r : Result Part Outcome) → Comes promised s.net r o w → calling_in s.net r o ≡ Some a → IsCalled promised s.net.store (accepted_by s) a
    by (Err why) c e = cc
    by (Ok part) t e =
        let here : calling_by (slice_get s.net.bots part.bot) part.event (report_of part.bot (length s.net.packets + 1) t.report) ≡ Some a =
        subst (λ (x : Outcome). calling_in s.net (Ok part) x ≡ Some a) t.told e in
        part_calls promised s part o w sound t a t.report.end refl
        (subst (λ (b : Option Bot). calling_by b part.event (report_of part.bot (length s.net.packets + 1) t.report) ≡ Some a) t.there here)

-- the calls of a run ---------------------------------------------------------------------------------------------------

pub IsCalled-extended : (promised : Promised) (names : List (List ℕ)) (all now : List AcceptedChange) (a : Calling) → Extends all now
    → IsCalled promised names all a → IsCalled promised names now a
IsCalled-extended promised names all now a more called =
    let v = link_version a.bot.link in
    let records : records_of all v ≡ records_of now v = sym (records_of-more all now v more called.version) in
    record {
      version = omega (arith, called.version, Extends-length all now more);
      occasions = called.occasions;
      are = called.are;
      calls = called.calls
          ∙ ap (λ (r : Records). proc_calls (told_of (setting_by promised names a.bot r) called.occasions)) records;
    }

abbrev AllCalled : Promised → List (List ℕ) → List AcceptedChange → List Moment → Type 0
AllCalled promised names all ms = (i : ℕ) (m : Moment) (a : Calling) → slice_get ms i ≡ Some m → calling m.before.net m.step m.outcome ≡ Some a
    → IsCalled promised names all a

all_called : (promised : Promised) (first : State) (ms : List Moment) (last : State) → IsSound first
    → Run promised first ms last → AllCalled promised last.net.store (accepted_by last) ms
all_called promised first [] last sound run i m a at is = cc
all_called promised first (x ∷ ms) last sound run zero m a at is =
    let follows = Run-follows promised first (x ∷ ms) last sound run in
    let same : x ≡ m = cc in
    let before : m.before ≡ first = sym (ap (λ (x : Moment). x.before) same) ∙ run.0 in
    let rule = subst (λ (x : Moment). NetStep promised x.before.net x.step x.outcome x.after.net) same run.1.by_rule in
    let called = calls_at promised first m.step m.outcome m.after.net sound
    (subst (λ (s : State). NetStep promised s.net m.step m.outcome m.after.net) before rule) a
    (subst (λ (s : State). calling s.net m.step m.outcome ≡ Some a) before is) in
    subst (λ (names : List (List ℕ)). IsCalled promised names (accepted_by last) a) (sym follows.store)
    (IsCalled-extended promised first.net.store (accepted_by first) (accepted_by last) a follows.links.hub.accepted called)
all_called promised first (x ∷ ms) last sound run (suc i) m a at is = all_called promised x.after ms last run.1.sound run.2 i m a at is

-- bots alike but for their channels call the same procs where the codes of both are the same
same_codes : (promised : Promised) (names : List (List ℕ)) (all : List AcceptedChange) (a b : Calling) → IsCalled promised names all a
    → IsCalled promised names all b → IsAlikeButChannels a b
    → code_at promised (sight_at all (link_version a.bot.link) a.bot.channels) ≡ code_at promised (sight_at all (link_version b.bot.link) b.bot.channels)
    → a.calls ≡ b.calls
same_codes promised names all a b one other alike codes =
    let from : Setting = setting_at promised names all b.bot in
    let same : one.occasions ≡ other.occasions =
    same_occasions b.happenings one.occasions other.occasions (subst (λ (hs : List Happening). AreOccasions hs one.occasions) alike.happenings one.are) other.are
    in
    one.calls
    ∙ ap (λ (os : List Trigger). proc_calls (told_of (setting_at promised names all a.bot) os)) same
    ∙ ap (λ (c : List ℕ → Call → Code). proc_calls (told_of
    (setting_of c names (mapping_of a.bot.channels) (records_of all (link_version a.bot.link)).users a.bot.binds.binds a.bot.config.exclusive) other.occasions)) codes
    ∙ ap (λ (v : ℕ). proc_calls (told_of
    (setting_of from.code_of names (mapping_of a.bot.channels) (records_of all v).users a.bot.binds.binds a.bot.config.exclusive) other.occasions)) alike.version
    ∙ ap (λ m. proc_calls (told_of
    (setting_of from.code_of names m from.users a.bot.binds.binds a.bot.config.exclusive) other.occasions)) alike.casemapping
    ∙ ap (λ (e : Bool). proc_calls (told_of (setting_of from.code_of names from.mapping from.users a.bot.binds.binds e) other.occasions)) alike.exclusive
    ∙ told_of-alike from a.bot.binds.binds b.bot.binds.binds other.occasions alike.binds
    ∙ sym other.calls

-- alike bots call the same procs
pub alike_calls : (promised : Promised) (names : List (List ℕ)) (all : List AcceptedChange) (a b : Calling) → IsCalled promised names all a
    → IsCalled promised names all b → IsAlike a b → a.calls ≡ b.calls
alike_calls promised names all a b one other alike =
    same_codes promised names all a b one other alike.others
    (ap (λ (v : ℕ). code_at promised (sight_at all v a.bot.channels)) alike.others.version
    ∙ ap (λ (c : ChanState). code_at promised (sight_at all (link_version b.bot.link) c)) alike.channels)

-- codes that ignore the channels are the same on others
ignoring_codes : (promised : Promised) (records : Records) (one other : ChanState) → IgnoresChannels promised
    → code_at promised (record { records = records; channels = one }) ≡ code_at promised (record { records = records; channels = other })
ignoring_codes promised records one other ignores = fun_ext (λ name. fun_ext (λ call. ignores name call records one other))

-- then bots alike but for their channels call the same procs
pub alike_calls_ignoring_channels : (promised : Promised) (names : List (List ℕ)) (all : List AcceptedChange) (a b : Calling)
    → IgnoresChannels promised → IsCalled promised names all a → IsCalled promised names all b → IsAlikeButChannels a b → a.calls ≡ b.calls
alike_calls_ignoring_channels promised names all a b ignores one other alike =
    same_codes promised names all a b one other alike
    (ap (λ (v : ℕ). code_at promised (sight_at all v a.bot.channels)) alike.version
    ∙ ignoring_codes promised (records_of all (link_version b.bot.link)) a.bot.channels b.bot.channels ignores)

module _ (promised : Promised) (w : Net) (past : Past) where
  called_in : Stands promised w past → AllCalled promised past.now.net.store (accepted_by past.now) past.history
  called_in stands = all_called promised past.first past.history past.now (start_sound past.first stands.begins) stands.run

  pub same_calls : Stands promised w past → SameCalls past.history
  same_calls stands i j m n a b at_i at_j is_a is_b alike =
      let called = called_in stands in
      alike_calls promised past.now.net.store (accepted_by past.now) a b (called i m a at_i is_a) (called j n b at_j is_b) alike

  pub same_calls_ignoring_channels : IgnoresChannels promised → Stands promised w past → SameCallsIgnoringChannels past.history
  same_calls_ignoring_channels ignores stands i j m n a b at_i at_j is_a is_b alike =
      let called = called_in stands in
      alike_calls_ignoring_channels promised past.now.net.store (accepted_by past.now) a b ignores (called i m a at_i is_a)
      (called j n b at_j is_b) alike
