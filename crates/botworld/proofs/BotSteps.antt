-- What a step of one bot leaves of its end of the link, whatever it is told.
use Rattle.std.proofs.Common.{◌≡◌, inl, ℕ, Bool, true, false, List, ◌++◌, slice_set, Option, None, Some, refl, ap, sym, subst, ◌∙◌}
use Rattle.bottimers.specs.declared.fault.ClockFault.{ClockFault}
use Rattle.bottimers.specs.Seconds.{reading_fault}
use Rattle.ircline.specs.declared.line.Line.TheVariants.{Message as a_message, Bad as a_bad_line}
use Rattle.sharewire.specs.declared.packet.Packet.{Packet}
use Rattle.procs.specs.Promises.{Promised}
use Rattle.procs.specs.declared.bind.Bind.{Bind as HeldBind}
use Rattle.procs.specs.declared.bind_fault.BindFault.{BindFault}
use Rattle.procs.specs.Tables.{Asked, refusal}
use Rattle.protocol.specs.Numbers.{item_at}
use Rattle.protocol.specs.Packets.{Sent, AcceptedChange, from_wire}
use Rattle.protocol.specs.Bots.{How, Works, Row}
use Rattle.protocol.specs.History.{History}
use Rattle.protocol.specs.Truth.{IsKeptAnswer, AllOutgoing}
use Rattle.protocol.specs.Network.{posted}
use Rattle.protocol.specs.Network.Event.{Ask as asks, Pump as pumps, Compact as compacts, Restart as restarts}
use Rattle.protocol.specs.Ends.{End as LinkEnd, end_received}
use Rattle.protocol.specs.Nets.{IsMoment, RowFollows}
use Rattle.protocol.proofs.NetGoes.{received_goes}
use Rattle.sharelink.specs.declared.answer.Outgoing.{Outgoing}
use Rattle.sharelink.specs.Calls.{outgoings_of}
use Rattle.sharelink.specs.BotLinks.{BotEnd, did, took, Calls}
use Rattle.botcore.specs.declared.event.BotEvent.{BotEvent}
use Rattle.botcore.specs.declared.event.BotEvent.TheVariants.{Connect, Line, Ask, Pump, Receive, Clock, Bind, Unbind, Compact, Restart}
use Rattle.botcore.specs.declared.event.OldBind.{OldBind}
use Rattle.procs.specs.declared.made_call.MadeCall.{MadeCall}
use Rattle.botcore.specs.declared.report.End.{End}
use Rattle.botcore.specs.declared.report.End.TheVariants.{Done, Refused, NoMemory}
use Rattle.botcore.specs.declared.report.Note.{Note}
use Rattle.botcore.specs.declared.report.Report.{Report}
use Rattle.botcore.specs.Bots.{Bot, with_device}
use Rattle.procs.specs.Tellings.{Telling}
use Rattle.botcore.specs.Acting.{actions_of}
use Rattle.botcore.specs.Happenings.{Saying, saying_of}
use Rattle.botcore.specs.Lines.{acting_of, acting_after, Finish, finish_text, finish_line, finish_reading}
use Rattle.botcore.specs.Reports.{plain, out_of_memory}
use Rattle.botcore.specs.Steps.{Due, connect_due, bind_due, unbind_due, bind_to_go, asked_of, Gives, GivesCall, TakesCalls, text_note, TakesPacket}
use Rattle.botcore.specs.Steps.{is_stale, run_to, TakesMoment, TakesReading, TakesStep}
use Rattle.botworld.specs.Network.{IsFineEnd, GrowsByNote}
use Rattle.botworld.proofs.BotEnds.{IsAmong, LinkGoes, Goes, stays, calls_go, ask_goes, restart_goes, did_row}
use Rattle.botworld.proofs.Acts.{none_go, acts_go}

-- ---- one bot

-- a packet that a bot is told was sent to it
abbrev pub WasSentTo : List Sent → ℕ → BotEvent → Type 0
WasSentTo sent place (Receive packet) =
    (number from : ℕ) × (item_at sent number ≡ Some (record { from = from; to = place; packet = from_wire packet }))
WasSentTo sent place other = Unit {0}

module _ (promised : Promised) (names : List (List ℕ))
    (h : History) (all : List LinkEnd) (sent : List Sent) (place : ℕ) (old : Bot) (among : IsAmong h all sent place old.link) where
  abbrev BotGoes : Report → Bot → Type 0
  BotGoes report new = Goes h all sent place old.link among report new.link

  -- nothing is sent, and the end of the link stays
  put_goes : (end : End) (note : Option Note) (new : Bot) → IsFineEnd end
      → GrowsByNote place note h.hub.kept.accepted h.hub.kept.accepted → new.link ≡ old.link → BotGoes (plain end note) new
  put_goes end note new fine grows same =
      stays h all sent place old.link among end note new.link fine grows (ap (λ (b : BotEnd). b.end) same) (ap (λ (b : BotEnd). b.number) same)
      (ap (λ (b : BotEnd). b.leaves) same)

  same_goes : (r : Report) (b : Bot) (report : Report) (new : Bot) → report ≡ r → new ≡ b → BotGoes r b → BotGoes report new
  same_goes r b report new e f goes =
      subst (λ (z : Report). BotGoes z new) (sym e) (subst (λ (z : Bot). BotGoes r z) (sym f) goes)

  short_goes : BotGoes out_of_memory old
  short_goes = put_goes NoMemory None old (record { same_layout = λ e. cc; undiverged = λ e. cc }) refl refl

  -- what is due goes so, or memory ran out
  gives_goes : (Grows : Type 0) (due : Due) (report : Report) (new : Bot) → BotGoes due.report due.after
      → (end : End) → Gives end Grows old due report new → BotGoes report new
  gives_goes Grows due report new goes Done g = same_goes _ _ report new g.0 g.1 goes
  gives_goes Grows due report new goes (Refused why) g = same_goes _ _ report new g.0 g.1 goes
  gives_goes Grows due report new goes NoMemory g = same_goes _ _ report new g.1 g.2 short_goes

  -- a call of the link
  call_goes : (row : How → Row LinkEnd) → ((how : How) → RowFollows h all sent place (row how))
      → {left : _} (report : Report) (new : Bot) → GivesCall (Calls old.link row) left report new → BotGoes report new
  call_goes row goes report new g =
      subst (λ (r : Report). BotGoes r new) (sym g.report) (calls_go h all sent place old.link among row g.answer new.link goes g.met)

  -- a call of the table of binds
  bind_goes : (asked : Asked) (r : Option BindFault) → BotGoes (bind_due old asked r).report (bind_due old asked r).after
  bind_goes asked None =
      put_goes Done _ (bind_due old asked None).after (record { same_layout = λ e. cc; undiverged = λ e. cc }) refl refl
  bind_goes asked (Some fault) = put_goes (Refused _) None old (record { same_layout = λ e. cc; undiverged = λ e. cc }) refl refl

  unbind_goes : (gone : OldBind) (r : Option HeldBind) → BotGoes (unbind_due old gone r).report (unbind_due old gone r).after
  unbind_goes gone None = put_goes (Refused _) None old (record { same_layout = λ e. cc; undiverged = λ e. cc }) refl refl
  unbind_goes gone (Some bind) =
      put_goes Done _ (unbind_due old gone (Some bind)).after (record { same_layout = λ e. cc; undiverged = λ e. cc }) refl refl

  -- a note of a step that accepts nothing
  abbrev IsQuietNote : Option Note → Type 0
  IsQuietNote note = (first now : List AcceptedChange) → now ≡ first → GrowsByNote place note first now

  -- calls, whose actions are done from a bot with this end of the link on: what goes out are texts
  calls_goes : (told : List Telling) (start before : Bot) (note : Option Note) (finish : List MadeCall → Finish) (report : Report) (new : Bot)
      → start.link.end ≡ old.link.end → start.link.number ≡ old.link.number → start.link.leaves ≡ old.link.leaves
      → before.link.end ≡ old.link.end → before.link.number ≡ old.link.number → before.link.leaves ≡ old.link.leaves
      → ((calls : List MadeCall) → (finish calls).after.link ≡ (acting_after start calls).link)
      → IsQuietNote note → IsFineEnd Done
      → (end : End) → report.end ≡ end → TakesCalls end promised told before start note finish report new → BotGoes report new
  calls_goes told start before came finish report new ends numbers leaves before_ends before_numbers before_leaves finishes quiet fine Done e c =
      let first = none_go h all sent place old.link among (acting_of start) ends numbers leaves refl in
      let acting = acting_after start report.calls in
      let goes = acts_go h all sent place old.link among (acting_of start) (actions_of report.calls) first in
      let same : new.link ≡ acting.link = ap (λ (b : Bot). b.link) c.after ∙ finishes report.calls in
      record {
        after = goes.after;
        sound = subst (λ (os : List Outgoing). IsMoment (slice_set all place new.link.end) (sent ++ posted place (outgoings_of os)) goes.after)
            (sym c.packets)
            (subst (λ (b : BotEnd). IsMoment (slice_set all place b.end) (sent ++ posted place (outgoings_of acting.sent)) goes.after) (sym same)
            goes.sound);
        grows = goes.grows;
        count = goes.count;
        answers = subst (λ (os : List Outgoing). AllOutgoing (IsKeptAnswer goes.after.hub.kept) (outgoings_of os)) (sym c.packets) (goes.answers goes.after.hub.kept);
        fine = subst IsFineEnd (sym e) fine;
        accepted = subst (λ (n : Option Note). GrowsByNote place n h.hub.kept.accepted goes.after.hub.kept.accepted) (sym c.note)
            (quiet h.hub.kept.accepted goes.after.hub.kept.accepted goes.accepted);
        number = ap (λ (b : BotEnd). b.number) same ∙ goes.number;
        leaves = ap (λ (b : BotEnd). b.leaves) same ∙ goes.leaves;
      }
  calls_goes told start before came finish report new ends numbers leaves before_ends before_numbers before_leaves finishes quiet fine (Refused why) e c =
      absurd c
  calls_goes told start before came finish report new ends numbers leaves before_ends before_numbers before_leaves finishes quiet fine NoMemory e c =
      let short = stays h all sent place old.link among NoMemory None new.link (record { same_layout = λ e. cc; undiverged = λ e. cc }) refl
      (ap (λ (b : Bot). b.link.end) c.after ∙ before_ends) (ap (λ (b : Bot). b.link.number) c.after ∙ before_numbers)
      (ap (λ (b : Bot). b.link.leaves) c.after ∙ before_leaves) in
      subst (λ (x : End). LinkGoes h all sent place old.link x report.note report.packets new.link) (sym e)
      (subst (λ (n : Option Note). LinkGoes h all sent place old.link NoMemory n report.packets new.link) (sym c.note)
      (subst (λ (os : List Outgoing). LinkGoes h all sent place old.link NoMemory None os new.link) (sym c.packets) short))

  no_note_is_quiet : IsQuietNote None
  no_note_is_quiet first now same = same

  text_is_quiet : (saying : Saying) → IsQuietNote (Some (text_note saying))
  text_is_quiet saying first now same = record { stay_or_grow = inl same; accepted = λ n hub e. cc; restarted = λ v hub e. cc }

  -- a packet: a call of the link, or a text that calls procs
  packet_goes : (packet : Packet) (report : Report) (new : Bot) → ((how : How) → RowFollows h all sent place (took old.link packet how))
      → (saying : Option Saying) → TakesPacket saying promised names old packet report new → BotGoes report new
  packet_goes packet report new goes None t = call_goes (took old.link packet) goes report new t
  packet_goes packet report new goes (Some saying) t =
      calls_goes _ (with_device old t.0) (with_device old t.0) (Some (text_note saying)) (finish_text (with_device old t.0)) report new
      refl refl refl refl refl refl (λ calls. refl) (text_is_quiet saying) (record { same_layout = λ e. cc; undiverged = λ e. cc }) report.end refl t.2

  -- a reading of the clock
  moment_goes : (now : ℕ) (report : Report) (new : Bot) → (stale : Bool) → TakesMoment stale promised names old now report new
      → BotGoes report new
  moment_goes now report new true t =
      same_goes _ _ report new t.0 t.1 (put_goes Done None old (record { same_layout = λ e. cc; undiverged = λ e. cc }) refl refl)
  moment_goes now report new false t =
      calls_goes _ (run_to old now) old None (finish_reading (run_to old now) now) report new refl refl refl refl refl refl (λ calls. refl)
      no_note_is_quiet (record { same_layout = λ e. cc; undiverged = λ e. cc }) report.end refl t.2

  reading_goes : (now : ℕ) (report : Report) (new : Bot) → (fault : Option ClockFault) → TakesReading fault promised names old now report new
      → BotGoes report new
  reading_goes now report new (Some fault) t =
      same_goes _ _ report new t.0 t.1 (put_goes (Refused _) None old (record { same_layout = λ e. cc; undiverged = λ e. cc }) refl refl)
  reading_goes now report new None t = moment_goes now report new (is_stale old.config.sends_at_once old.clock now) t

  -- the packet of a delivery
  packet_row : (packet : Packet) → WasSentTo sent place (Receive packet) → (how : How) → RowFollows h all sent place (took old.link packet how)
  packet_row packet was how =
      subst (λ n. RowFollows h all sent place (end_received old.link.leaves n how old.link.end (from_wire packet))) (sym among.number)
      (received_goes all sent h among.sound old.link.leaves was.0 (record { from = was.1; to = place; packet = from_wire packet }) old.link.end how
      among.leaves was.2 among.at)

  pub bot_goes : (event : BotEvent) (report : Report) (new : Bot) → WasSentTo sent place event → TakesStep promised names old event report new
      → BotGoes report new
  bot_goes Connect report new was t =
      gives_goes _ _ report new
      (put_goes Done None (connect_due old).after (record { same_layout = λ e. cc; undiverged = λ e. cc }) refl refl) report.end t
  bot_goes (Line (a_message message)) report new was t =
      calls_goes _ old old None (finish_line old message) report new refl refl refl refl refl refl (λ calls. refl) no_note_is_quiet
      (record { same_layout = λ e. cc; undiverged = λ e. cc }) report.end refl t
  bot_goes (Line (a_bad_line fault)) report new was t =
      same_goes _ _ report new t.0 t.1 (put_goes Done _ old (record { same_layout = λ e. cc; undiverged = λ e. cc }) refl refl)
  bot_goes (Ask change) report new was t =
      subst (λ (r : Report). BotGoes r new) (sym t.report)
      (ask_goes h all sent place old.link among change t.answer new.link (did_row h all sent place old.link among (asks change) Works) t.met)
  bot_goes Pump report new was t = call_goes (did old.link pumps) (did_row h all sent place old.link among pumps) report new t
  bot_goes (Receive packet) report new was t =
      packet_goes packet report new (packet_row packet was) (saying_of (took old.link packet Works).told) t
  bot_goes (Clock now) report new was t = reading_goes now report new (reading_fault now) t
  bot_goes (Bind asked) report new was t = gives_goes _ _ report new (bind_goes (asked_of asked) (refusal old.binds (asked_of asked))) report.end t
  bot_goes (Unbind gone) report new was t = gives_goes _ _ report new (unbind_goes gone (bind_to_go old.binds gone)) report.end t
  bot_goes Compact report new was t = call_goes (did old.link compacts) (did_row h all sent place old.link among compacts) report new t
  bot_goes Restart report new was t =
      subst (λ (r : Report). BotGoes r new) (sym t.report)
      (restart_goes h all sent place old.link among t.answer new.link (did_row h all sent place old.link among restarts) t.met)
