-- What a step of one bot leaves of its end: the hub's places for replies, and the numbers of a leaf's requests.
use Rattle.std.proofs.Common.{◌≡◌, inl, inr, List, [], ◌∷◌, ℕ, Bool, true, false, Option, None, Some, Result, Ok, Err, refl, ap, ◌∙◌}
use Rattle.bytetext.specs.declared.failure.Failure.{Failure}
use Rattle.bytetext.specs.declared.failure.Failure.TheVariants.{Refused as refused_by, NoMemory as no_memory}
use Rattle.userfile.specs.declared.change.Change.{Change}
use Rattle.bottimers.specs.declared.fault.ClockFault.{ClockFault}
use Rattle.bottimers.specs.declared.timer.TimerKind.TheVariants.{Minutes, Seconds}
use Rattle.bottimers.specs.Held.{add_fault, holds_named}
use Rattle.bottimers.specs.Seconds.{reading_fault}
use Rattle.ircline.specs.declared.line.Line.TheVariants.{Message as a_message, Bad as a_bad_line}
use Rattle.sharewire.specs.declared.packet.Packet.{Packet}
use Rattle.procs.specs.declared.action.Action.{Action}
use Rattle.procs.specs.declared.action.Action.TheVariants.{Ask as ask_wished, Timer as timer_wished, Utimer, KillTimer, SendBot, Put}
use Rattle.procs.specs.declared.action.TimerName.{TimerName}
use Rattle.procs.specs.declared.bind.Bind.{Bind as HeldBind}
use Rattle.procs.specs.declared.bind_fault.BindFault.{BindFault}
use Rattle.procs.specs.declared.made_call.MadeCall.{MadeCall}
use Rattle.procs.specs.Promises.{Promised}
use Rattle.procs.specs.Tables.{Asked, refusal}
use Rattle.procs.specs.Tellings.{Telling as Told}
use Rattle.protocol.specs.Packets.{from_wire}
use Rattle.protocol.specs.Bots.{How, Works, Fails, Counts, Row}
use Rattle.protocol.specs.Network.Event.{Ask as asks, Pump as pumps, Compact as compacts, Restart as restarts}
use Rattle.protocol.specs.Ends.{End as LinkEnd}
use Rattle.sharelink.specs.declared.answer.Answer.{Answer}
use Rattle.sharelink.specs.declared.error.LinkFault.{LinkFault}
use Rattle.sharelink.specs.Meets.{how_of}
use Rattle.sharelink.specs.BotLinks.{BotEnd, did, took, asked, Calls, CallsRestart, Asks}
use Rattle.botcore.specs.declared.event.BotEvent.{BotEvent}
use Rattle.botcore.specs.declared.event.BotEvent.TheVariants.{Connect, Line, Ask, Pump, Receive, Clock, Bind, Unbind, Compact, Restart}
use Rattle.botcore.specs.declared.event.OldBind.{OldBind}
use Rattle.botcore.specs.declared.report.End.{End}
use Rattle.botcore.specs.declared.report.End.TheVariants.{Done, Refused, NoMemory}
use Rattle.botcore.specs.declared.report.Note.{Note}
use Rattle.botcore.specs.declared.report.Report.{Report}
use Rattle.botcore.specs.Acting.{Acting, acted, acted_all, actions_of, asked_if, timer_of, made_unless, killed_if, sent_if, put_unless}
use Rattle.botcore.specs.Bots.{Bot, with_device}
use Rattle.botcore.specs.Happenings.{Saying, saying_of}
use Rattle.botcore.specs.Lines.{acting_of, acting_after, Finish, finish_text, finish_line, finish_reading}
use Rattle.botcore.specs.Steps.{Due, bind_due, unbind_due, bind_to_go, asked_of, connect_due, Gives, TakesCalls, TakesPacket, text_note}
use Rattle.botcore.specs.Steps.{is_stale, run_to, TakesMoment, TakesReading, TakesStep}
use Rattle.processes.proofs.Keeping.{EndKeeps, same_keeps, EndKeeps-trans, did_keeps, received_keeps}

-- ---- calls of the link

module _ (old : BotEnd) where
  -- what a row leaves
  row_keeps : (row : Row LinkEnd) → EndKeeps old.end row.after → (new : BotEnd) → new.end ≡ row.after → EndKeeps old.end new.end
  row_keeps row keeps new is = EndKeeps-trans old.end row.after new.end keeps (same_keeps row.after new.end is)

  calls_keep : (row : How → Row LinkEnd) → ((how : How) → EndKeeps old.end (row how).after)
      → (result : Result Answer (Failure LinkFault)) (new : BotEnd) → Calls old row result new → EndKeeps old.end new.end
  calls_keep row keeps (Ok answer) new c = row_keeps (row Works) (keeps Works) new c.row.after
  calls_keep row keeps (Err (refused_by fault)) new c = row_keeps (row (how_of fault)) (keeps (how_of fault)) new c.row.0.after
  calls_keep row keeps (Err no_memory) new c = same_keeps old.end new.end c.row.1

  ask_keeps : (change : Change) (result : Result Answer (Failure LinkFault)) (new : BotEnd) → Asks old change result new
      → EndKeeps old.end new.end
  ask_keeps change (Ok answer) new met =
      row_keeps (asked old change) (did_keeps old.leaves old.number Works old.end (asks change)) new met.0.after
  ask_keeps change (Err (refused_by fault)) new met = same_keeps old.end new.end (ap (λ (l : BotEnd). l.end) met.1)
  ask_keeps change (Err no_memory) new met = same_keeps old.end new.end (ap (λ (l : BotEnd). l.end) met.1)

  did_each : (event : _) (how : How) → EndKeeps old.end (did old event how).after
  did_each event how = did_keeps old.leaves old.number how old.end event

  restart_keeps : (result : Result Answer (Failure LinkFault)) (new : BotEnd) → CallsRestart old result new → EndKeeps old.end new.end
  restart_keeps (Ok answer) new c = elim c.row [
    | inl a ↦ row_keeps (did old restarts Works) (did_each restarts Works) new a.after
    | inr a ↦ row_keeps (did old restarts Counts) (did_each restarts Counts) new a.after
  ]
  restart_keeps (Err (refused_by fault)) new c = row_keeps (did old restarts Fails) (did_each restarts Fails) new c.row.0.after
  restart_keeps (Err no_memory) new c = row_keeps (did old restarts Fails) (did_each restarts Fails) new c.row

-- ---- actions

module _ (old : Acting) where
  asked_keeps : (said : _) (after : LinkEnd) → EndKeeps old.link.end after → EndKeeps old.link.end (asked_if said old after).after.link.end
  asked_keeps (Ok note) after keeps = keeps
  asked_keeps (Err why) after keeps = same_keeps old.link.end old.link.end refl

  made_keeps : (fault : _) (timer : _) → EndKeeps old.link.end (made_unless fault old timer).after.link.end
  made_keeps None timer = same_keeps old.link.end old.link.end refl
  made_keeps (Some fault) timer = same_keeps old.link.end old.link.end refl

  killed_keeps : (held : Bool) (name : TimerName) → EndKeeps old.link.end (killed_if held old name).after.link.end
  killed_keeps true name = same_keeps old.link.end old.link.end refl
  killed_keeps false name = same_keeps old.link.end old.link.end refl

  sent_keeps : (packets : _) → EndKeeps old.link.end (sent_if packets old).after.link.end
  sent_keeps (Ok packets) = same_keeps old.link.end old.link.end refl
  sent_keeps (Err fault) = same_keeps old.link.end old.link.end refl

  put_keeps : (fault : _) (wish : _) → EndKeeps old.link.end (put_unless fault old wish).after.link.end
  put_keeps None wish = same_keeps old.link.end old.link.end refl
  put_keeps (Some fault) wish = same_keeps old.link.end old.link.end refl

  acted_keeps : (action : Action) → EndKeeps old.link.end (acted old action).after.link.end
  acted_keeps (ask_wished change) =
      asked_keeps (asked old.link change).told (asked old.link change).after (did_each old.link (asks change) Works)
  acted_keeps (timer_wished wish) = made_keeps (add_fault old.timers wish.interval old.last) (timer_of old Minutes wish)
  acted_keeps (Utimer wish) = made_keeps (add_fault old.timers wish.interval old.last) (timer_of old Seconds wish)
  acted_keeps (KillTimer name) = killed_keeps (holds_named old.timers name.proc name.text) name
  acted_keeps (SendBot wish) = sent_keeps _
  acted_keeps (Put wish) = put_keeps _ wish

all_acted_keep : (old : Acting) (actions : List Action) → EndKeeps old.link.end (acted_all old actions).link.end
all_acted_keep old [] = same_keeps old.link.end old.link.end refl
all_acted_keep old (a ∷ actions) =
    EndKeeps-trans old.link.end (acted old a).after.link.end (acted_all (acted old a).after actions).link.end (acted_keeps old a)
    (all_acted_keep (acted old a).after actions)

-- ---- steps

module _ (promised : Promised) (names : List (List ℕ)) where
  abbrev BotKeeps : Bot → Bot → Type 0
  BotKeeps old new = EndKeeps old.link.end new.link.end

  same_bot : (old new : Bot) → new.link.end ≡ old.link.end → BotKeeps old new
  same_bot old new same = same_keeps old.link.end new.link.end same

  calls_of_step : (end : End) (told : List Told) (old start : Bot) (came : Option Note) (finish : List MadeCall → Finish) (report : Report)
      (new : Bot) → start.link.end ≡ old.link.end → ((calls : List MadeCall) → (finish calls).after.link ≡ (acting_after start calls).link)
      → TakesCalls end promised told old start came finish report new → BotKeeps old new
  calls_of_step Done told old start came finish report new begins finishes t =
      let acting = acting_after start report.calls in
      let same : new.link.end ≡ acting.link.end =
      ap (λ (b : Bot). b.link.end) t.after ∙ ap (λ (l : BotEnd). l.end) (finishes report.calls) in
      EndKeeps-trans old.link.end start.link.end new.link.end (same_keeps old.link.end start.link.end begins)
      (EndKeeps-trans start.link.end acting.link.end new.link.end (all_acted_keep (acting_of start) (actions_of report.calls))
      (same_keeps acting.link.end new.link.end same))
  calls_of_step (Refused why) told old start came finish report new begins finishes t = absurd t
  calls_of_step NoMemory told old start came finish report new begins finishes t =
      same_bot old new (ap (λ (b : Bot). b.link.end) t.after)

  gives_keep : (end : End) (Grows : Type 0) (old : Bot) (due : Due) (report : Report) (new : Bot) → due.after.link.end ≡ old.link.end
      → Gives end Grows old due report new → BotKeeps old new
  gives_keep Done Grows old due report new same g = same_bot old new (ap (λ (b : Bot). b.link.end) g.1 ∙ same)
  gives_keep (Refused why) Grows old due report new same g = same_bot old new (ap (λ (b : Bot). b.link.end) g.1 ∙ same)
  gives_keep NoMemory Grows old due report new same g = same_bot old new (ap (λ (b : Bot). b.link.end) g.2)

  bind_same : (old : Bot) (made : Asked) (fault : Option BindFault) → (bind_due old made fault).after.link.end ≡ old.link.end
  bind_same old made None = refl
  bind_same old made (Some fault) = refl

  unbind_same : (old : Bot) (gone : OldBind) (bind : Option HeldBind) → (unbind_due old gone bind).after.link.end ≡ old.link.end
  unbind_same old gone None = refl
  unbind_same old gone (Some bind) = refl

  packet_keeps : (saying : Option Saying) (old : Bot) (packet : Packet) (report : Report) (new : Bot)
      → TakesPacket saying promised names old packet report new → BotKeeps old new
  packet_keeps None old packet report new t =
      calls_keep old.link (took old.link packet)
      (λ how. received_keeps old.link.leaves old.link.number how old.link.end (from_wire packet)) t.answer new.link t.met
  packet_keeps (Some saying) old packet report new (device, moments, t) =
      let there = with_device old device in
      calls_of_step report.end _ there there (Some (text_note saying)) (finish_text there) report new refl (λ calls. refl) t

  moment_keeps : (stale : Bool) (old : Bot) (now : ℕ) (report : Report) (new : Bot) → TakesMoment stale promised names old now report new
      → BotKeeps old new
  moment_keeps true old now report new t = same_bot old new (ap (λ (b : Bot). b.link.end) t.1)
  moment_keeps false old now report new t =
      calls_of_step report.end _ old (run_to old now) None (finish_reading (run_to old now) now) report new refl (λ calls. refl) t.2

  reading_keeps : (fault : Option ClockFault) (old : Bot) (now : ℕ) (report : Report) (new : Bot)
      → TakesReading fault promised names old now report new → BotKeeps old new
  reading_keeps (Some fault) old now report new t = same_bot old new (ap (λ (b : Bot). b.link.end) t.1)
  reading_keeps None old now report new t = moment_keeps (is_stale old.config.sends_at_once old.clock now) old now report new t

  pub step_keeps : (event : BotEvent) (old : Bot) (report : Report) (new : Bot) → TakesStep promised names old event report new
      → EndKeeps old.link.end new.link.end
  step_keeps Connect old report new t = gives_keep report.end _ old (connect_due old) report new refl t
  step_keeps (Line (a_message message)) old report new t =
      calls_of_step report.end _ old old None (finish_line old message) report new refl (λ calls. refl) t
  step_keeps (Line (a_bad_line fault)) old report new t = same_bot old new (ap (λ (b : Bot). b.link.end) t.1)
  step_keeps (Ask change) old report new t = ask_keeps old.link change t.answer new.link t.met
  step_keeps Pump old report new t = calls_keep old.link (did old.link pumps) (did_each old.link pumps) t.answer new.link t.met
  step_keeps (Receive packet) old report new t =
      packet_keeps (saying_of (took old.link packet Works).told) old packet report new t
  step_keeps (Clock now) old report new t = reading_keeps (reading_fault now) old now report new t
  step_keeps (Bind made) old report new t =
      gives_keep report.end _ old _ report new (bind_same old (asked_of made) (refusal old.binds (asked_of made))) t
  step_keeps (Unbind gone) old report new t =
      gives_keep report.end _ old _ report new (unbind_same old gone (bind_to_go old.binds gone)) t
  step_keeps Compact old report new t = calls_keep old.link (did old.link compacts) (did_each old.link compacts) t.answer new.link t.met
  step_keeps Restart old report new t = restart_keeps old.link t.answer new.link t.met
