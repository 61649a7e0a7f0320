-- What a crash at any moment of a step leaves is what a process may leave that dies then.
use Rattle.std.proofs.Common.{◌≡◌, ◌⊎◌, inl, inr, ℕ, Bool, true, false, List, [], ◌∷◌, Option, None, Some, Result, Ok, Err, refl, ap, sym, subst, ◌∙◌}
use Rattle.bytetext.specs.declared.failure.Failure.{Failure}
use Rattle.bytetext.specs.declared.failure.Failure.TheVariants.{Refused as refused_by, NoMemory as no_memory}
use Rattle.userfile.specs.declared.change.Change.{Change}
use Rattle.bottimers.specs.declared.fault.ClockFault.{ClockFault}
use Rattle.bottimers.specs.declared.timer.TimerKind.TheVariants.{Minutes, Seconds}
use Rattle.bottimers.specs.Held.{add_fault, holds_named}
use Rattle.bottimers.specs.Seconds.{reading_fault}
use Rattle.ircline.specs.declared.line.Line.TheVariants.{Message as a_message, Bad as a_bad_line}
use Rattle.sharewire.specs.declared.packet.Packet.{Packet}
use Rattle.disks.specs.State.{moment, left_since}
use Rattle.disks.specs.Laws.{only_now}
use Rattle.procs.specs.declared.action.Action.{Action}
use Rattle.procs.specs.Promises.{Promised}
use Rattle.procs.specs.declared.action.Action.TheVariants.{Ask as ask_wished, Timer as timer_wished, Utimer, KillTimer, SendBot, Put}
use Rattle.procs.specs.declared.action.TimerName.{TimerName}
use Rattle.procs.specs.declared.bind.Bind.{Bind as HeldBind}
use Rattle.procs.specs.declared.bind_fault.BindFault.{BindFault}
use Rattle.procs.specs.Tables.{Asked, refusal}
use Rattle.botjournal.specs.Ledger.{Device}
use Rattle.protocol.specs.Bots.{Works, Fails}
use Rattle.protocol.specs.Ends.{End as LinkEnd}
use Rattle.sharelink.specs.declared.answer.Answer.{Answer}
use Rattle.sharelink.specs.declared.error.LinkFault.{LinkFault}
use Rattle.sharelink.specs.BotLinks.{BotEnd, took, asked, MayLeave, LeavesOwn, Asks}
use Rattle.procs.specs.declared.made_call.MadeCall.{MadeCall}
use Rattle.procs.specs.Tellings.{Telling as Told}
use Rattle.botcore.specs.declared.event.BotEvent.{BotEvent}
use Rattle.botcore.specs.declared.event.BotEvent.TheVariants.{Connect, Line, Ask, Pump, Receive, Clock, Bind, Unbind, Compact, Restart}
use Rattle.botcore.specs.declared.event.OldBind.{OldBind}
use Rattle.botcore.specs.declared.report.End.{End}
use Rattle.botcore.specs.declared.report.End.TheVariants.{Done, Refused, NoMemory}
use Rattle.botcore.specs.declared.report.Note.{Note}
use Rattle.botcore.specs.declared.report.Report.{Report}
use Rattle.botcore.specs.Acting.{Acting, acted, acted_all, actions_of, asked_if, timer_of, made_unless, killed_if, sent_if, put_unless}
use Rattle.botcore.specs.Bots.{Bot, with_device}
use Rattle.botcore.specs.Happenings.{Saying, saying_of}
use Rattle.botcore.specs.Lines.{acting_of, acting_after, Finish, finish_text, finish_line, finish_reading}
use Rattle.botcore.specs.Steps.{Due, bind_due, unbind_due, bind_to_go, asked_of, connect_due, Gives, TakesCalls, TakesPacket, text_note}
use Rattle.botcore.specs.Steps.{is_stale, run_to, TakesMoment, TakesReading, TakesStep}
use Rattle.watching.specs.Openings.{CrashesIn}
use Rattle.processes.specs.Deeds.{Nothing, Telling, LeavesIn, failing, with_end}

-- ---- actions, which call no disk

module _ (old : Acting) where
  asked_device : (said : _) (after : LinkEnd) → (asked_if said old after).after.link.device ≡ old.link.device
  asked_device (Ok note) after = refl
  asked_device (Err why) after = refl

  made_device : (fault : _) (timer : _) → (made_unless fault old timer).after.link.device ≡ old.link.device
  made_device None timer = refl
  made_device (Some fault) timer = refl

  killed_device : (held : Bool) (name : TimerName) → (killed_if held old name).after.link.device ≡ old.link.device
  killed_device true name = refl
  killed_device false name = refl

  sent_device : (packets : _) → (sent_if packets old).after.link.device ≡ old.link.device
  sent_device (Ok packets) = refl
  sent_device (Err fault) = refl

  put_device : (fault : _) (wish : _) → (put_unless fault old wish).after.link.device ≡ old.link.device
  put_device None wish = refl
  put_device (Some fault) wish = refl

  acted_device : (action : Action) → (acted old action).after.link.device ≡ old.link.device
  acted_device (ask_wished change) = asked_device (asked old.link change).told (asked old.link change).after
  acted_device (timer_wished wish) = made_device (add_fault old.timers wish.interval old.last) (timer_of old Minutes wish)
  acted_device (Utimer wish) = made_device (add_fault old.timers wish.interval old.last) (timer_of old Seconds wish)
  acted_device (KillTimer name) = killed_device (holds_named old.timers name.proc name.text) name
  acted_device (SendBot wish) = sent_device _
  acted_device (Put wish) = put_device _ wish

all_acted_device : (old : Acting) (actions : List Action) → (acted_all old actions).link.device ≡ old.link.device
all_acted_device old [] = refl
all_acted_device old (a ∷ actions) = all_acted_device (acted old a).after actions ∙ acted_device old a

-- ---- steps

-- a step called no disk, or a crash at any moment of it leaves what the end of the link leaves that holds this
abbrev IsLeft : BotEnd → LinkEnd → Device → Type 0
IsLeft old end now = (now ≡ old.device) ⊎ LeavesOwn (with_end old end) old.device now

module _ (promised : Promised) (names : List (List ℕ)) where
  calls_device : (end : End) (told : List Told) (old start : Bot) (came : Option Note) (finish : List MadeCall → Finish) (report : Report) (new : Bot)
      → start.link.device ≡ old.link.device → ((calls : List MadeCall) → (finish calls).after.link ≡ (acting_after start calls).link)
      → TakesCalls end promised told old start came finish report new → new.link.device ≡ old.link.device
  calls_device Done told old start came finish report new begins finishes t =
      ap (λ (b : Bot). b.link.device) t.after ∙ ap (λ (l : BotEnd). l.device) (finishes report.calls)
      ∙ all_acted_device (acting_of start) (actions_of report.calls) ∙ begins
  calls_device (Refused why) told old start came finish report new begins finishes t = absurd t
  calls_device NoMemory told old start came finish report new begins finishes t = ap (λ (b : Bot). b.link.device) t.after

  gives_device : (end : End) (Grows : Type 0) (old : Bot) (due : Due) (report : Report) (new : Bot) → due.after.link.device ≡ old.link.device
      → Gives end Grows old due report new → new.link.device ≡ old.link.device
  gives_device Done Grows old due report new same g = ap (λ (b : Bot). b.link.device) g.1 ∙ same
  gives_device (Refused why) Grows old due report new same g = ap (λ (b : Bot). b.link.device) g.1 ∙ same
  gives_device NoMemory Grows old due report new same g = ap (λ (b : Bot). b.link.device) g.2

  bind_device : (old : Bot) (made : Asked) (fault : Option BindFault) → (bind_due old made fault).after.link.device ≡ old.link.device
  bind_device old made None = refl
  bind_device old made (Some fault) = refl

  unbind_device : (old : Bot) (gone : OldBind) (bind : Option HeldBind) → (unbind_due old gone bind).after.link.device ≡ old.link.device
  unbind_device old gone None = refl
  unbind_device old gone (Some bind) = refl

  ask_device : (old new : BotEnd) (change : Change) (result : Result Answer (Failure LinkFault)) → Asks old change result new
      → new.device ≡ old.device
  ask_device old new change (Ok answer) met = ap (λ (l : BotEnd). l.device) met.1
  ask_device old new change (Err (refused_by fault)) met = ap (λ (l : BotEnd). l.device) met.1
  ask_device old new change (Err no_memory) met = ap (λ (l : BotEnd). l.device) met.1

  packet_left : (saying : Option Saying) (old : Bot) (packet : Packet) (report : Report) (new : Bot)
      → TakesPacket saying promised names old packet report new → IsLeft old.link (took old.link packet Fails).after new.link.device
  packet_left None old packet report new t = t.met.moments
  packet_left (Some saying) old packet report new (device, moments, t) =
      let there = with_device old device in
      subst (IsLeft old.link (took old.link packet Fails).after)
      (sym (calls_device report.end _ there there (Some (text_note saying)) (finish_text there) report new refl (λ calls. refl) t)) moments

  moment_device : (stale : Bool) (old : Bot) (now : ℕ) (report : Report) (new : Bot) → TakesMoment stale promised names old now report new
      → new.link.device ≡ old.link.device
  moment_device true old now report new t = ap (λ (b : Bot). b.link.device) t.1
  moment_device false old now report new t =
      calls_device report.end _ old (run_to old now) None (finish_reading (run_to old now) now) report new refl (λ calls. refl) t.2

  reading_device : (fault : Option ClockFault) (old : Bot) (now : ℕ) (report : Report) (new : Bot)
      → TakesReading fault promised names old now report new → new.link.device ≡ old.link.device
  reading_device (Some fault) old now report new t = ap (λ (b : Bot). b.link.device) t.1
  reading_device None old now report new t = moment_device (is_stale old.config.sends_at_once old.clock now) old now report new t

  step_left : (event : BotEvent) (old : Bot) (report : Report) (new : Bot) → TakesStep promised names old event report new
      → IsLeft old.link (failing old.link (Telling event)) new.link.device
  step_left Connect old report new t = inl (gives_device report.end _ old (connect_due old) report new refl t)
  step_left (Line (a_message message)) old report new t =
      inl (calls_device report.end _ old old None (finish_line old message) report new refl (λ calls. refl) t)
  step_left (Line (a_bad_line fault)) old report new t = inl (ap (λ (b : Bot). b.link.device) t.1)
  step_left (Ask change) old report new t = inl (ask_device old.link new.link change t.answer t.met)
  step_left Pump old report new t = t.met.moments
  step_left (Receive packet) old report new t = packet_left (saying_of (took old.link packet Works).told) old packet report new t
  step_left (Clock now) old report new t = inl (reading_device (reading_fault now) old now report new t)
  step_left (Bind made) old report new t =
      inl (gives_device report.end _ old _ report new (bind_device old (asked_of made) (refusal old.binds (asked_of made))) t)
  step_left (Unbind gone) old report new t =
      inl (gives_device report.end _ old _ report new (unbind_device old gone (bind_to_go old.binds gone)) t)
  step_left Compact old report new t = t.met.moments
  step_left Restart old report new t = inr t.met.moments

  -- what a crash leaves at a moment of the step
  pub step_dies : (event : BotEvent) (was : Bot) (report : Report) (after : Bot) (x y : List ℕ)
      → MayLeave was.link.device.first was.link.device.second was.link → TakesStep promised names was event report after
      → CrashesIn was.link after.link x y → LeavesIn Nothing was.link x y ⊎ LeavesIn (Telling event) was.link x y
  step_dies event was report after x y leaves takes crash = by (step_left event was report after takes)
    where
      by : IsLeft was.link (failing was.link (Telling event)) after.link.device
          → LeavesIn Nothing was.link x y ⊎ LeavesIn (Telling event) was.link x y
      by (inl same) = inl (leaves x y
          (only_now was.link.device.first x
          (subst (λ (d : Device). left_since d.first (moment was.link.device.first) x) same crash.first_left))
          (only_now was.link.device.second y
          (subst (λ (d : Device). left_since d.second (moment was.link.device.second) y) same crash.second_left))).mean
      by (inr moments) = inr (moments.each x y crash.first_left crash.second_left).mean
