-- What waits in a bot that sends at once: no line of the mode queue twice, and no more for a target than its share.
use Rattle.std.proofs.Common.{◌≡◌, ◌∙◌, ℕ, List, [], ◌∷◌, Bool, true, false, Option, Some, None, Result, Ok, Err, codes, refl, ap, sym, subst, arith}
use Rattle.bottimers.specs.declared.fault.ClockFault.{ClockFault}
use Rattle.bottimers.specs.declared.timer.TimerKind.TheVariants.{Minutes, Seconds}
use Rattle.bottimers.specs.Held.{add_fault, holds_named}
use Rattle.bottimers.specs.Seconds.{reading_fault}
use Rattle.ircline.specs.declared.line.Line.TheVariants.{Message as a_message, Bad as a_bad_line}
use Rattle.ircline.specs.declared.message.Message.{Message}
use Rattle.outqueue.specs.declared.fault.QueueFault.{QueueFault}
use Rattle.outqueue.specs.declared.queue.Queue.TheVariants.{Mode}
use Rattle.outqueue.specs.Once.{once_refusal}
use Rattle.outqueue.specs.Refusals.{refusal, put_last}
use Rattle.outqueue.specs.Sending.{Sending, idle}
use Rattle.outqueue.specs.Shares.{StandOnce, IsFair}
use Rattle.outqueue.proofs.JoiningLaws.{moment_once, moment_fair}
use Rattle.outqueue.proofs.ShareLemmas.{StandOnce-put, StandOnce-after, IsFair-put, IsFair-after}
use Rattle.sharewire.specs.declared.packet.Packet.{Packet}
use Rattle.procs.specs.declared.action.Action.{Action}
use Rattle.procs.specs.declared.action.Action.TheVariants.{Ask as ask_wished, Timer as timer_wished, Utimer, KillTimer, SendBot, Put}
use Rattle.procs.specs.declared.action.PutWish.{PutWish}
use Rattle.procs.specs.declared.action.TimerName.{TimerName}
use Rattle.procs.specs.declared.bind.Bind.{Bind as HeldBind}
use Rattle.procs.specs.declared.bind_fault.BindFault.{BindFault}
use Rattle.procs.specs.declared.made_call.MadeCall.{MadeCall}
use Rattle.procs.specs.Promises.{Promised}
use Rattle.procs.specs.Tables.{Asked, refusal as bind_fault}
use Rattle.procs.specs.Tellings.{Telling}
use Rattle.bytetext.specs.declared.failure.Failure.{Failure}
use Rattle.protocol.specs.Bots.{Works}
use Rattle.protocol.specs.Ends.{End as LinkEnd}
use Rattle.sharelink.specs.declared.answer.Answer.{Answer}
use Rattle.sharelink.specs.declared.error.LinkFault.{LinkFault}
use Rattle.sharelink.specs.BotLinks.{BotEnd, took, asked}
use Rattle.botcore.specs.declared.config.Config.{Config}
use Rattle.botcore.specs.declared.event.BotEvent.{BotEvent}
use Rattle.botcore.specs.declared.event.BotEvent.TheVariants.{Connect, Line, Ask, Pump, Receive, Clock, Bind, Unbind, Compact, Restart}
use Rattle.botcore.specs.declared.event.OldBind.{OldBind}
use Rattle.botcore.specs.declared.manner.Manner.{Manner}
use Rattle.botcore.specs.declared.manner.Manner.TheVariants.{InTurn, Once, Prompt}
use Rattle.botcore.specs.declared.report.End.{End}
use Rattle.botcore.specs.declared.report.End.TheVariants.{Done, Refused, NoMemory}
use Rattle.botcore.specs.declared.report.Note.{Note}
use Rattle.botcore.specs.declared.report.Report.{Report}
use Rattle.botcore.specs.declared.watched_command.WatchedCommand.{WatchedCommand}
use Rattle.botcore.specs.declared.watched_command.WatchedCommand.TheVariants as cue
use Rattle.botcore.specs.Acting.{Acting, acted, acted_all, actions_of, asked_if, timer_of, made_unless, killed_if, sent_if, put_fault, put_unless}
use Rattle.botcore.specs.Automatic.{cue_of, greeting, manner_by, user_name, wish}
use Rattle.botcore.specs.Bots.{Bot, begun, with_device}
use Rattle.botcore.specs.Happenings.{Saying, saying_of}
use Rattle.botcore.specs.Leaving.{most_of, staying}
use Rattle.botcore.specs.Lines.{acting_of, acting_after, own_lines, Finish, finish_text, finish_line, finish_reading}
use Rattle.botcore.specs.Putting.{placed, put_all, queued, queued_unless, refusal_in, usual}
use Rattle.botcore.specs.Sharing.{SharesLines}
use Rattle.botcore.specs.Steps.{Due, bind_due, unbind_due, bind_to_go, asked_of, connect_due, after_restart, Gives, TakesCalls, TakesPacket, text_note}
use Rattle.botcore.specs.Steps.{is_stale, run_to, TakesMoment, TakesReading, TakesStep}

-- puts -------------------------------------------------------------------------------------------------------------------

record Shared (q : Sending) : Type 0 where
  once : StandOnce q.mode
  fair : IsFair q

once_shared : (q : Sending) (wish : PutWish) (fault : Option QueueFault) → once_refusal q wish.queue wish.line ≡ fault → Shared q
    → Shared (queued_unless fault Once q wish)
once_shared q wish (Some fault) is s = s
once_shared q wish None is s = record {
  once = StandOnce-put q wish.queue wish.line s.once;
  fair = IsFair-put q wish.queue wish.line is s.fair;
}

prompt_shared : (q : Sending) (wish : PutWish) (fault : Option QueueFault) → Shared q → Shared (queued_unless fault Prompt q wish)
prompt_shared q wish (Some fault) s = s
prompt_shared q wish None s = record { once = s.once; fair = s.fair }

-- a line that is put so leaves fair queues fair
abbrev KeepsShares : Manner → Type 0
KeepsShares manner = (q : Sending) (wish : PutWish) → Shared q → Shared (queued manner q wish)

once_keeps : KeepsShares Once
once_keeps q wish s = once_shared q wish (once_refusal q wish.queue wish.line) refl s

prompt_keeps : KeepsShares Prompt
prompt_keeps q wish s = prompt_shared q wish (refusal_in Prompt q wish) s

manner_keeps : (w : WatchedCommand) → KeepsShares (manner_by w true)
manner_keeps cue.Ping = prompt_keeps
manner_keeps cue.Join = once_keeps
manner_keeps cue.Mode = once_keeps
manner_keeps cue.RplWelcome = once_keeps
manner_keeps cue.ErrNicknameInUse = once_keeps
manner_keeps cue.Other = once_keeps

all_shared : (manner : Manner) → KeepsShares manner → (q : Sending) (wishes : List PutWish) → Shared q → Shared (put_all manner q wishes)
all_shared manner keeps q [] s = s
all_shared manner keeps q (wish ∷ wishes) s = all_shared manner keeps (queued manner q wish) wishes (keeps q wish s)

-- the greeting: NICK and USER
module _ (config : Config) where
  abbrev nick_wish : PutWish
  nick_wish = wish Mode (codes "NICK " ∷ config.nick ∷ [])

  abbrev user_wish : PutWish
  user_wish = wish Mode (codes "USER " ∷ user_name config ∷ codes " 0 * :" ∷ config.nick ∷ [])

  user_alone : (o : Option QueueFault) → Shared (queued_unless o InTurn idle user_wish)
  user_alone (Some fault) = record { once = tt; fair = λ target. omega arith }
  user_alone None = record { once = (refl, tt); fair = λ target. omega arith }

  user_after : (o : Option QueueFault) → Shared (queued_unless o InTurn (put_last idle Mode nick_wish.line) user_wish)
  user_after (Some fault) = record { once = (refl, tt); fair = λ target. omega arith }
  user_after None = record { once = (refl, (refl, tt)); fair = λ target. omega arith }

  nick_first : (o : Option QueueFault) → Shared (put_all InTurn (queued_unless o InTurn idle nick_wish) (user_wish ∷ []))
  nick_first (Some fault) = user_alone (refusal idle Mode user_wish.line)
  nick_first None = user_after (refusal (put_last idle Mode nick_wish.line) Mode user_wish.line)

  greeting_shared : Shared (put_all InTurn idle (greeting config))
  greeting_shared = nick_first (refusal idle Mode nick_wish.line)

-- actions ----------------------------------------------------------------------------------------------------------------

record SharesActing (a : Acting) : Type 0 where
  manner : a.manner ≡ Once
  shared : Shared a.queues

module _ (old : Acting) (s : SharesActing old) where
  asked_shares : (said : _) (after : LinkEnd) → SharesActing (asked_if said old after).after
  asked_shares (Ok note) after = record { manner = s.manner; shared = s.shared }
  asked_shares (Err why) after = s

  made_shares : (fault : _) (timer : _) → SharesActing (made_unless fault old timer).after
  made_shares None timer = record { manner = s.manner; shared = s.shared }
  made_shares (Some fault) timer = s

  killed_shares : (held : Bool) (name : TimerName) → SharesActing (killed_if held old name).after
  killed_shares true name = record { manner = s.manner; shared = s.shared }
  killed_shares false name = s

  sent_shares : (packets : _) → SharesActing (sent_if packets old).after
  sent_shares (Ok packets) = record { manner = s.manner; shared = s.shared }
  sent_shares (Err fault) = s

  put_shares : (fault : Option QueueFault) (wish : PutWish) → put_fault old wish ≡ fault → SharesActing (put_unless fault old wish).after
  put_shares (Some fault) wish is = s
  put_shares None wish is =
      let free : once_refusal old.queues wish.queue wish.line ≡ None =
      sym (ap (λ (m : Manner). refusal_in m old.queues wish) s.manner) ∙ is in
      record {
        manner = s.manner;
        shared = subst (λ (m : Manner). Shared (placed m old.queues wish)) (sym s.manner) (once_shared old.queues wish None free s.shared);
      }

  acted_shares : (action : Action) → SharesActing (acted old action).after
  acted_shares (ask_wished change) = asked_shares (asked old.link change).told (asked old.link change).after
  acted_shares (timer_wished wish) = made_shares (add_fault old.timers wish.interval old.last) (timer_of old Minutes wish)
  acted_shares (Utimer wish) = made_shares (add_fault old.timers wish.interval old.last) (timer_of old Seconds wish)
  acted_shares (KillTimer name) = killed_shares (holds_named old.timers name.proc name.text) name
  acted_shares (SendBot wish) = sent_shares _
  acted_shares (Put wish) = put_shares (put_fault old wish) wish refl

all_acted_share : (old : Acting) (actions : List Action) → SharesActing old → SharesActing (acted_all old actions)
all_acted_share old [] s = s
all_acted_share old (a ∷ actions) s = all_acted_share (acted old a).after actions (acted_shares old s a)

-- lines that leave ------------------------------------------------------------------------------------------------------

staying_once : (most : Option ℕ) (queues : Sending) (now : ℕ) → StandOnce queues.mode → StandOnce (staying most queues now).mode
staying_once None queues now once = StandOnce-after queues now once
staying_once (Some most) queues now once = moment_once most queues now once

staying_fair : (most : Option ℕ) (queues : Sending) (now : ℕ) → IsFair queues → IsFair (staying most queues now)
staying_fair None queues now fair = IsFair-after queues now fair
staying_fair (Some most) queues now fair = moment_fair most queues now fair

-- events -----------------------------------------------------------------------------------------------------------------

module _ (old : Bot) (s : SharesLines old) (calls : List MadeCall) where
  acting_shares : SharesActing (acting_after old calls)
  acting_shares =
      all_acted_share (acting_of old) (actions_of calls)
      (record { manner = ap usual s.at_once; shared = record { once = s.once; fair = s.fair } })

  text_shares : SharesLines (finish_text old calls).after
  text_shares = record { at_once = s.at_once; once = acting_shares.shared.once; fair = acting_shares.shared.fair }

  line_shares : (message : Message) → SharesLines (finish_line old message calls).after
  line_shares message =
      let w = cue_of message.command in
      let keeps : KeepsShares (manner_by w old.config.sends_at_once) =
      subst (λ (b : Bool). KeepsShares (manner_by w b)) (sym s.at_once) (manner_keeps w) in
      let shared = all_shared (manner_by w old.config.sends_at_once) keeps (acting_after old calls).queues
      (own_lines old message calls) acting_shares.shared in
      record { at_once = s.at_once; once = shared.once; fair = shared.fair }

  reading_shares : (now : ℕ) → SharesLines (finish_reading old now calls).after
  reading_shares now = record {
    at_once = s.at_once;
    once = staying_once (most_of old) (acting_after old calls).queues now acting_shares.shared.once;
    fair = staying_fair (most_of old) (acting_after old calls).queues now acting_shares.shared.fair;
  }

-- nothing waits in a bot that begins
pub begun_shares : (config : Config) (link : BotEnd) → config.sends_at_once ≡ true → SharesLines (begun config link)
begun_shares config link on = record { at_once = on; once = tt; fair = λ target. omega arith }

connected_shares : (old : Bot) → SharesLines old → SharesLines (connect_due old).after
connected_shares old s =
    let shared = greeting_shared old.config in
    record { at_once = s.at_once; once = shared.once; fair = shared.fair }

bind_shares : (old : Bot) → SharesLines old → (made : Asked) (fault : Option BindFault) → SharesLines (bind_due old made fault).after
bind_shares old s made None = record { at_once = s.at_once; once = s.once; fair = s.fair }
bind_shares old s made (Some fault) = s

unbind_shares : (old : Bot) → SharesLines old → (gone : OldBind) (bind : Option HeldBind) → SharesLines (unbind_due old gone bind).after
unbind_shares old s gone None = s
unbind_shares old s gone (Some bind) = record { at_once = s.at_once; once = s.once; fair = s.fair }

restart_shares : (old : Bot) → SharesLines old → (answer : Result Answer (Failure LinkFault)) (link : BotEnd)
    → SharesLines (after_restart old answer link)
restart_shares old s (Ok answer) link = record { at_once = s.at_once; once = tt; fair = λ target. omega arith }
restart_shares old s (Err why) link = record { at_once = s.at_once; once = s.once; fair = s.fair }

relinked_shares : (old : Bot) → SharesLines old → (link : BotEnd) → SharesLines (record old { link = link })
relinked_shares old s link = record { at_once = s.at_once; once = s.once; fair = s.fair }

same_shares : (old new : Bot) → SharesLines old → new ≡ old → SharesLines new
same_shares old new s same = subst SharesLines (sym same) s

gives_shares : (end : End) (Grows : Type 0) (old : Bot) (due : Due) (report : Report) (new : Bot) → SharesLines old → SharesLines due.after
    → Gives end Grows old due report new → SharesLines new
gives_shares Done Grows old due report new s done g = same_shares due.after new done g.1
gives_shares (Refused why) Grows old due report new s done g = same_shares due.after new done g.1
gives_shares NoMemory Grows old due report new s done g = same_shares old new s g.2

module _ (promised : Promised) (names : List (List ℕ)) where
  calls_share : (end : End) (told : List Telling) (old start : Bot) (came : Option Note) (finish : List MadeCall → Finish) (report : Report)
      (new : Bot) → SharesLines old → ((calls : List MadeCall) → SharesLines (finish calls).after)
      → TakesCalls end promised told old start came finish report new → SharesLines new
  calls_share Done told old start came finish report new s finishes t = same_shares (finish report.calls).after new (finishes report.calls) t.after
  calls_share (Refused why) told old start came finish report new s finishes t = absurd t
  calls_share NoMemory told old start came finish report new s finishes t = same_shares old new s t.after

  packet_shares : (saying : Option Saying) (old : Bot) (packet : Packet) (report : Report) (new : Bot) → SharesLines old
      → TakesPacket saying promised names old packet report new → SharesLines new
  packet_shares None old packet report new s t = same_shares _ new (relinked_shares old s new.link) t.after
  packet_shares (Some saying) old packet report new s (device, moments, t) =
      let there = with_device old device in
      let fair : SharesLines there = record { at_once = s.at_once; once = s.once; fair = s.fair } in
      calls_share report.end _ there there (Some (text_note saying)) (finish_text there) report new fair (text_shares there fair) t

  moment_shares : (stale : Bool) (old : Bot) (now : ℕ) (report : Report) (new : Bot) → SharesLines old
      → TakesMoment stale promised names old now report new → SharesLines new
  moment_shares true old now report new s t = same_shares old new s t.1
  moment_shares false old now report new s t =
      let start = run_to old now in
      let fair : SharesLines start = record { at_once = s.at_once; once = s.once; fair = s.fair } in
      calls_share report.end _ old start None (finish_reading start now) report new s (λ calls. reading_shares start fair calls now) t.2

  clock_shares : (fault : Option ClockFault) (old : Bot) (now : ℕ) (report : Report) (new : Bot) → SharesLines old
      → TakesReading fault promised names old now report new → SharesLines new
  clock_shares (Some fault) old now report new s t = same_shares old new s t.1
  clock_shares None old now report new s t = moment_shares (is_stale old.config.sends_at_once old.clock now) old now report new s t

  pub step_shares : (event : BotEvent) (old : Bot) (report : Report) (new : Bot) → SharesLines old
      → TakesStep promised names old event report new → SharesLines new
  step_shares Connect old report new s t = gives_shares report.end _ old (connect_due old) report new s (connected_shares old s) t
  step_shares (Line (a_message message)) old report new s t =
      calls_share report.end _ old old None (finish_line old message) report new s (λ calls. line_shares old s calls message) t
  step_shares (Line (a_bad_line fault)) old report new s t = same_shares old new s t.1
  step_shares (Ask change) old report new s t = same_shares _ new (relinked_shares old s new.link) t.after
  step_shares Pump old report new s t = same_shares _ new (relinked_shares old s new.link) t.after
  step_shares (Receive packet) old report new s t = packet_shares (saying_of (took old.link packet Works).told) old packet report new s t
  step_shares (Clock now) old report new s t = clock_shares (reading_fault now) old now report new s t
  step_shares (Bind made) old report new s t =
      gives_shares report.end _ old _ report new s (bind_shares old s (asked_of made) (bind_fault old.binds (asked_of made))) t
  step_shares (Unbind gone) old report new s t =
      gives_shares report.end _ old _ report new s (unbind_shares old s gone (bind_to_go old.binds gone)) t
  step_shares Compact old report new s t = same_shares _ new (relinked_shares old s new.link) t.after
  step_shares Restart old report new s t = same_shares _ new (restart_shares old s t.answer new.link) t.after
