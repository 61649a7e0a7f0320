-- What goes out has records of good shape: what a link answers says so, and actions send nothing but texts.
use Rattle.std.proofs.Common.{◌≡◌, ℕ, nat_lt, Bool, true, false, if◌then◌else◌, List, [], ◌∷◌, ◌++◌, length, map, Option, None, Some, Result, Ok, Err, refl, sym, subst}
use Rattle.bytetext.specs.declared.failure.Failure.{Failure}
use Rattle.bytetext.specs.declared.failure.Failure.TheVariants.{Refused as refused_by, NoMemory as no_memory}
use Rattle.bottimers.specs.declared.fault.ClockFault.{ClockFault}
use Rattle.bottimers.specs.declared.timer.Timer.{Timer}
use Rattle.bottimers.specs.declared.timer.TimerKind.TheVariants.{Minutes, Seconds}
use Rattle.bottimers.specs.Held.{add_fault, holds_named}
use Rattle.bottimers.specs.Seconds.{reading_fault}
use Rattle.procs.specs.declared.action.Action.{Action}
use Rattle.procs.specs.Promises.{Promised}
use Rattle.procs.specs.declared.action.Action.TheVariants.{Ask, Timer as timer_wished, Utimer, KillTimer, SendBot, Put}
use Rattle.procs.specs.declared.action.PutWish.{PutWish}
use Rattle.procs.specs.declared.action.TimerName.{TimerName}
use Rattle.ircline.specs.declared.line.Line.{Line as ReadLine}
use Rattle.ircline.specs.declared.line.Line.TheVariants.{Message as a_message, Bad as a_bad_line}
use Rattle.ircline.specs.declared.message.Message.{Message}
use Rattle.outqueue.specs.declared.fault.QueueFault.{QueueFault}
use Rattle.protocol.specs.Packets.{Outgoing as Sent}
use Rattle.protocol.specs.Packets.Packet.{BotText}
use Rattle.protocol.specs.Notes.{Note as Meaning, LinkFault as Meant}
use Rattle.protocol.specs.Bots.{Works, Row, refused, unless_down}
use Rattle.protocol.specs.HubRules.{Hub, is_bad_text, text_told}
use Rattle.protocol.specs.LeafRules.{Leaf}
use Rattle.protocol.specs.Network.{Tell}
use Rattle.sharelink.specs.declared.answer.Answer.{Answer}
use Rattle.sharelink.specs.declared.answer.Outgoing.{Outgoing}
use Rattle.sharelink.specs.declared.error.LinkFault.{LinkFault}
use Rattle.sharelink.specs.declared.error.LinkFault.TheVariants.{TextsFull}
use Rattle.sharelink.specs.declared.TheConstants.{MAX_TEXTS}
use Rattle.sharelink.specs.Calls.{note_of}
use Rattle.sharelink.specs.Shapes.{AreGood, GoOut}
use Rattle.protocol.specs.Ends.{End as LinkEnd, AtHub, AtLeaf, of_hub, of_leaf, end_did}
use Rattle.sharelink.specs.BotLinks.{asked, told}
use Rattle.procs.specs.declared.made_call.MadeCall.{MadeCall}
use Rattle.procs.specs.Tellings.{Telling}
use Rattle.procs.specs.Dispatching.{told_of}
use Rattle.botcore.specs.declared.event.BotEvent.TheVariants.{Line, Clock}
use Rattle.botcore.specs.declared.report.End.{End}
use Rattle.botcore.specs.declared.report.End.TheVariants.{Done, Refused, NoMemory}
use Rattle.botcore.specs.declared.report.Note.{Note}
use Rattle.botcore.specs.declared.report.Report.{Report}
use Rattle.botcore.specs.Acting.{Acting, acted, acted_all, asked_if, timer_of, made_unless, killed_if, sent_if, put_fault, put_unless, actions_of}
use Rattle.botcore.specs.Bots.{Bot, bot_setting}
use Rattle.botcore.specs.Happenings.{Saying, saying_in}
use Rattle.botcore.specs.Lines.{Finish, acting_of, acting_after, finish_text, finish_line, finish_reading}
use Rattle.botcore.specs.Links.{outgoing_told, text_sent}
use Rattle.botcore.specs.Reports.{answer_report}
use Rattle.botcore.specs.Steps.{TakesCalls, TakesText, TakesMessage, TakesMoment, TakesReading, TakesStep, text_note, said_occasions, message_told, run_to, is_stale}

-- ---- a call of the link

answer_good : (most : ℕ) (answer : Result Answer (Failure LinkFault)) → GoOut most answer → AreGood (answer_report answer).packets
answer_good most (Ok answer) out = out.1
answer_good most (Err (refused_by fault)) out = tt
answer_good most (Err no_memory) out = tt

-- so has its report
pub good_reported : (most : ℕ) (answer : Result Answer (Failure LinkFault)) (report : Report) → GoOut most answer → report ≡ answer_report answer
    → AreGood report.packets
good_reported most answer report out reported = subst (λ (r : Report). AreGood r.packets) (sym reported) (answer_good most answer out)

-- ---- actions

pub AreGood-append : (xs ys : List Outgoing) → AreGood xs → AreGood ys → AreGood (xs ++ ys)
AreGood-append [] ys good more = more
AreGood-append (x ∷ xs) ys good more = (good.0, AreGood-append xs ys good.1 more)

-- a text has no records
abbrev SendsTexts : {S : Type 0} → Row S → Type 0
SendsTexts row = AreGood (map outgoing_told row.sends)

text_good : {S : Type 0} (old : S) (leaves number next to : ℕ) (text : List ℕ) → SendsTexts (text_told old leaves number next to text)
text_good {S} old leaves number next to text = by (is_bad_text leaves number to text)
  where
    by : (b : Bool) → SendsTexts (let row : Row S =
        if b then refused Meant.BadBotText old
        else record { told = Ok Meaning.Relayed; sends = record { to = next; packet = BotText number to text } ∷ []; after = old } in row)
    by true = tt
    by false = (tt, tt)

hub_text_good : (hub : Hub) (row : Row Hub) → SendsTexts row → SendsTexts (of_hub (unless_down hub row))
hub_text_good hub row good = by hub.down
  where
    by : (down : Bool) → SendsTexts (of_hub (if down then refused Meant.Down hub else row))
    by true = tt
    by false = good

leaf_text_good : (leaf : Leaf) (row : Row Leaf) → SendsTexts row → SendsTexts (of_leaf (unless_down leaf row))
leaf_text_good leaf row good = by leaf.down
  where
    by : (down : Bool) → SendsTexts (of_leaf (if down then refused Meant.Down leaf else row))
    by true = tt
    by false = good

told_good : (leaves number : ℕ) (e : LinkEnd) (to : ℕ) (text : List ℕ) → SendsTexts (end_did leaves number Works e (Tell to text))
told_good leaves number (AtHub hub) to text = hub_text_good hub _ (text_good hub leaves 0 to to text)
told_good leaves number (AtLeaf leaf) to text = leaf_text_good leaf _ (text_good leaf leaves number 0 to text)

ask_good : (acting : Acting) (after : LinkEnd) (said : Result Meaning Meant) → AreGood acting.sent → AreGood (asked_if said acting after).after.sent
ask_good acting after (Ok note) good = good
ask_good acting after (Err why) good = good

timer_good : (acting : Acting) (timer : Timer) (fault : Option ClockFault) → AreGood acting.sent → AreGood (made_unless fault acting timer).after.sent
timer_good acting timer None good = good
timer_good acting timer (Some fault) good = good

kill_good : (acting : Acting) (name : TimerName) (held : Bool) → AreGood acting.sent → AreGood (killed_if held acting name).after.sent
kill_good acting name true good = good
kill_good acting name false good = good

put_good : (acting : Acting) (wish : PutWish) (fault : Option QueueFault) → AreGood acting.sent → AreGood (put_unless fault acting wish).after.sent
put_good acting wish None good = good
put_good acting wish (Some fault) good = good

send_good : (acting : Acting) (sends : List Sent) (said : Result Meaning Meant) → AreGood (map outgoing_told sends) → AreGood acting.sent
    → AreGood (sent_if (text_sent said sends (length acting.sent)) acting).after.sent
send_good acting sends (Err why) texts good = good
send_good acting sends (Ok note) texts good = by (nat_lt (length acting.sent) MAX_TEXTS)
  where
    by : (b : Bool) → AreGood (sent_if (let r : Result (List Outgoing) LinkFault = if b then Ok (map outgoing_told sends) else Err TextsFull in r)
        acting).after.sent
    by true = AreGood-append acting.sent (map outgoing_told sends) good texts
    by false = good

act_good : (acting : Acting) (action : Action) → AreGood acting.sent → AreGood (acted acting action).after.sent
act_good acting (Ask change) good = ask_good acting (asked acting.link change).after (asked acting.link change).told good
act_good acting (timer_wished wish) good =
    timer_good acting (timer_of acting Minutes wish) (add_fault acting.timers wish.interval acting.last) good
act_good acting (Utimer wish) good = timer_good acting (timer_of acting Seconds wish) (add_fault acting.timers wish.interval acting.last) good
act_good acting (KillTimer name) good = kill_good acting name (holds_named acting.timers name.proc name.text) good
act_good acting (SendBot wish) good =
    send_good acting (told acting.link wish.to wish.text).sends (told acting.link wish.to wish.text).told
    (told_good acting.link.leaves acting.link.number acting.link.end wish.to wish.text) good
act_good acting (Put wish) good = put_good acting wish (put_fault acting wish) good

acts_good : (acting : Acting) (actions : List Action) → AreGood acting.sent → AreGood (acted_all acting actions).sent
acts_good acting [] good = good
acts_good acting (a ∷ actions) good = acts_good (acted acting a).after actions (act_good acting a good)

pub sent_good : (start : Bot) (calls : List MadeCall) → AreGood (acting_after start calls).sent
sent_good start calls = acts_good (acting_of start) (actions_of calls) tt

-- whatever is called, its packets are good
pub calls_good : (promised : Promised) (told : List Telling) (old start : Bot)
    (came : Option Note) (finish : List MadeCall → Finish) (report : Report) (new : Bot) (end : End)
    → TakesCalls end promised told old start came finish report new → AreGood report.packets
calls_good promised told old start came finish report new Done c =
    subst AreGood (sym c.packets) (sent_good start report.calls)
calls_good promised told old start came finish report new (Refused why) c = absurd c
calls_good promised told old start came finish report new NoMemory c = subst AreGood (sym c.packets) tt

module _ (promised : Promised) (names : List (List ℕ)) (old : Bot) where
  pub text_good_told : (saying : Saying) (report : Report) (new : Bot) → TakesText promised names old saying report new → AreGood report.packets
  text_good_told saying report new c =
      calls_good promised (told_of (bot_setting promised names old) (said_occasions saying)) old old (Some (text_note saying)) (finish_text old)
      report new report.end c

  -- so where a packet may bring a text
  pub packet_good : (answer : Answer) (report : Report) (new : Bot) → AreGood answer.packets
      → ((saying : Saying) → saying_in (note_of answer.note) ≡ Some saying → TakesText promised names old saying report new)
      → (saying_in (note_of answer.note) ≡ None → report ≡ answer_report (Ok answer)) → AreGood report.packets
  packet_good answer report new good texts reports = by (saying_in (note_of answer.note)) refl
    where
      by : (s : Option Saying) → saying_in (note_of answer.note) ≡ s → AreGood report.packets
      by None e = subst (λ (r : Report). AreGood r.packets) (sym (reports e)) good
      by (Some saying) e = text_good_told saying report new (texts saying e)

  -- so a message of the server, and any line
  pub message_good : (message : Message) (report : Report) (new : Bot) → TakesMessage promised names old message report new → AreGood report.packets
  message_good message report new c =
      calls_good promised (message_told promised names old message) old old None (finish_line old message) report new report.end c

  pub line_good : (line : ReadLine) (report : Report) (new : Bot) → TakesStep promised names old (Line line) report new → AreGood report.packets
  line_good (a_message message) report new c = message_good message report new c
  line_good (a_bad_line fault) report new c = subst (λ (r : Report). AreGood r.packets) (sym c.0) tt

  -- so a reading of the clock
  moment_good : (stale : Bool) (now : ℕ) (report : Report) (new : Bot) → TakesMoment stale promised names old now report new → AreGood report.packets
  moment_good true now report new c = subst (λ (r : Report). AreGood r.packets) (sym c.0) tt
  moment_good false now report new c =
      calls_good promised (told_of (bot_setting promised names old) c.0) old (run_to old now) None (finish_reading (run_to old now) now)
      report new report.end c.2

  reading_good : (fault : Option ClockFault) (now : ℕ) (report : Report) (new : Bot) → TakesReading fault promised names old now report new
      → AreGood report.packets
  reading_good (Some fault) now report new c = subst (λ (r : Report). AreGood r.packets) (sym c.0) tt
  reading_good None now report new c = moment_good (is_stale old.config.sends_at_once old.clock now) now report new c

  pub clock_good : (now : ℕ) (report : Report) (new : Bot) → TakesStep promised names old (Clock now) report new → AreGood report.packets
  clock_good now report new c = reading_good (reading_fault now) now report new c
