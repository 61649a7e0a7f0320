-- What the actions of calls do to a bot.
--
-- All of them count, in the order of the calls, whatever the codes were. A refused action changes nothing, and is
-- reported.
use Rattle.std.specs.Prelude.{ℕ, ◌+◌, List, [], ◌∷◌, ◌++◌, length, map, Bool, true, false, Option, Some, None, unwrap_or, Result, Ok, Err}
use Rattle.bottimers.specs.declared.fault.ClockFault.{ClockFault}
use Rattle.bottimers.specs.declared.fault.ClockFault.TheVariants.{NoSuchTimer}
use Rattle.bottimers.specs.declared.timer.Timer.{Timer}
use Rattle.bottimers.specs.declared.timer.TimerKind.{TimerKind}
use Rattle.bottimers.specs.declared.timer.TimerKind.TheVariants.{Minutes, Seconds}
use Rattle.bottimers.specs.Held.{Held, add_fault, with_timer, holds_named, without_named}
use Rattle.procs.specs.declared.action.Action.{Action}
use Rattle.outqueue.specs.declared.fault.QueueFault.{QueueFault}
use Rattle.outqueue.specs.Sending.{Sending}
use Rattle.procs.specs.declared.action.Action.TheVariants.{Ask, Timer as timer_wished, Utimer, KillTimer, SendBot, Put}
use Rattle.procs.specs.declared.action.PutWish.{PutWish}
use Rattle.procs.specs.declared.action.TimerName.{TimerName}
use Rattle.procs.specs.declared.action.TimerWish.{TimerWish}
use Rattle.sharelink.specs.declared.answer.Outgoing.{Outgoing}
use Rattle.sharelink.specs.declared.error.LinkFault.{LinkFault}
use Rattle.protocol.specs.Notes.{Note as Meaning, LinkFault as Meant}
use Rattle.protocol.specs.Bots.{Row}
use Rattle.protocol.specs.Ends.{End}
use Rattle.sharelink.specs.BotLinks.{BotEnd, asked}
use Rattle.botcore.specs.declared.fault.ActionFault.{ActionFault}
use Rattle.botcore.specs.declared.fault.ActionFault.TheVariants.{Link as link_fault, Clock as clock_fault, Queue as queue_fault}
use Rattle.botcore.specs.declared.fault.StepFault.{StepFault}
use Rattle.botcore.specs.declared.fault.StepFault.TheVariants.{Unbound as unbound_fault, Action as action_fault}
use Rattle.procs.specs.declared.made_call.MadeCall.{MadeCall}
use Rattle.procs.specs.declared.made_call.Unbound.{Unbound}
use Rattle.botcore.specs.declared.manner.Manner.{Manner}
use Rattle.botcore.specs.Links.{fault_told, link_text}
use Rattle.botcore.specs.Putting.{placed, refusal_in}

-- what actions change: the link, the timers, the texts to send, and the queues of lines for the server; new timers are
-- made at the last second, and lines are queued in this manner
pub record Acting : Type 0 where
  pub link : BotEnd
  pub timers : Held
  pub last : Option ℕ
  pub sent : List Outgoing
  pub queues : Sending
  pub manner : Manner

-- what an action leaves, and whether it is refused
pub record Acted : Type 0 where
  pub after : Acting
  pub fault : Option ActionFault

abbrev pub done_to : Acting → Acted
done_to after = record { after = after; fault = None }

abbrev pub refused_to : Acting → ActionFault → Acted
refused_to old fault = record { after = old; fault = Some fault }

-- ---- one action

-- an ask for a change, which waits unless the link refuses it
abbrev pub asked_if : Result Meaning Meant → Acting → End → Acted
asked_if (Ok note) old after = done_to (record old { link = record old.link { end = after } })
asked_if (Err why) old after = refused_to old (link_fault (fault_told why))

abbrev pub asked_to : Acting → Row End → Acted
asked_to old row = asked_if row.told old row.after

-- a timer is made under the next id
abbrev pub timer_of : Acting → TimerKind → TimerWish → Timer
timer_of old kind wish =
    record {
      id = old.timers.spent + 1;
      kind = kind;
      made = unwrap_or old.last 0;
      interval = wish.interval;
      count = wish.count;
      proc = wish.proc;
      text = wish.text;
    }

abbrev pub made_unless : Option ClockFault → Acting → Timer → Acted
made_unless (Some fault) old timer = refused_to old (clock_fault fault)
made_unless None old timer = done_to (record old { timers = with_timer old.timers timer })

abbrev pub timer_made : TimerKind → Acting → TimerWish → Acted
timer_made kind old wish = made_unless (add_fault old.timers wish.interval old.last) old (timer_of old kind wish)

-- the oldest timer of a proc and text is removed, if there is one
abbrev pub killed_if : Bool → Acting → TimerName → Acted
killed_if true old name = done_to (record old { timers = without_named old.timers name.proc name.text })
killed_if false old name = refused_to old (clock_fault NoSuchTimer)

-- a text is sent after those that were sent so far
abbrev pub sent_if : Result (List Outgoing) LinkFault → Acting → Acted
sent_if (Ok packets) old = done_to (record old { sent = old.sent ++ packets })
sent_if (Err fault) old = refused_to old (link_fault fault)

-- a line is put in this manner, unless it is refused
abbrev pub put_unless : Option QueueFault → Acting → PutWish → Acted
put_unless (Some fault) old wish = refused_to old (queue_fault fault)
put_unless None old wish = done_to (record old { queues = placed old.manner old.queues wish })

-- why the line is refused
abbrev pub put_fault : Acting → PutWish → Option QueueFault
put_fault old wish = refusal_in old.manner old.queues wish

abbrev pub acted : Acting → Action → Acted
acted old (Ask change) = asked_to old (asked old.link change)
acted old (timer_wished wish) = timer_made Minutes old wish
acted old (Utimer wish) = timer_made Seconds old wish
acted old (KillTimer name) = killed_if (holds_named old.timers name.proc name.text) old name
acted old (SendBot wish) = sent_if (link_text old.link wish.to wish.text (length old.sent)) old
acted old (Put wish) = put_unless (put_fault old wish) old wish

-- ---- all actions

-- the actions of calls, in the order of the calls
abbrev pub actions_of : List MadeCall → List Action
actions_of [] = []
actions_of (m ∷ ms) = m.reply.actions ++ actions_of ms

abbrev pub acted_all : Acting → List Action → Acting
acted_all old [] = old
acted_all old (a ∷ actions) = acted_all (acted old a).after actions

-- a refusal, before those of later actions
abbrev pub with_fault : Option ActionFault → List StepFault → List StepFault
with_fault None later = later
with_fault (Some fault) later = action_fault fault ∷ later

-- the refusals
abbrev pub action_faults : Acting → List Action → List StepFault
action_faults old [] = []
action_faults old (a ∷ actions) = with_fault (acted old a).fault (action_faults (acted old a).after actions)

-- the binds that were left out, and then the actions that are refused
abbrev pub faults_of : Acting → List MadeCall → List Unbound → List StepFault
faults_of old calls unbound = map (λ u. unbound_fault u) unbound ++ action_faults old (actions_of calls)
