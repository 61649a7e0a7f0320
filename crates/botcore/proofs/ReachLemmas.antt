-- No action gives timers a second that the clock has not seen.
use Rattle.std.proofs.Common.{◌≡◌, ◌∙◌, ℕ, List, [], ◌∷◌, Bool, true, false, Option, Some, None, Result, Ok, Err, unwrap_or, arith, refl, sym, subst, length}
use Rattle.bottimers.specs.declared.fault.ClockFault.{ClockFault}
use Rattle.bottimers.specs.declared.timer.Timer.{Timer}
use Rattle.bottimers.specs.declared.timer.TimerKind.{TimerKind}
use Rattle.bottimers.specs.declared.timer.TimerKind.TheVariants.{Minutes, Seconds}
use Rattle.bottimers.specs.Held.{add_fault, holds_named}
use Rattle.procs.specs.declared.action.Action.{Action}
use Rattle.procs.specs.declared.action.Action.TheVariants.{Ask, Timer as timer_wished, Utimer, KillTimer, SendBot, Put}
use Rattle.procs.specs.declared.action.PutWish.{PutWish}
use Rattle.procs.specs.declared.action.TimerName.{TimerName}
use Rattle.procs.specs.declared.action.TimerWish.{TimerWish}
use Rattle.outqueue.specs.declared.fault.QueueFault.{QueueFault}
use Rattle.sharelink.specs.declared.answer.Outgoing.{Outgoing}
use Rattle.sharelink.specs.declared.error.LinkFault.{LinkFault}
use Rattle.botcore.specs.Acting.{Acting, acted, acted_all, asked_if, made_unless, timer_made, timer_of, killed_if, sent_if, put_fault, put_unless}
use Rattle.protocol.specs.Notes.{Note as Meaning, LinkFault as Meant}
use Rattle.protocol.specs.Ends.{End}
use Rattle.sharelink.specs.BotLinks.{BotEnd, asked}
use Rattle.botcore.specs.Links.{link_text}
use Rattle.botcore.specs.Progress.{Progress, LeavesAll, acting_at}
use Rattle.botcore.specs.Rising.{IsReached}

-- the last second stays, and the timers do not pass it
abbrev Keeps : Acting → Acting → Type 0
Keeps a b = (b.last ≡ a.last) × IsReached b.timers.last a.last

made_keeps : (fault : Option ClockFault) (a : Acting) (m : Timer) → IsReached a.timers.last a.last → (fault ≡ None → IsReached (Some m.made) a.last)
    → Keeps a (made_unless fault a m).after
made_keeps (Some f) a m reached new = (refl, reached)
made_keeps None a m reached new = (refl, new refl)

timer_keeps : (kind : TimerKind) (a : Acting) (wish : TimerWish) → IsReached a.timers.last a.last → Keeps a (timer_made kind a wish).after
timer_keeps kind a wish reached =
    made_keeps (add_fault a.timers wish.interval a.last) a (timer_of a kind wish) reached (by a.last)
  where
    by : (last : Option ℕ) → add_fault a.timers wish.interval last ≡ None → IsReached (Some (unwrap_or last 0)) last
    by None none = cc
    by (Some t) none = omega arith

killed_keeps : (held : Bool) (a : Acting) (name : TimerName) → IsReached a.timers.last a.last → Keeps a (killed_if held a name).after
killed_keeps true a name reached = (refl, reached)
killed_keeps false a name reached = (refl, reached)

asked_keeps : (said : Result Meaning Meant) (a : Acting) (after : End) → IsReached a.timers.last a.last → Keeps a (asked_if said a after).after
asked_keeps (Ok note) a after reached = (refl, reached)
asked_keeps (Err why) a after reached = (refl, reached)

sent_keeps : (text : Result (List Outgoing) LinkFault) (a : Acting) → IsReached a.timers.last a.last → Keeps a (sent_if text a).after
sent_keeps (Ok packets) a reached = (refl, reached)
sent_keeps (Err fault) a reached = (refl, reached)

put_keeps : (fault : Option QueueFault) (a : Acting) (wish : PutWish) → IsReached a.timers.last a.last → Keeps a (put_unless fault a wish).after
put_keeps (Some fault) a wish reached = (refl, reached)
put_keeps None a wish reached = (refl, reached)

acted_keeps : (a : Acting) (x : Action) → IsReached a.timers.last a.last → Keeps a (acted a x).after
acted_keeps a (Ask change) reached = asked_keeps (asked a.link change).told a (asked a.link change).after reached
acted_keeps a (timer_wished wish) reached = timer_keeps Minutes a wish reached
acted_keeps a (Utimer wish) reached = timer_keeps Seconds a wish reached
acted_keeps a (KillTimer name) reached = killed_keeps (holds_named a.timers name.proc name.text) a name reached
acted_keeps a (SendBot wish) reached = sent_keeps (link_text a.link wish.to wish.text (length a.sent)) a reached
acted_keeps a (Put wish) reached = put_keeps (put_fault a wish) a wish reached

acted_all_keeps : (a : Acting) (xs : List Action) → IsReached a.timers.last a.last → Keeps a (acted_all a xs)
acted_all_keeps a [] reached = (refl, reached)
acted_all_keeps a (x ∷ xs) reached =
    let one = acted_keeps a x reached in
    let rest = acted_all_keeps (acted a x).after xs (subst (IsReached (acted a x).after.timers.last) (sym one.0) one.1) in
    (rest.0 ∙ one.0, subst (IsReached (acted_all (acted a x).after xs).timers.last) one.0 rest.1)

reached_after : (a : Acting) (xs : List Action) → IsReached a.timers.last a.last → IsReached (acted_all a xs).timers.last a.last
reached_after a xs reached = (acted_all_keeps a xs reached).1

-- so after all actions of calls, too
pub reached_by : (before link : BotEnd) (old new : Progress) (actions : List Action) (clock : Option ℕ) → LeavesAll before old actions link new
    → IsReached old.timers.last old.last → old.last ≡ clock → IsReached new.timers.last clock
reached_by before link old new actions clock done reached is =
    subst (IsReached new.timers.last) is
    (subst (λ (a : Acting). IsReached a.timers.last old.last) (sym done.acting) (reached_after (acting_at before old) actions reached))
