-- How far the actions of calls were carried out.
use Rattle.std.specs.Prelude.{◌≡◌, ℕ, List, [], ◌++◌, Option}
use Rattle.outqueue.specs.Sending.{Sending, with_first}
use Rattle.outqueue.specs.declared.queues.Counts.{Counts}
use Rattle.bottimers.specs.Held.{Held}
use Rattle.userfile.specs.declared.change.Change.{Change}
use Rattle.procs.specs.declared.action.Action.{Action}
use Rattle.sharelink.specs.declared.answer.Outgoing.{Outgoing}
use Rattle.botcore.specs.declared.fault.StepFault.{StepFault}
use Rattle.botcore.specs.declared.manner.Manner.{Manner}
use Rattle.sharelink.specs.BotLinks.{BotEnd, keeps_asks}
use Rattle.botcore.specs.Acting.{Acting, Acted, acted_all, with_fault, action_faults}
use Rattle.botcore.specs.Bots.{Bot}
use Rattle.botcore.specs.Links.{link_with_asks}
use Rattle.botcore.specs.Putting.{HasMoreLines}

-- what actions have changed besides the link, and what went wrong
pub record Progress : Type 0 where
  pub timers : Held
  pub last : Option ℕ
  pub sent : List Outgoing
  pub queues : Sending
  pub manner : Manner
  pub faults : List StepFault

-- all that actions change
abbrev pub acting_at : BotEnd → Progress → Acting
acting_at link doing =
    record {
      link = link;
      timers = doing.timers;
      last = doing.last;
      sent = doing.sent;
      queues = doing.queues;
      manner = doing.manner;
    }

-- one action left this, and its refusal is appended to the faults
pub record Leaves (old : Progress) (acted : Acted) (link : BotEnd) (new : Progress) : Type 0 where
  pub acting : acting_at link new ≡ acted.after
  pub faults : new.faults ≡ old.faults ++ with_fault acted.fault []

-- and so did all of these actions
pub record LeavesAll (before : BotEnd) (old : Progress) (actions : List Action) (link : BotEnd) (new : Progress) : Type 0 where
  pub acting : acting_at link new ≡ acted_all (acting_at before old) actions
  pub faults : new.faults ≡ old.faults ++ action_faults (acting_at before old) actions

-- the link is unchanged, except for asks after those that waited
abbrev pub HasMoreAsks : BotEnd → BotEnd → Type 0
HasMoreAsks old new = (more : List Change) × (new ≡ link_with_asks old more)

-- the bot is unchanged, except for more asks and more lines, which can be taken back
pub record HasMore (old new : Bot) : Type 0 where
  pub asks : HasMoreAsks old.link new.link
  pub lines : HasMoreLines old.queues new.queues
  pub rest : new ≡ record old { link = new.link; queues = new.queues }

-- the bot with this many of its asks and lines, from the oldest on
abbrev pub with_oldest : Bot → ℕ → Counts → Bot
with_oldest bot asks lines = record bot { link = keeps_asks bot.link asks; queues = with_first bot.queues lines }
