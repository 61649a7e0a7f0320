-- What the steps of a turn report for the other bots, as the watcher of the process was told.
use Rattle.std.specs.Prelude.{◌≡◌, List, [], ◌∷◌, ◌++◌}
use Rattle.sharelink.specs.declared.answer.Outgoing.{Outgoing}
use Rattle.botcore.specs.declared.event.BotEvent.{BotEvent}
use Rattle.botcore.specs.declared.report.Report.{Report}
use Rattle.botcore.specs.Bots.{Bot}
use Rattle.watching.specs.Acts.{Act, Told as Tells, Made, HasTicked, sent_by, unsent}
use Rattle.turns.specs.declared.turn.Told.{Told}
use Rattle.turns.specs.declared.turn.TurnEnd.TheVariants.{Done}

-- the packets of these reports, in order
abbrev pub packets_in : List Report → List Outgoing
packets_in [] = []
packets_in (report ∷ reports) = report.packets ++ packets_in reports

-- The watcher was told of a step of this event, whose report is appended to those before.
pub record IsStepped (past new : List Act) (event : BotEvent) (before after : List Report) : Type 0 where
  pub report : Report
  pub was : Bot
  pub next : Bot
  pub past_is : new ≡ Made report next ∷ Tells was event ∷ past
  pub told : after ≡ before ++ report ∷ []

-- The watcher was told of no step, or of one whose report is dropped.
pub record IsUnstepped (past new : List Act) : Type 0 where
  pub dropped : List Outgoing
  pub unsent_is : unsent new ≡ unsent past ++ dropped
  pub sent_is : sent_by new ≡ sent_by past

-- What the reports of a turn have for the other bots is to be queued now, in order; and, out of memory, what was dropped
-- after it. Otherwise the bot was told the time.
pub record Queues (past new : List Act) (told : Told) : Type 0 where
  pub dropped : List Outgoing
  pub unsent_is : unsent new ≡ unsent past ++ (packets_in told.reports ++ dropped)
  pub sent_is : sent_by new ≡ sent_by past
  pub none : told.end ≡ Done → dropped ≡ []
  pub ticked : told.end ≡ Done → HasTicked new
