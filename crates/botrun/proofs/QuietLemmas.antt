-- Steps of binds say nothing to the other bots.
use Rattle.std.proofs.Common.{◌≡◌, ◌∙◌, ℕ, List, [], ◌∷◌, Option, Some, None, refl, ap}
use Rattle.procs.specs.Promises.{Promised}
use Rattle.procs.specs.declared.bind_fault.BindFault.{BindFault}
use Rattle.procs.specs.declared.bind.Bind.{Bind as HeldBind}
use Rattle.procs.specs.Tables.{Asked, refusal}
use Rattle.botcore.specs.declared.event.OldBind.{OldBind}
use Rattle.botcore.specs.declared.event.BotEvent.{BotEvent}
use Rattle.botcore.specs.declared.event.BotEvent.TheVariants.{Connect, Line, Ask, Pump, Receive, Clock, Bind, Unbind, Compact, Restart}
use Rattle.botcore.specs.declared.report.End.{End}
use Rattle.botcore.specs.declared.report.End.TheVariants.{Done, Refused, NoMemory}
use Rattle.botcore.specs.declared.report.Report.{Report}
use Rattle.botcore.specs.Bots.{Bot}
use Rattle.botcore.specs.Steps.{Due, Gives, IsGoodEvent, TakesStep, asked_of, bind_due, bind_to_go, unbind_due}
use Rattle.watching.specs.Acts.{Act, Told as Tells, Made, MayStep, MayTake}
use Rattle.watching.specs.Following.{Follows, IsWatched, StepsQuietly}
use Rattle.watching.proofs.SendingLemmas.{quiet_step}
use Rattle.botrun.specs.Watched.{IsOfBinds}

gives_none : (end : End) (Grows : Type 0) (old : Bot) (due : Due) (report : Report) (new : Bot) → due.report.packets ≡ []
    → Gives end Grows old due report new → report.packets ≡ []
gives_none Done Grows old due report new none gives = ap (λ (r : Report). r.packets) gives.0 ∙ none
gives_none (Refused why) Grows old due report new none gives = ap (λ (r : Report). r.packets) gives.0 ∙ none
gives_none NoMemory Grows old due report new none gives = ap (λ (r : Report). r.packets) gives.1

bind_none : (old : Bot) (asked : Asked) (why : Option BindFault) → (bind_due old asked why).report.packets ≡ []
bind_none old asked None = refl
bind_none old asked (Some fault) = refl

unbind_none : (old : Bot) (gone : OldBind) (bind : Option HeldBind) → (unbind_due old gone bind).report.packets ≡ []
unbind_none old gone None = refl
unbind_none old gone (Some bind) = refl

pub binds_good : (event : BotEvent) → IsOfBinds event → IsGoodEvent event
binds_good Connect is = absurd is
binds_good (Line line) is = absurd is
binds_good (Ask change) is = absurd is
binds_good Pump is = absurd is
binds_good (Receive packet) is = absurd is
binds_good (Clock now) is = absurd is
binds_good (Bind asked) is = tt
binds_good (Unbind gone) is = tt
binds_good Compact is = absurd is
binds_good Restart is = absurd is

pub binds_taken : (past : List Act) (event : BotEvent) → IsOfBinds event → MayTake past event
binds_taken past Connect is = absurd is
binds_taken past (Line line) is = absurd is
binds_taken past (Ask change) is = absurd is
binds_taken past Pump is = absurd is
binds_taken past (Receive packet) is = absurd is
binds_taken past (Clock now) is = absurd is
binds_taken past (Bind asked) is = tt
binds_taken past (Unbind gone) is = tt
binds_taken past Compact is = absurd is
binds_taken past Restart is = absurd is

module _ (promised : Promised) (names : List (List ℕ)) where
  binds_none : (old : Bot) (event : BotEvent) (report : Report) (new : Bot) → IsOfBinds event
      → TakesStep promised names old event report new → report.packets ≡ []
  binds_none old Connect report new is takes = absurd is
  binds_none old (Line line) report new is takes = absurd is
  binds_none old (Ask change) report new is takes = absurd is
  binds_none old Pump report new is takes = absurd is
  binds_none old (Receive packet) report new is takes = absurd is
  binds_none old (Clock now) report new is takes = absurd is
  binds_none old (Bind asked) report new is takes =
      gives_none report.end _ old _ report new (bind_none old (asked_of asked) (refusal old.binds (asked_of asked))) takes
  binds_none old (Unbind gone) report new is takes =
      gives_none report.end _ old _ report new (unbind_none old gone (bind_to_go old.binds gone)) takes
  binds_none old Compact report new is takes = absurd is
  binds_none old Restart report new is takes = absurd is

  -- such a step leads on quietly
  pub binds_quietly : (may : List Act → Act → Type 0) (past new : List Act) (old bot : Bot) (event : BotEvent) (report : Report)
      → IsOfBinds event → TakesStep promised names old event report bot → new ≡ Made report bot ∷ Tells old event ∷ past
      → Follows (MayStep promised names) past new → IsWatched promised names may new bot → StepsQuietly promised names may past new bot
  binds_quietly may past new old bot event report is takes acts further watched = record {
    follows = further;
    watched = watched;
    quiet = quiet_step past new report old bot event acts (binds_none old event report bot is takes);
  }
