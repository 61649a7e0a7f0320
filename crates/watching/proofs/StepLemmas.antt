-- A step of a bot that is watched: what the watcher is told is lawful, and the bot stays watched.
use Rattle.std.proofs.Common.{◌≡◌, ◌∙◌, ℕ, List, ◌∷◌, refl, sym, ap, subst}
use Rattle.procs.specs.Promises.{Promised}
use Rattle.botcore.specs.declared.event.BotEvent.{BotEvent}
use Rattle.botcore.specs.declared.report.Report.{Report}
use Rattle.botcore.specs.Bots.{Bot}
use Rattle.botcore.specs.Steps.{TakesStep}
use Rattle.watching.specs.Acts.{Act, Told, Made, MayStep, MayTake, IsKept}
use Rattle.watching.specs.Following.{Follows, IsWatched}
use Rattle.watching.specs.Following.Follows.{so_far, more}
use Rattle.watching.proofs.FollowingLemmas.{lets_on}

module _ (promised : Promised) (names : List (List ℕ)) (may : List Act → Act → Type 0) (past : List Act) (bot : Bot)
    (event : BotEvent) (watched : IsWatched promised names may past bot) (takes : MayTake past event) where
  -- the watcher may be told of the step
  pub may_tell : may past (Told bot event)
  may_tell = watched.lets past (Told bot event) so_far (watched.bot_is, takes)

  begun : Follows (MayStep promised names) past (Told bot event ∷ past)
  begun = more so_far (watched.bot_is, takes)

  module _ (told : List Act) (report : Report) (after : Bot) (is : told ≡ Told bot event ∷ past)
      (step : TakesStep promised names bot event report after) (kept : IsKept after) where
    -- and of its end
    pub may_make : may told (Made report after)
    may_make = subst (λ (p : List Act). may p (Made report after)) (sym is)
        (watched.lets (Told bot event ∷ past) (Made report after) begun (step, kept))

    ended : Follows (MayStep promised names) past (Made report after ∷ Told bot event ∷ past)
    ended = more begun (step, kept)

    module _ (made : List Act) (made_is : made ≡ Made report after ∷ told) where
      pub acts_of_step : made ≡ Made report after ∷ Told bot event ∷ past
      acts_of_step = made_is ∙ ap (λ (p : List Act). Made report after ∷ p) is

      pub step_follows : Follows (MayStep promised names) past made
      step_follows = subst (λ (p : List Act). Follows (MayStep promised names) past p) (sym acts_of_step) ended

      pub step_watched : IsWatched promised names may made after
      step_watched = subst (λ (p : List Act). IsWatched promised names may p after) (sym acts_of_step)
          (record { lets = lets_on {law = MayStep promised names} may watched.lets ended; bot_is = refl })
