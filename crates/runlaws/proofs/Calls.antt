-- What a past shows of the call that has not returned.
use Rattle.std.proofs.Common.{◌≡◌, ◌+◌, ℕ, List, [], ◌∷◌, None, Some, refl, subst}
use Rattle.procs.specs.Promises.{Promised}
use Rattle.botcore.specs.declared.event.BotEvent.{BotEvent}
use Rattle.botcore.specs.declared.report.Report.{Report}
use Rattle.botcore.specs.Bots.{Bot}
use Rattle.botcore.specs.Steps.{TakesStep}
use Rattle.watching.specs.Openings.{IsOpened}
use Rattle.watching.specs.Acts.{Act, Opens, Creates, Began, Told, Made, Forgets, Hears, Sends, Waits, Station, HasNoBot, Begins, IsBotOf, EndsStep, bot_in}
use Rattle.runlaws.specs.Calls.{Doing, Nothing, Opening, Creating, Telling, Forgetting, doing}

-- ---- before a bot has begun

no_bot : (past : List Act) → HasNoBot past → bot_in past ≡ None
no_bot [] none = refl
no_bot (Opens first second ∷ past) none = absurd none
no_bot (Creates first second last ∷ past) none = absurd none
no_bot (Began bot ∷ past) none = absurd none
no_bot (Told bot event ∷ past) none = absurd none
no_bot (Made report bot ∷ past) none = absurd none
no_bot (Forgets bot ∷ past) none = refl
no_bot (Hears packets ∷ past) none = absurd none
no_bot (Sends outgoing ∷ past) none = absurd none
no_bot (Waits ∷ past) none = absurd none

-- it has none, and is in no step
pub has_none : (past : List Act) (bot : Bot) → HasNoBot past → bot_in past ≡ Some bot → ⊥
has_none past bot none is = let gone = no_bot past none in cc

pub no_step : (past : List Act) (bot : Bot) (event : BotEvent) → HasNoBot past → doing past ≡ Telling bot event → ⊥
no_step [] bot event none is = cc
no_step (Opens first second ∷ past) bot event none is = absurd none
no_step (Creates first second last ∷ past) bot event none is = absurd none
no_step (Began one ∷ past) bot event none is = absurd none
no_step (Told one other ∷ past) bot event none is = absurd none
no_step (Made report one ∷ past) bot event none is = absurd none
no_step (Forgets one ∷ past) bot event none is = cc
no_step (Hears packets ∷ past) bot event none is = absurd none
no_step (Sends outgoing ∷ past) bot event none is = absurd none
no_step (Waits ∷ past) bot event none is = absurd none

-- ---- when a bot begins

-- it is opened, if the process was opening it
begins_opened : (past : List Act) (bot : Bot) (x y : List ℕ) → Begins past bot → doing past ≡ Opening x y
    → IsOpened bot.config.number (bot.config.leaves + 1) x y bot
begins_opened [] bot x y begins is = absurd begins
begins_opened (Opens first second ∷ past) bot x y begins is =
    let one : first ≡ x = cc in
    let other : second ≡ y = cc in
    subst (λ (z : List ℕ). IsOpened bot.config.number (bot.config.leaves + 1) x z bot) other
    (subst (λ (z : List ℕ). IsOpened bot.config.number (bot.config.leaves + 1) z second bot) one begins)
begins_opened (Creates first second last ∷ past) bot x y begins is = cc
begins_opened (Began one ∷ past) bot x y begins is = absurd begins
begins_opened (Told one event ∷ past) bot x y begins is = absurd begins
begins_opened (Made report one ∷ past) bot x y begins is = absurd begins
begins_opened (Forgets one ∷ past) bot x y begins is = absurd begins
begins_opened (Hears packets ∷ past) bot x y begins is = absurd begins
begins_opened (Sends outgoing ∷ past) bot x y begins is = absurd begins
begins_opened (Waits ∷ past) bot x y begins is = absurd begins

-- as the bot of this number in a net of so many bots
pub opened_as : (past : List Act) (bot : Bot) (x y : List ℕ) (station : Station) (bots : ℕ) → Begins past bot
    → doing past ≡ Opening x y → IsBotOf station bot → station.leaves + 1 ≡ bots → IsOpened station.number bots x y bot
opened_as past bot x y station bots begins is of many =
    subst (λ (n : ℕ). IsOpened station.number n x y bot) many
    (subst (λ (l : ℕ). IsOpened station.number (l + 1) x y bot) of.1
    (subst (λ (n : ℕ). IsOpened n (bot.config.leaves + 1) x y bot) of.0 (begins_opened past bot x y begins is)))

-- it was to begin
pub no_beginning : (past : List Act) (bot : Bot) → Begins past bot → doing past ≡ Nothing → ⊥
no_beginning [] bot begins is = absurd begins
no_beginning (Opens first second ∷ past) bot begins is = cc
no_beginning (Creates first second last ∷ past) bot begins is = cc
no_beginning (Began one ∷ past) bot begins is = absurd begins
no_beginning (Told one event ∷ past) bot begins is = absurd begins
no_beginning (Made report one ∷ past) bot begins is = absurd begins
no_beginning (Forgets one ∷ past) bot begins is = absurd begins
no_beginning (Hears packets ∷ past) bot begins is = absurd begins
no_beginning (Sends outgoing ∷ past) bot begins is = absurd begins
no_beginning (Waits ∷ past) bot begins is = absurd begins

pub no_beginning_in_step : (past : List Act) (bot was : Bot) (event : BotEvent) → Begins past bot → doing past ≡ Telling was event → ⊥
no_beginning_in_step [] bot was event begins is = absurd begins
no_beginning_in_step (Opens first second ∷ past) bot was event begins is = cc
no_beginning_in_step (Creates first second last ∷ past) bot was event begins is = cc
no_beginning_in_step (Began one ∷ past) bot was event begins is = absurd begins
no_beginning_in_step (Told one other ∷ past) bot was event begins is = absurd begins
no_beginning_in_step (Made report one ∷ past) bot was event begins is = absurd begins
no_beginning_in_step (Forgets one ∷ past) bot was event begins is = absurd begins
no_beginning_in_step (Hears packets ∷ past) bot was event begins is = absurd begins
no_beginning_in_step (Sends outgoing ∷ past) bot was event begins is = absurd begins
no_beginning_in_step (Waits ∷ past) bot was event begins is = absurd begins

-- ---- when a step ends

module _ (promised : Promised) (names : List (List ℕ)) where
  -- the step that ends, by the call that has not returned
  abbrev pub EndsCall : Doing → Report → Bot → Type 0
  EndsCall Nothing report after = ⊥
  EndsCall (Opening first second) report after = ⊥
  EndsCall Creating report after = ⊥
  EndsCall (Telling was event) report after = TakesStep promised names was event report after
  EndsCall Forgetting report after = ⊥

  pub ends_call : (past : List Act) (report : Report) (after : Bot) → EndsStep promised names past report after
      → EndsCall (doing past) report after
  ends_call [] report after ends = ends
  ends_call (Opens first second ∷ past) report after ends = ends
  ends_call (Creates first second last ∷ past) report after ends = ends
  ends_call (Began bot ∷ past) report after ends = ends
  ends_call (Told was event ∷ past) report after ends = ends
  ends_call (Made other bot ∷ past) report after ends = ends
  ends_call (Forgets bot ∷ past) report after ends = ends
  ends_call (Hears packets ∷ past) report after ends = ends
  ends_call (Sends outgoing ∷ past) report after ends = ends
  ends_call (Waits ∷ past) report after ends = ends
