-- Pasts that follow one another, and watchers that let lawful acts happen.
use Rattle.std.proofs.Common.{◌≡◌, ℕ, List, [], ◌∷◌, ap, sym, subst}
use Rattle.procs.specs.Promises.{Promised}
use Rattle.botcore.specs.Bots.{Bot}
use Rattle.botcore.specs.Links.{link_version}
use Rattle.watching.specs.Acts.{Act, Opens, Creates, Began, Told, Made, Forgets, Hears, Sends, Waits, Station, MayBegin, MayStep, May, HasNoBot, NumbersAbove, bot_in}
use Rattle.watching.specs.Following.{Follows, Lets, HasBegun, IsWatched, IsLawful, Allows, IsAt}
use Rattle.watching.specs.Following.Follows.{so_far, more}

-- ---- one past after another

pub follows_same : {law : List Act → Act → Type 0} (past : List Act) → Follows law past past
follows_same past = so_far

-- by one act
pub follows_act : {law : List Act → Act → Type 0} (start past new : List Act) (act : Act) → Follows law start past → law past act
    → new ≡ act ∷ past → Follows law start new
follows_act {law = law} start past new act far lawful is = subst (λ (p : List Act). Follows law start p) (sym is) (more far lawful)

pub follows_on : {law : List Act → Act → Type 0} {start mid past : List Act} → Follows law start mid → Follows law mid past
    → Follows law start past
follows_on far so_far = far
follows_on far (more further lawful) = more (follows_on far further) lawful

-- by acts that another law allows too
pub follows_as : {law other : List Act → Act → Type 0} {start past : List Act}
    → ((p : List Act) (act : Act) → law p act → other p act) → Follows law start past → Follows other start past
follows_as also so_far = so_far
follows_as also (more far lawful) = more (follows_as also far) (also _ _ lawful)

-- a watcher that lets acts happen goes on to do so
pub lets_on : {law : List Act → Act → Type 0} (may : List Act → Act → Type 0) {start mid : List Act} → Lets law may start
    → Follows law start mid → Lets law may mid
lets_on may lets far past act further lawful = lets past act (follows_on far further) lawful

-- ---- the laws

module _ (promised : Promised) (names : List (List ℕ)) (station : Station) where
  step_may : (past : List Act) (act : Act) → MayStep promised names past act → May promised names station past act
  step_may past (Opens first second) lawful = absurd lawful
  step_may past (Creates first second last) lawful = absurd lawful
  step_may past (Began bot) lawful = absurd lawful
  step_may past (Told bot event) lawful = lawful
  step_may past (Made report bot) lawful = lawful
  step_may past (Forgets bot) lawful = absurd lawful
  step_may past (Hears packets) lawful = lawful
  step_may past (Sends outgoing) lawful = lawful
  step_may past Waits lawful = absurd lawful

  begin_may : (past : List Act) (act : Act) → MayBegin station past act → May promised names station past act
  begin_may past (Opens first second) lawful = lawful
  begin_may past (Creates first second last) lawful = lawful
  begin_may past (Began bot) lawful = lawful
  begin_may past (Told bot event) lawful = absurd lawful
  begin_may past (Made report bot) lawful = absurd lawful
  begin_may past (Forgets bot) lawful = absurd lawful
  begin_may past (Hears packets) lawful = absurd lawful
  begin_may past (Sends outgoing) lawful = absurd lawful
  begin_may past Waits lawful = absurd lawful

  -- a watcher that allows each lawful act lets a bot begin, and lets it make steps
  pub allows_begin : (may : List Act → Act → Type 0) (past : List Act) → Allows promised names station may → IsLawful promised names station past
      → Lets (MayBegin station) may past
  allows_begin may past allows lawful later act further begins =
      allows later act (follows_on lawful (follows_as {law = MayBegin station} {other = May promised names station} begin_may further)) (begin_may later act begins)

  pub at_watched : (may : List Act → Act → Type 0) (past : List Act) (bot : Bot) → IsAt promised names station may past bot
      → IsWatched promised names may past bot
  at_watched may past bot at = record {
    lets = λ later act further steps. at.allows later act (follows_on at.lawful (follows_as {law = MayStep promised names} {other = May promised names station} step_may further)) (step_may later act steps);
    bot_is = at.bot_is;
  }

  -- where a bot has begun, and where its steps have led
  pub at_begun : (may : List Act → Act → Type 0) (past new : List Act) (bot : Bot) → Allows promised names station may
      → IsLawful promised names station past → HasBegun station past new bot → IsAt promised names station may new bot
  at_begun may past new bot allows lawful begun =
      record { allows = allows; lawful = follows_on lawful (follows_as {law = MayBegin station} {other = May promised names station} begin_may begun.follows); bot_is = begun.bot_is }

  pub at_stepped : (may : List Act → Act → Type 0) (past new : List Act) (was bot : Bot) → IsAt promised names station may past was
      → Follows (MayStep promised names) past new → IsWatched promised names may new bot → IsAt promised names station may new bot
  at_stepped may past new was bot at further watched =
      record { allows = at.allows; lawful = follows_on at.lawful (follows_as {law = MayStep promised names} {other = May promised names station} step_may further); bot_is = watched.bot_is }

  -- the same process with a bot that is the same
  pub at_same : (may : List Act → Act → Type 0) (past : List Act) (was bot : Bot) → bot ≡ was → IsAt promised names station may past was
      → IsAt promised names station may past bot
  at_same may past was bot same at = subst (λ (b : Bot). IsAt promised names station may past b) (sym same) at

  -- ---- beginning again

  pub lawful_first : (past : List Act) → past ≡ [] → IsLawful promised names station past
  lawful_first past none = subst (λ (p : List Act). Follows (May promised names station) [] p) (sym none) so_far

  -- the journal of a bot without records may be forgotten
  pub may_forget : (may : List Act → Act → Type 0) (past : List Act) (bot : Bot) → IsAt promised names station may past bot
      → link_version bot.link ≡ 0 → may past (Forgets bot)
  may_forget may past bot at none = at.allows past (Forgets bot) at.lawful (at.bot_is, none)

  pub forgets_lawful : (may : List Act → Act → Type 0) (past new : List Act) (bot : Bot) → IsAt promised names station may past bot
      → link_version bot.link ≡ 0 → new ≡ Forgets bot ∷ past → IsLawful promised names station new
  forgets_lawful may past new bot at none is =
      follows_act {law = May promised names station} [] past new (Forgets bot) at.lawful (at.bot_is, none) is

-- a watcher that allows everything, and was told of a bot just now
pub watched_begun : (promised : Promised) (names : List (List ℕ)) (may : List Act → Act → Type 0) (past new : List Act) (bot : Bot)
    → ((p : List Act) (act : Act) → may p act) → new ≡ Began bot ∷ past → IsWatched promised names may new bot
watched_begun promised names may past new bot allows is =
    record { lets = λ later act further steps. allows later act; bot_is = ap bot_in is }

pub numbers_again : (past new : List Act) (bot : Bot) (last : ℕ) → new ≡ Forgets bot ∷ past → NumbersAbove new last
numbers_again past new bot last is = subst (λ (p : List Act). NumbersAbove p last) (sym is) tt

-- before a process has done anything
pub numbers_first : (past : List Act) (last : ℕ) → past ≡ [] → last ≡ 0 → NumbersAbove past last
numbers_first past last none zero = subst (λ (p : List Act). NumbersAbove p last) (sym none) zero

pub numbers_begin : (past : List Act) (last : ℕ) → NumbersAbove past last → HasNoBot past
numbers_begin [] last numbers = tt
numbers_begin (Opens first second ∷ past) last numbers = absurd numbers
numbers_begin (Creates first second other ∷ past) last numbers = absurd numbers
numbers_begin (Began bot ∷ past) last numbers = absurd numbers
numbers_begin (Told bot event ∷ past) last numbers = absurd numbers
numbers_begin (Made report bot ∷ past) last numbers = absurd numbers
numbers_begin (Forgets bot ∷ past) last numbers = tt
numbers_begin (Hears packets ∷ past) last numbers = absurd numbers
numbers_begin (Sends outgoing ∷ past) last numbers = absurd numbers
numbers_begin (Waits ∷ past) last numbers = absurd numbers
