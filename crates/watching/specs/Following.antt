-- Pasts that follow one another by lawful acts, and watchers that let them happen.
use Rattle.std.specs.Prelude.{◌≡◌, ℕ, List, [], ◌∷◌, Some}
use Rattle.procs.specs.Promises.{Promised}
use Rattle.sharelink.specs.declared.answer.Outgoing.{Outgoing}
use Rattle.botcore.specs.Bots.{Bot}
use Rattle.watching.specs.Acts.{Act, Sends, Station, MayBegin, MayStep, May, HasTicked, bot_in, sent_by, unsent}

-- A law says which act is lawful after a past. A past follows this one by acts that are lawful, each after those before
-- it.
pub data Follows (law : List Act → Act → Type 0) (start : List Act) : List Act → Type 0 where
  so_far : Follows law start start
  more : {past : List Act} {act : Act} → Follows law start past → law past act → Follows law start (act ∷ past)

-- from this past on a watcher that allows such acts lets everything happen that is lawful
abbrev pub Lets : (law may : List Act → Act → Type 0) → List Act → Type 0
Lets law may start = (past : List Act) (act : Act) → Follows law start past → law past act → may past act

-- a bot of this station has begun since a past, by lawful acts, and nothing has happened since
pub record HasBegun (station : Station) (past new : List Act) (bot : Bot) : Type 0 where
  pub follows : Follows (MayBegin station) past new
  pub bot_is : bot_in new ≡ Some bot
  pub unsent_is : unsent new ≡ []
  pub sent_is : sent_by new ≡ []
  pub ticked : HasTicked new

-- The bot is where this past has led, and the watcher lets each lawful step happen.
pub record IsWatched (promised : Promised) (names : List (List ℕ)) (may : List Act → Act → Type 0) (past : List Act) (bot : Bot)
    : Type 0 where
  pub lets : Lets (MayStep promised names) may past
  pub bot_is : bot_in past ≡ Some bot

-- ---- packets that are queued

-- a past in which these packets are queued, one after another, after what it was
abbrev pub after_sends : List Outgoing → List Act → List Act
after_sends [] past = past
after_sends (outgoing ∷ packets) past = after_sends packets (Sends outgoing ∷ past)

-- the watcher lets these packets be queued, one after another
abbrev pub LetsSend : (may : List Act → Act → Type 0) → List Act → List Outgoing → Type 0
LetsSend may past [] = Unit {0}
LetsSend may past (outgoing ∷ packets) = may past (Sends outgoing) × LetsSend may (Sends outgoing ∷ past) packets

-- the connections were told just what the past says, and all that the bot has reported is among it
pub record IsSettled (past : List Act) (told : List Outgoing) : Type 0 where
  pub unsent_is : unsent past ≡ []
  pub told_is : told ≡ sent_by past

-- nothing that is to be queued has come since a past, and nothing was queued
pub record SaysNothing (past new : List Act) : Type 0 where
  pub unsent_is : unsent new ≡ unsent past
  pub sent_is : sent_by new ≡ sent_by past

-- steps that say nothing to other bots have led to this bot
pub record StepsQuietly (promised : Promised) (names : List (List ℕ)) (may : List Act → Act → Type 0) (past new : List Act)
    (bot : Bot) : Type 0 where
  pub follows : Follows (MayStep promised names) past new
  pub watched : IsWatched promised names may new bot
  pub quiet : SaysNothing past new

-- steps have led to this bot, and the connections were told all that it has reported
pub record IsReported (promised : Promised) (names : List (List ℕ)) (may : List Act → Act → Type 0) (past new : List Act)
    (bot : Bot) (told : List Outgoing) : Type 0 where
  pub follows : Follows (MayStep promised names) past new
  pub watched : IsWatched promised names may new bot
  pub settled : IsSettled new told

module _ (promised : Promised) (names : List (List ℕ)) (station : Station) where
  -- all that a process of this station has done is lawful
  abbrev pub IsLawful : List Act → Type 0
  IsLawful past = Follows (May promised names station) [] past

  -- the watcher of such a process allows each lawful act
  abbrev pub Allows : (List Act → Act → Type 0) → Type 0
  Allows may = Lets (May promised names station) may []

  -- The bot is where a lawful past has led, and the watcher allows each lawful act.
  pub record IsAt (may : List Act → Act → Type 0) (past : List Act) (bot : Bot) : Type 0 where
    pub allows : Allows may
    pub lawful : IsLawful past
    pub bot_is : bot_in past ≡ Some bot

  -- The same, and the connections were told all that the bot has reported, and nothing else.
  pub record IsEven (may : List Act → Act → Type 0) (past : List Act) (bot : Bot) (told : List Outgoing) : Type 0 where
    pub at : IsAt may past bot
    pub settled : IsSettled past told

  -- The same, and the bot was told the time since the process waited last.
  pub record IsUp (may : List Act → Act → Type 0) (past : List Act) (bot : Bot) (told : List Outgoing) : Type 0 where
    pub even : IsEven may past bot told
    pub ticked : HasTicked past
