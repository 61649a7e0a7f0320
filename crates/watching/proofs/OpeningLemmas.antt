-- A bot that begins: what the watcher is told is lawful.
use Rattle.std.proofs.Common.{◌≡◌, ◌∙◌, ◌+◌, ℕ, List, [], ◌∷◌, Ok, refl, sym, ap, subst}
use Rattle.disks.specs.State.{State}
use Rattle.botjournal.specs.Contents.{meaning}
use Rattle.sharelink.specs.BotOpening.{IsKeptOf}
use Rattle.botcore.specs.declared.config.Config.{Config}
use Rattle.botcore.specs.Bots.{Bot, begun, bot_after}
use Rattle.botcore.specs.Making.{Finds, MakesAfter}
use Rattle.watching.specs.Openings.{IsOpened}
use Rattle.watching.specs.Acts.{Act, Opens, Creates, Began, Station, MayBegin, HasNoBot, NumbersAbove, Begins, IsBotOf, IsKept, station_in}
use Rattle.watching.specs.Following.{Follows, Lets, HasBegun}
use Rattle.watching.specs.Following.Follows.{so_far, more}

-- ---- any bot that begins

module _ (station : Station) (may : List Act → Act → Type 0) (past mid : List Act) (act : Act) (bot : Bot)
    (lets : Lets (MayBegin station) may past) (mid_is : mid ≡ act ∷ past) (lawful : MayBegin station past act)
    (begins : Begins (act ∷ past) bot) (of : IsBotOf station bot) (kept : IsKept bot) where
  first : Follows (MayBegin station) past (act ∷ past)
  first = more so_far lawful

  may_begin : may mid (Began bot)
  may_begin = subst (λ (p : List Act). may p (Began bot)) (sym mid_is) (lets (act ∷ past) (Began bot) first (begins, of, kept))

  has_begun : (new : List Act) → new ≡ Began bot ∷ mid → HasBegun station past new bot
  has_begun new new_is =
      subst (λ (p : List Act). HasBegun station past p bot) (sym (new_is ∙ ap (λ (p : List Act). Began bot ∷ p) mid_is))
      (record { follows = more first (begins, of, kept); bot_is = refl; unsent_is = refl; sent_is = refl; ticked = tt })

-- ---- a bot that is opened from two disks

module _ {D : Type 0} (state : D → State) (config : Config) (one other : D) (may : List Act → Act → Type 0) (past : List Act)
    (lets : Lets (MayBegin (station_in config)) may past) (before : HasNoBot past) where
  abbrev opens : Act
  opens = Opens (state one).seen (state other).seen

  pub may_open : may past opens
  may_open = lets past opens so_far before

  module _ (mid : List Act) (bot : Bot) (mid_is : mid ≡ opens ∷ past) (found : Finds state config one other (Ok bot)) (kept : IsKept bot) where
    same : config ≡ bot.config
    same = sym (ap (λ (b : Bot). b.config) found.2)

    opened : IsOpened bot.config.number (bot.config.leaves + 1) (state one).seen (state other).seen bot
    opened = record {
      number = refl;
      leaves = refl;
      kept = subst (λ (c : Config). IsKeptOf c.number c.leaves (meaning (state one).seen (state other).seen) bot.link.end) same found.1.0;
      link = subst (λ (c : Config). bot.link ≡ record { number = c.number; leaves = c.leaves; end = bot.link.end; device = bot.link.device })
          same found.1.1;
      anew = subst (λ (c : Config). bot ≡ begun c bot.link) same found.2;
    }

    opened_of : IsBotOf (station_in config) bot
    opened_of = (ap (λ (b : Bot). b.config.number) found.2, ap (λ (b : Bot). b.config.leaves) found.2)

    pub may_begin_opened : may mid (Began bot)
    may_begin_opened = may_begin (station_in config) may past mid opens bot lets mid_is before opened opened_of kept

    pub has_begun_opened : (new : List Act) → new ≡ Began bot ∷ mid → HasBegun (station_in config) past new bot
    has_begun_opened = has_begun (station_in config) may past mid opens bot lets mid_is before opened opened_of kept

-- ---- a bot that is created

module _ {D : Type 0} (state : D → State) (config : Config) (one other : D) (last : ℕ) (may : List Act → Act → Type 0) (past : List Act)
    (lets : Lets (MayBegin (station_in config)) may past) (numbers : NumbersAbove past last) (first_empty : (state one).seen ≡ [])
    (second_empty : (state other).seen ≡ []) where
  abbrev creates : Act
  creates = Creates (state one).seen (state other).seen last

  may_be_created : MayBegin (station_in config) past creates
  may_be_created = (numbers, first_empty, second_empty)

  pub may_create : may past creates
  may_create = lets past creates so_far may_be_created

  module _ (mid : List Act) (bot : Bot) (mid_is : mid ≡ creates ∷ past) (made : MakesAfter state config one other last (Ok bot))
      (kept : IsKept bot) where
    created : bot ≡ bot_after bot.config last bot.link.device
    created = subst (λ (c : Config). bot ≡ bot_after c last bot.link.device) (sym (ap (λ (b : Bot). b.config) made.1)) made.1

    created_of : IsBotOf (station_in config) bot
    created_of = (ap (λ (b : Bot). b.config.number) made.1, ap (λ (b : Bot). b.config.leaves) made.1)

    pub may_begin_created : may mid (Began bot)
    may_begin_created = may_begin (station_in config) may past mid creates bot lets mid_is may_be_created created created_of kept

    pub has_begun_created : (new : List Act) → new ≡ Began bot ∷ mid → HasBegun (station_in config) past new bot
    has_begun_created = has_begun (station_in config) may past mid creates bot lets mid_is may_be_created created created_of kept
