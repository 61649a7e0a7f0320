-- Packets that are heard, and steps that take them.
use Rattle.std.proofs.Common.{◌≡◌, inl, inr, ℕ, List, [], ◌∷◌, refl, sym, subst}
use Rattle.std.specs.List.{AllByRecursion}
use Rattle.sharewire.specs.declared.packet.Packet.{Packet}
use Rattle.procs.specs.Promises.{Promised}
use Rattle.botcore.specs.declared.event.BotEvent.{BotEvent}
use Rattle.botcore.specs.declared.event.BotEvent.TheVariants.{Connect, Line, Ask, Pump, Receive, Clock, Bind, Unbind, Compact, Restart}
use Rattle.botcore.specs.Bots.{Bot}
use Rattle.watching.specs.Acts.{Act, Opens, Creates, Began, Told, Made, Forgets, Hears, Sends, Waits, MayStep, MayTake, IsOneOf, IsHeard}
use Rattle.watching.specs.Following.{Follows, IsWatched}
use Rattle.watching.specs.Following.Follows.{so_far, more}
use Rattle.watching.proofs.FollowingLemmas.{lets_on}

-- ---- packets that are heard just now

all_one_of : (packets all : List Packet) → ((p : Packet) → IsOneOf packets p → IsOneOf all p)
    → AllByRecursion (IsOneOf all) packets
all_one_of [] all within = tt
all_one_of (packet ∷ packets) all within =
    (within packet (inl refl), all_one_of packets all (λ p is. within p (inr is)))

all_heard_in : (past : List Act) (packets all : List Packet) → AllByRecursion (IsOneOf all) packets
    → AllByRecursion (IsHeard (Hears all ∷ past)) packets
all_heard_in past [] all are = tt
all_heard_in past (packet ∷ packets) all are = (inl are.0, all_heard_in past packets all are.1)

pub all_heard : (past new : List Act) (packets : List Packet) → new ≡ Hears packets ∷ past
    → AllByRecursion (IsHeard new) packets
all_heard past new packets is = subst (λ (p : List Act). AllByRecursion (IsHeard p) packets) (sym is)
    (all_heard_in past packets packets (all_one_of packets packets (λ p one. one)))

module _ (promised : Promised) (names : List (List ℕ)) where
  -- ---- a bot that is watched may hear

  module _ (may : List Act → Act → Type 0) (past : List Act) (bot : Bot) (watched : IsWatched promised names may past bot) where
    pub may_hear : (packets : List Packet) → may past (Hears packets)
    may_hear packets = watched.lets past (Hears packets) so_far (bot, watched.bot_is)

    heard : (packets : List Packet) → Follows (MayStep promised names) past (Hears packets ∷ past)
    heard packets = more so_far (bot, watched.bot_is)

    module _ (new : List Act) (packets : List Packet) (is : new ≡ Hears packets ∷ past) where
      pub hears_follows : Follows (MayStep promised names) past new
      hears_follows = subst (λ (p : List Act). Follows (MayStep promised names) past p) (sym is) (heard packets)

      pub hears_watched : IsWatched promised names may new bot
      hears_watched = subst (λ (p : List Act). IsWatched promised names may p bot) (sym is)
          (record { lets = lets_on {law = MayStep promised names} may watched.lets (heard packets); bot_is = watched.bot_is })

  -- ---- what was heard stays so while the bot makes steps

  heard_by : (past : List Act) (act : Act) (packet : Packet) → MayStep promised names past act → IsHeard past packet
      → IsHeard (act ∷ past) packet
  heard_by past (Opens first second) packet lawful is = absurd lawful
  heard_by past (Creates first second last) packet lawful is = absurd lawful
  heard_by past (Began bot) packet lawful is = absurd lawful
  heard_by past (Told bot event) packet lawful is = is
  heard_by past (Made report bot) packet lawful is = is
  heard_by past (Forgets bot) packet lawful is = absurd lawful
  heard_by past (Hears packets) packet lawful is = inr is
  heard_by past (Sends outgoing) packet lawful is = is
  heard_by past Waits packet lawful is = absurd lawful

  heard_on : {past new : List Act} (packet : Packet) → Follows (MayStep promised names) past new → IsHeard past packet
      → IsHeard new packet
  heard_on packet so_far is = is
  heard_on packet (more far lawful) is = heard_by _ _ packet lawful (heard_on packet far is)

  takes_on : {past new : List Act} (event : BotEvent) → Follows (MayStep promised names) past new → MayTake past event
      → MayTake new event
  takes_on Connect far takes = tt
  takes_on (Line line) far takes = tt
  takes_on (Ask change) far takes = tt
  takes_on Pump far takes = tt
  takes_on (Receive packet) far takes = heard_on packet far takes
  takes_on (Clock now) far takes = tt
  takes_on (Bind asked) far takes = tt
  takes_on (Unbind gone) far takes = tt
  takes_on Compact far takes = tt
  takes_on Restart far takes = absurd takes

  -- so events that may be taken now may be taken later
  pub all_take_on : {past new : List Act} (events : List BotEvent) → Follows (MayStep promised names) past new
      → AllByRecursion (MayTake past) events → AllByRecursion (MayTake new) events
  all_take_on [] far takes = tt
  all_take_on (event ∷ events) far takes = (takes_on event far takes.0, all_take_on events far takes.1)
