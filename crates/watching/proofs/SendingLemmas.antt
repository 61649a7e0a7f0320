-- Packets that are queued, and a process that is up: its connections were told all that its bot has reported.
use Rattle.std.proofs.Common.{◌≡◌, ◌∙◌, inr, ℕ, List, [], ◌∷◌, ◌++◌, drop, Some, refl, sym, ap, subst, append-nil}
use Rattle.procs.specs.Promises.{Promised}
use Rattle.sharelink.specs.declared.answer.Outgoing.{Outgoing}
use Rattle.sharewire.specs.declared.packet.Packet.{Packet}
use Rattle.botcore.specs.declared.event.BotEvent.{BotEvent}
use Rattle.botcore.specs.declared.report.Report.{Report}
use Rattle.botcore.specs.Bots.{Bot}
use Rattle.watching.specs.Acts.{Act, Opens, Creates, Began, Told, Made, Forgets, Hears, Sends, Waits, Station, MayStep, May, HasTicked, bot_in, sent_by, unsent}
use Rattle.watching.specs.Following.{Follows, Lets, HasBegun, IsWatched, IsLawful, Allows, IsEven, IsReported, IsSettled, IsUp, LetsSend, SaysNothing, StepsQuietly, after_sends}
use Rattle.watching.specs.Following.Follows.{so_far, more}
use Rattle.watching.proofs.FollowingLemmas.{follows_act, follows_on, lets_on, at_begun, at_same, at_stepped}

-- ---- packets that are queued, one after another

pub after_append : (first second : List Outgoing) (past : List Act)
    → after_sends (first ++ second) past ≡ after_sends second (after_sends first past)
after_append [] second past = refl
after_append (outgoing ∷ first) second past = after_append first second (Sends outgoing ∷ past)

-- the packets of two lists
pub lets_first : (may : List Act → Act → Type 0) (first second : List Outgoing) (past : List Act) → LetsSend may past (first ++ second)
    → LetsSend may past first
lets_first may [] second past lets = tt
lets_first may (outgoing ∷ first) second past lets = (lets.0, lets_first may first second (Sends outgoing ∷ past) lets.1)

pub lets_second : (may : List Act → Act → Type 0) (first second : List Outgoing) (past : List Act) → LetsSend may past (first ++ second)
    → LetsSend may (after_sends first past) second
lets_second may [] second past lets = lets
lets_second may (outgoing ∷ first) second past lets = lets_second may first second (Sends outgoing ∷ past) lets.1

bot_after_sends : (packets : List Outgoing) (past : List Act) → bot_in (after_sends packets past) ≡ bot_in past
bot_after_sends [] past = refl
bot_after_sends (outgoing ∷ packets) past = bot_after_sends packets (Sends outgoing ∷ past)

ticked_after_sends : (packets : List Outgoing) (past : List Act) → HasTicked past → HasTicked (after_sends packets past)
ticked_after_sends [] past ticked = ticked
ticked_after_sends (outgoing ∷ packets) past ticked = ticked_after_sends packets (Sends outgoing ∷ past) ticked

unsent_after_sends : (packets left : List Outgoing) (past : List Act) → unsent past ≡ packets ++ left
    → unsent (after_sends packets past) ≡ left
unsent_after_sends [] left past all = all
unsent_after_sends (outgoing ∷ packets) left past all =
    unsent_after_sends packets left (Sends outgoing ∷ past) (ap (λ (l : List Outgoing). drop 1 l) all)

-- ---- acts that say nothing to other bots

pub quiet_same : (past new : List Act) → new ≡ past → SaysNothing past new
quiet_same past new is = record { unsent_is = ap unsent is; sent_is = ap sent_by is }

pub quiet_heard : (past new : List Act) (packets : List Packet) → new ≡ Hears packets ∷ past → SaysNothing past new
quiet_heard past new packets is = record { unsent_is = ap unsent is; sent_is = ap sent_by is }

-- a step that reports no packets
pub quiet_step : (past new : List Act) (report : Report) (was after : Bot) (event : BotEvent)
    → new ≡ Made report after ∷ Told was event ∷ past → report.packets ≡ [] → SaysNothing past new
quiet_step past new report was after event is none = record {
  unsent_is = ap unsent is ∙ ap (λ (l : List Outgoing). unsent past ++ l) none ∙ append-nil (unsent past);
  sent_is = ap sent_by is;
}

pub quiet_on : {past mid new : List Act} → SaysNothing past mid → SaysNothing mid new → SaysNothing past new
quiet_on far further =
    record { unsent_is = further.unsent_is ∙ far.unsent_is; sent_is = further.sent_is ∙ far.sent_is }

module _ (promised : Promised) (names : List (List ℕ)) where
  -- ---- the packets that are unsent

  -- the first of them may be queued
  pub lets_send : (may : List Act → Act → Type 0) (bot : Bot) (packets left : List Outgoing) (past : List Act)
      → Lets (MayStep promised names) may past → bot_in past ≡ Some bot → unsent past ≡ packets ++ left → LetsSend may past packets
  lets_send may bot [] left past lets is all = tt
  lets_send may bot (outgoing ∷ packets) left past lets is all =
      let due : MayStep promised names past (Sends outgoing) = ((bot, is), (packets ++ left, all)) in (
        lets past (Sends outgoing) so_far due,
        lets_send may bot packets left (Sends outgoing ∷ past) (lets_on {law = MayStep promised names} may lets (more so_far due)) is
            (ap (λ (l : List Outgoing). drop 1 l) all),
      )

  sends_follow : (bot : Bot) (packets left : List Outgoing) (past : List Act) → bot_in past ≡ Some bot → unsent past ≡ packets ++ left
      → Follows (MayStep promised names) past (after_sends packets past)
  sends_follow bot [] left past is all = so_far
  sends_follow bot (outgoing ∷ packets) left past is all =
      let due : MayStep promised names past (Sends outgoing) = ((bot, is), (packets ++ left, all)) in
      follows_on {law = MayStep promised names} (more so_far due)
      (sends_follow bot packets left (Sends outgoing ∷ past) is (ap (λ (l : List Outgoing). drop 1 l) all))

  sends_watched : (may : List Act → Act → Type 0) (bot : Bot) (packets left : List Outgoing) (past : List Act)
      → IsWatched promised names may past bot → unsent past ≡ packets ++ left → IsWatched promised names may (after_sends packets past) bot
  sends_watched may bot packets left past watched all = record {
    lets = lets_on {law = MayStep promised names} may watched.lets (sends_follow bot packets left past watched.bot_is all);
    bot_is = bot_after_sends packets past ∙ watched.bot_is;
  }

  -- ---- a bot that was told the time

  ticked_by : (past : List Act) (act : Act) → MayStep promised names past act → HasTicked past → HasTicked (act ∷ past)
  ticked_by past (Opens first second) lawful ticked = absurd lawful
  ticked_by past (Creates first second last) lawful ticked = absurd lawful
  ticked_by past (Began bot) lawful ticked = absurd lawful
  ticked_by past (Told bot event) lawful ticked = inr ticked
  ticked_by past (Made report bot) lawful ticked = ticked
  ticked_by past (Forgets bot) lawful ticked = absurd lawful
  ticked_by past (Hears packets) lawful ticked = ticked
  ticked_by past (Sends outgoing) lawful ticked = ticked
  ticked_by past Waits lawful ticked = absurd lawful

  pub ticked_on : {past new : List Act} → Follows (MayStep promised names) past new → HasTicked past → HasTicked new
  ticked_on so_far ticked = ticked
  ticked_on (more far lawful) ticked = ticked_by _ _ lawful (ticked_on far ticked)

  -- ---- steps that say nothing

  pub quietly_stays : (may : List Act → Act → Type 0) (past : List Act) (bot : Bot) → IsWatched promised names may past bot
      → StepsQuietly promised names may past past bot
  quietly_stays may past bot watched = record { follows = so_far; watched = watched; quiet = quiet_same past past refl }

  pub quietly_on : (may : List Act → Act → Type 0) (past mid new : List Act) (was bot : Bot) → StepsQuietly promised names may past mid was
      → StepsQuietly promised names may mid new bot → StepsQuietly promised names may past new bot
  quietly_on may past mid new was bot far further = record {
    follows = follows_on {law = MayStep promised names} far.follows further.follows;
    watched = further.watched;
    quiet = quiet_on far.quiet further.quiet;
  }

  -- ---- a process that is up

  module _ (station : Station) (may : List Act → Act → Type 0) where
    pub up_begun : (past new : List Act) (bot : Bot) (told : List Outgoing) → Allows promised names station may
        → IsLawful promised names station past → HasBegun station past new bot → told ≡ [] → IsUp promised names station may new bot told
    up_begun past new bot told allows lawful begun none = record {
      even = record {
        at = at_begun promised names station may past new bot allows lawful begun;
        settled = record { unsent_is = begun.unsent_is; told_is = none ∙ sym begun.sent_is };
      };
      ticked = begun.ticked;
    }

    pub up_same : (past : List Act) (was bot : Bot) (told now : List Outgoing) → bot ≡ was → now ≡ told
        → IsUp promised names station may past was told → IsUp promised names station may past bot now
    up_same past was bot told now same still up = record {
      even = record {
        at = at_same promised names station may past was bot same up.even.at;
        settled = record { unsent_is = up.even.settled.unsent_is; told_is = still ∙ up.even.settled.told_is };
      };
      ticked = up.ticked;
    }

    even_watched : (past new : List Act) (was bot : Bot) (told now : List Outgoing) → IsEven promised names station may past was told
        → Follows (MayStep promised names) past new → IsWatched promised names may new bot → IsSettled new now
        → IsEven promised names station may new bot now
    even_watched past new was bot told now even further watched settled =
        record { at = at_stepped promised names station may past new was bot even.at further watched; settled = settled }

    -- by steps that leave nothing to be queued
    pub up_settled : (past new : List Act) (was bot : Bot) (told now : List Outgoing) → IsUp promised names station may past was told
        → Follows (MayStep promised names) past new → IsWatched promised names may new bot → IsSettled new now
        → IsUp promised names station may new bot now
    up_settled past new was bot told now up further watched settled = record {
      even = even_watched past new was bot told now up.even further watched settled;
      ticked = ticked_on further up.ticked;
    }

    pub up_reported : (past new : List Act) (was bot : Bot) (told now : List Outgoing) → IsUp promised names station may past was told
        → IsReported promised names may past new bot now → IsUp promised names station may new bot now
    up_reported past new was bot told now up led = up_settled past new was bot told now up led.follows led.watched led.settled

    settled_still : (past new : List Act) (told now : List Outgoing) → IsSettled past told → SaysNothing past new → now ≡ told
        → IsSettled new now
    settled_still past new told now settled quiet still = record {
      unsent_is = quiet.unsent_is ∙ settled.unsent_is;
      told_is = still ∙ settled.told_is ∙ sym quiet.sent_is;
    }

    pub up_quiet : (past new : List Act) (was bot : Bot) (told now : List Outgoing) → IsUp promised names station may past was told
        → StepsQuietly promised names may past new bot → now ≡ told → IsUp promised names station may new bot now
    up_quiet past new was bot told now up quietly still =
        up_settled past new was bot told now up quietly.follows quietly.watched
        (settled_still past new told now up.even.settled quietly.quiet still)

    -- by packets that are taken
    pub even_heard : (past new : List Act) (bot : Bot) (told now : List Outgoing) → IsEven promised names station may past bot told
        → Follows (MayStep promised names) past new → IsWatched promised names may new bot → SaysNothing past new → now ≡ told
        → IsEven promised names station may new bot now
    even_heard past new bot told now even further watched quiet still =
        even_watched past new bot bot told now even further watched (settled_still past new told now even.settled quiet still)

    -- by steps whose packets are queued then
    pub up_sent : (past mid new : List Act) (was bot after : Bot) (told now packets left : List Outgoing)
        → IsEven promised names station may past was told → Follows (MayStep promised names) past mid
        → IsWatched promised names may mid bot → unsent mid ≡ unsent past ++ (packets ++ left) → left ≡ [] → HasTicked mid
        → new ≡ after_sends packets mid → after ≡ bot → now ≡ sent_by new → IsUp promised names station may new after now
    up_sent past mid new was bot after told now packets left even further watched queued none ticked is same says =
        up_same new bot after now now same refl (record {
          even = even_watched past new was bot told now even
              (subst (λ (p : List Act). Follows (MayStep promised names) past p) (sym is)
              (follows_on {law = MayStep promised names} further (sends_follow bot packets left mid watched.bot_is all)))
              (subst (λ (p : List Act). IsWatched promised names may p bot) (sym is) (sends_watched may bot packets left mid watched all))
              (record { unsent_is = ap unsent is ∙ unsent_after_sends packets left mid all ∙ none; told_is = says });
          ticked = subst HasTicked (sym is) (ticked_after_sends packets mid ticked);
        })
      where
        all : unsent mid ≡ packets ++ left
        all = queued ∙ ap (λ (l : List Outgoing). l ++ (packets ++ left)) even.settled.unsent_is

    -- the watcher lets the packets of such steps be queued
    pub lets_all : (past mid : List Act) (was bot : Bot) (told packets left : List Outgoing)
        → IsEven promised names station may past was told → IsWatched promised names may mid bot
        → unsent mid ≡ unsent past ++ (packets ++ left) → LetsSend may mid packets
    lets_all past mid was bot told packets left even watched queued =
        lets_send may bot packets left mid watched.lets watched.bot_is
        (queued ∙ ap (λ (l : List Outgoing). l ++ (packets ++ left)) even.settled.unsent_is)

    -- a process that is up may wait, and is even then
    pub may_rest : (past : List Act) (bot : Bot) (told : List Outgoing) → IsUp promised names station may past bot told → may past Waits
    may_rest past bot told up =
        up.even.at.allows past Waits up.even.at.lawful ((bot, up.even.at.bot_is), up.even.settled.unsent_is, up.ticked)

    pub even_rested : (past new : List Act) (bot : Bot) (told : List Outgoing) → IsUp promised names station may past bot told
        → new ≡ Waits ∷ past → IsEven promised names station may new bot told
    even_rested past new bot told up is = record {
      at = record {
        allows = up.even.at.allows;
        lawful = follows_act {law = May promised names station} [] past new Waits up.even.at.lawful
            ((bot, up.even.at.bot_is), up.even.settled.unsent_is, up.ticked) is;
        bot_is = ap bot_in is ∙ up.even.at.bot_is;
      };
      settled = record {
        unsent_is = ap unsent is ∙ up.even.settled.unsent_is;
        told_is = up.even.settled.told_is ∙ sym (ap sent_by is);
      };
    }

  -- ---- one step whose packets are queued then, of a bot that is watched

  reported_all : (past mid : List Act) (report : Report) (was after : Bot) (event : BotEvent) (told : List Outgoing) → IsSettled past told
      → mid ≡ Made report after ∷ Told was event ∷ past → unsent mid ≡ report.packets ++ []
  reported_all past mid report was after event told settled is =
      ap unsent is ∙ ap (λ (l : List Outgoing). l ++ report.packets) settled.unsent_is ∙ sym (append-nil report.packets)

  pub reported_lets : (may : List Act → Act → Type 0) (past mid : List Act) (bot : Bot) (report : Report) (was after : Bot) (event : BotEvent)
      (told : List Outgoing) → IsSettled past told → IsWatched promised names may mid bot
      → mid ≡ Made report after ∷ Told was event ∷ past → LetsSend may mid report.packets
  reported_lets may past mid bot report was after event told settled watched is =
      lets_send may bot report.packets [] mid watched.lets watched.bot_is (reported_all past mid report was after event told settled is)

  -- and where that leads
  pub reported : (may : List Act → Act → Type 0) (past mid new : List Act) (bot : Bot) (report : Report) (was after : Bot) (event : BotEvent)
      (told now : List Outgoing) → IsSettled past told → Follows (MayStep promised names) past mid → IsWatched promised names may mid bot
      → mid ≡ Made report after ∷ Told was event ∷ past → new ≡ after_sends report.packets mid → now ≡ sent_by new
      → IsReported promised names may past new bot now
  reported may past mid new bot report was after event told now settled further watched is sends says = record {
    follows = subst (λ (p : List Act). Follows (MayStep promised names) past p) (sym sends)
        (follows_on {law = MayStep promised names} further (sends_follow bot report.packets [] mid watched.bot_is all));
    watched = subst (λ (p : List Act). IsWatched promised names may p bot) (sym sends) (sends_watched may bot report.packets [] mid watched all);
    settled = record { unsent_is = ap unsent sends ∙ unsent_after_sends report.packets [] mid all; told_is = says };
  }
    where
      all : unsent mid ≡ report.packets ++ []
      all = reported_all past mid report was after event told settled is
