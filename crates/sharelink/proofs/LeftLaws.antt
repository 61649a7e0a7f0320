-- What a crash leaves of an end's disks, as of a bot's end.
use Rattle.std.proofs.Common.{◌≡◌, ◌⊎◌, ◌<◌, inl, inr, ℕ, zero, suc, List, Option, None, Some, option_map, refl, sym, ap, subst, ◌∙◌, arith}
use Rattle.std.specs.Prelude.{IsSome}
use Rattle.bytetext.specs.declared.failure.Failure.TheVariants.{Refused}
use Rattle.disks.specs.State.{State}
use Rattle.bytejournal.specs.declared.fault.JournalFault.TheVariants.{NotAJournal}
use Rattle.botjournal.specs.Contents.{Contents}
use Rattle.botjournal.specs.Recovery.{IsJournal}
use Rattle.protocol.specs.Network.{Restart}
use Rattle.protocol.specs.Bots.{Works, Counts}
use Rattle.protocol.specs.HubRules.{Hub, hub_folded}
use Rattle.protocol.specs.LeafRules.{Leaf, leaf_folded}
use Rattle.protocol.specs.Journals.{hub_meaning, leaf_meaning}
use Rattle.sharelink.specs.Kept.{MeansEither, AreOf as KeptAreOf}
use Rattle.botjournal.specs.Ledger.{Device, AtEachMoment}
use Rattle.protocol.specs.Ends.{AtHub, AtLeaf}
use Rattle.sharelink.specs.HubLinks.{HubEnd, IsOwn as HubIsOwn}
use Rattle.sharelink.specs.LeafLinks.{LeafEnd, IsOwn as LeafIsOwn}
use Rattle.sharelink.specs.BotEnds.{hub_end, leaf_end}
use Rattle.sharelink.specs.BotLinks.{BotEnd, did, hub_at_rest, leaf_at_rest, end_meaning, AreOf, LeavesOwn}
use Rattle.sharelink.specs.BotOpening.{FindsNone, AreBots}

pub hub_left : (hub : HubEnd) (x y : List ℕ) → KeptAreOf (hub_meaning hub.leaves) hub_folded hub.bot.kept hub.bot.doubt x y → AreOf (hub_end hub) x y
hub_left hub x y is = record {
  mean = record { contents = is.contents; found = is.found; means = by is.means };
  first_whole = is.first_whole;
  second_whole = is.second_whole;
}
  where
    by : MeansEither (hub_meaning hub.leaves) hub_folded hub.bot.kept hub.bot.doubt is.contents
        → (end_meaning 0 hub.leaves is.contents ≡ Some (did (hub_end hub) Restart Works).after)
        ⊎ (end_meaning 0 hub.leaves is.contents ≡ Some (did (hub_end hub) Restart Counts).after)
    by (inl m) = inl (ap (option_map hub_at_rest) m)
    by (inr m) = inr (ap (option_map hub_at_rest) m)

pub leaf_left : (leaf : LeafEnd) (x y : List ℕ) → 0 < leaf.number → KeptAreOf (leaf_meaning leaf.number) leaf_folded leaf.bot.kept leaf.bot.doubt x y
    → AreOf (leaf_end leaf) x y
leaf_left leaf x y numbered is = record {
  mean = record { contents = is.contents; found = is.found; means = by leaf.number numbered is.means };
  first_whole = is.first_whole;
  second_whole = is.second_whole;
}
  where
    by : (number : ℕ) → 0 < number → MeansEither (leaf_meaning number) leaf_folded leaf.bot.kept leaf.bot.doubt is.contents
        → (end_meaning number leaf.leaves is.contents ≡ Some (did (leaf_end leaf) Restart Works).after)
        ⊎ (end_meaning number leaf.leaves is.contents ≡ Some (did (leaf_end leaf) Restart Counts).after)
    by zero numbered m = absurd (omega (arith, numbered))
    by (suc place) numbered (inl m) = inl (ap (option_map leaf_at_rest) m)
    by (suc place) numbered (inr m) = inr (ap (option_map leaf_at_rest) m)

-- ---- at each moment of a call

-- whatever the end leaves
pub hub_crashes : (old : HubEnd) (bot : Hub) (before now : Device) → AtEachMoment before now (HubIsOwn old.leaves bot)
    → LeavesOwn (record (hub_end old) { end = AtHub bot }) before now
hub_crashes old bot before now m = record {
  first_later = m.first_later;
  second_later = m.second_later;
  each = λ x y left right. hub_left (record old { bot = bot }) x y (m.each x y left right);
}

pub leaf_crashes : (old : LeafEnd) (bot : Leaf) (before now : Device) → 0 < old.number → AtEachMoment before now (LeafIsOwn old.number bot)
    → LeavesOwn (record (leaf_end old) { end = AtLeaf bot }) before now
leaf_crashes old bot before now numbered m = record {
  first_later = m.first_later;
  second_later = m.second_later;
  each = λ x y left right. leaf_left (record old { bot = bot }) x y numbered (m.each x y left right);
}

-- ---- opening the disks again

-- what a bot left is a journal of the bot
pub left-bots : (link : BotEnd) (x y : List ℕ) → AreOf link x y → AreBots link.number link.leaves x y
left-bots link x y own = by own.mean.means
  where
    by : (end_meaning link.number link.leaves own.mean.contents ≡ Some (did link Restart Works).after)
        ⊎ (end_meaning link.number link.leaves own.mean.contents ≡ Some (did link Restart Counts).after)
        → AreBots link.number link.leaves x y
    by (inl works) = record {
      contents = own.mean.contents;
      found = own.mean.found;
      end = (did link Restart Works).after;
      means = works;
      first_whole = own.first_whole;
      second_whole = own.second_whole;
    }
    by (inr counts) = record {
      contents = own.mean.contents;
      found = own.mean.found;
      end = (did link Restart Counts).after;
      means = counts;
      first_whole = own.first_whole;
      second_whole = own.second_whole;
    }

-- a journal of a bot is a journal, and no other bot's
pub bots-never_refused : {D : Type 0} (state : D → State) (number leaves : ℕ) (first second first' second' : D)
    → AreBots number leaves (state first).seen (state second).seen
    → FindsNone state number leaves first second (Refused NotAJournal) first' second' → ⊥
bots-never_refused state number leaves first second first' second' own why = by why
  where
    journal : IsJournal (state first).seen (state second).seen
    journal = record {
      some = subst (λ (o : Option Contents). IsSome o) (sym own.found) refl;
      first_whole = own.first_whole;
      second_whole = own.second_whole;
    }

    by : FindsNone state number leaves first second (Refused NotAJournal) first' second' → ⊥
    by (inl none) = none journal
    by (inr another) =
        let both : Some another.contents ≡ Some own.contents = sym another.found ∙ own.found in
        let same : another.contents ≡ own.contents = cc in
        let nothing : end_meaning number leaves own.contents ≡ None =
        ap (λ (c : Contents). end_meaning number leaves c) (sym same) ∙ another.means in
        let no : Some own.end ≡ None = sym own.means ∙ nothing in
        absurd (cc)

pub never_refused : {D : Type 0} (state : D → State) (link : BotEnd) (first second first' second' : D)
    → AreOf link (state first).seen (state second).seen
    → FindsNone state link.number link.leaves first second (Refused NotAJournal) first' second' → ⊥
never_refused state link first second first' second' own =
    bots-never_refused state link.number link.leaves first second first' second' (left-bots link (state first).seen (state second).seen own)
