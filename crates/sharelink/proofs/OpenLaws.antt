-- What the opening of a hub's end, or of a leaf's, says of a bot's end.
use Rattle.std.proofs.Common.{◌≡◌, ◌<◌, inl, inr, ℕ, zero, suc, List, [], Option, Some, option_map, Result, Ok, Err, refl, sym, ap, subst, ◌∙◌, arith}
use Rattle.bytetext.specs.declared.failure.Failure.{Failure}
use Rattle.bytetext.specs.declared.failure.Failure.TheVariants.{Refused, NoMemory}
use Rattle.userfile.specs.declared.change.Change.{Change as UserChange}
use Rattle.disks.specs.State.{State}
use Rattle.bytejournal.specs.declared.fault.JournalFault.{JournalFault}
use Rattle.bytejournal.specs.declared.fault.JournalFault.TheVariants.{DiskFault, NotAJournal, Spent, GenerationsSpent}
use Rattle.bytejournal.specs.declared.opening.Returned.{Returned}
use Rattle.bytejournal.specs.Meaning.{IsWhole}
use Rattle.botjournal.specs.Contents.{Contents, meaning}
use Rattle.botjournal.specs.Ledger.{Device, AtEachMoment, device_on}
use Rattle.protocol.specs.HubRules.{HubState, HubRecord}
use Rattle.protocol.specs.LeafRules.{LeafState, LeafRecord, no_loose}
use Rattle.protocol.specs.Journals.{hub_meaning, leaf_meaning}
use Rattle.sharelink.specs.StateOpening.{Keeps, AreKept, IsLeftOf, KeepsGates, FindsNone as FindsNoEnd, MeanTheSame as StaySo, LeavesFound, device_after}
use Rattle.sharelink.specs.StateEnds.{Opens as EndOpens}
use Rattle.protocol.specs.Ends.{End, AtHub, AtLeaf}
use Rattle.sharelink.specs.HubLinks.{HubEnd, RenewsHub}
use Rattle.sharelink.specs.LeafLinks.{LeafEnd, RenewsLeaf}
use Rattle.sharelink.specs.BotEnds.{hub_end, leaf_end}
use Rattle.sharelink.specs.BotLinks.{hub_at_rest, leaf_at_rest, end_meaning, compacted, RenewsEnd}
use Rattle.sharelink.specs.BotLinks.{BotEnd}
use Rattle.sharelink.specs.BotOpening.{AreBots, IsKeptOf, IsLeft, FindsNone, Opens, OpensAtEachMoment, StaysBots}

-- ---- an end of either kind, as a bot's

module _ {S : Type 0} (number leaves : ℕ) (state_of : Contents → Option S) (Becomes : S → S → Type 0) (lift : S → End)
    (meant : (contents : Contents) → end_meaning number leaves contents ≡ option_map lift (state_of contents))
    (becomes : (before kept : S) → Becomes before kept → lift kept ≡ compacted number leaves (lift before)) where
  meant_some : (contents : Contents) (kept : S) → state_of contents ≡ Some kept → end_meaning number leaves contents ≡ Some (lift kept)
  meant_some contents kept is = meant contents ∙ ap (option_map lift) is

  keeps-of : (contents : Contents) (before kept : S) → Keeps state_of Becomes contents before kept
      → Keeps (end_meaning number leaves) (RenewsEnd number leaves) contents (lift before) (lift kept)
  keeps-of contents before kept (inl is) = inl (is.0, ap lift is.1)
  keeps-of contents before kept (inr is) = inr (is.0, becomes before kept is.1)

  pub kept-of : (given : Option Contents) (kept : S) → AreKept state_of Becomes given kept → IsKeptOf number leaves given (lift kept)
  kept-of given kept is = record {
    contents = is.contents;
    found = is.found;
    before = lift is.before;
    means = meant_some is.contents is.before is.means;
    keeps = keeps-of is.contents is.before kept is.keeps;
  }

  left-of : (given : Option Contents) (x y : List ℕ) → IsLeftOf state_of Becomes given x y → IsLeft number leaves given x y
  left-of given x y (inl same) = inl same
  left-of given x y (inr put) = inr (record {
    contents = put.contents;
    was = put.was;
    older = put.older;
    before = lift put.before;
    means = meant_some put.contents put.before put.means;
    kept = lift put.kept;
    renews = becomes put.before put.kept put.renews;
    anew = put.anew;
    found = put.found;
    current = put.current;
    means_anew = meant_some put.anew put.kept put.means_anew;
  })

  module _ {D : Type 0} (state : D → State) (first second : D) where
    abbrev given : Option Contents
    given = meaning (state first).seen (state second).seen

    pub at-each : (now : Device) → LeavesFound state first second state_of Becomes now
        → LeavesFound state first second (end_meaning number leaves) (RenewsEnd number leaves) now
    at-each now m = record {
      first_later = m.first_later;
      second_later = m.second_later;
      each = λ x y left right. left-of given x y (m.each x y left right);
    }

    none-of : (error : Failure JournalFault) (first' second' : D) → FindsNoEnd state first second state_of Becomes error first' second'
        → FindsNone state number leaves first second error first' second'
    none-of (Refused DiskFault) first' second' is = is
    none-of (Refused NotAJournal) first' second' (inl is) = inl is
    none-of (Refused NotAJournal) first' second' (inr is) = inr (record {
      contents = is.contents;
      found = is.found;
      means = meant is.contents ∙ ap (option_map lift) is.means;
    })
    none-of (Refused Spent) first' second' is = is
    none-of (Refused GenerationsSpent) first' second' is = record {
      contents = is.contents;
      found = is.found;
      before = lift is.before;
      means = meant_some is.contents is.before is.means;
      older = is.older;
      spent = is.spent;
    }
    none-of NoMemory first' second' is = tt

    pub not-found : (returned : Returned D)
        → FindsNoEnd state first second state_of Becomes returned.error returned.disks.first returned.disks.second
        × StaySo state first second state_of Becomes returned.disks.first returned.disks.second
        → Opens state number leaves first second (Err returned)
    not-found returned is = (
      none-of returned.error returned.disks.first returned.disks.second is.0,
      λ x y left right. left-of given x y (is.1 x y left right),
    )

-- ---- the hub's

hub_meant : (leaves : ℕ) (contents : Contents) → end_meaning 0 leaves contents ≡ option_map hub_at_rest (hub_meaning leaves contents)
hub_meant leaves contents = refl

hub_becomes : (leaves : ℕ) (before kept : HubState) → RenewsHub before kept → hub_at_rest kept ≡ compacted 0 leaves (hub_at_rest before)
hub_becomes leaves before kept is = ap hub_at_rest is.1 ∙ rw (is.0) refl

module _ {D : Type 0} (state : D → State) (leaves : ℕ) (first second : D) where
  pub hub_found : (number : ℕ) (hub : HubEnd) → number ≡ 0
      → EndOpens {L = List UserChange} {R = HubRecord} state first second 0 leaves [] (hub_meaning leaves) RenewsHub (Ok hub)
      → Opens state number leaves first second (Ok (hub_end hub))
  hub_found zero hub numbered is = (
    subst (λ (end : End). IsKeptOf 0 leaves (meaning (state first).seen (state second).seen) end)
        (sym (ap (λ (h : HubEnd). AtHub h.bot) is.1))
        (kept-of 0 leaves (hub_meaning leaves) RenewsHub hub_at_rest (hub_meant leaves) (hub_becomes leaves)
        (meaning (state first).seen (state second).seen) hub.bot.kept is.0),
    ap (λ l. record { number = 0; leaves = l; end = AtHub hub.bot; device = hub.device }) (ap (λ (h : HubEnd). h.leaves) is.1),
  )
  hub_found (suc place) hub numbered is = absurd (omega (arith, numbered))

  pub hub_not_found : (number : ℕ) (returned : Returned D) → number ≡ 0
      → EndOpens {L = List UserChange} {R = HubRecord} state first second 0 leaves [] (hub_meaning leaves) RenewsHub (Err returned)
      → Opens state number leaves first second (Err returned)
  hub_not_found zero returned numbered is =
      not-found 0 leaves (hub_meaning leaves) RenewsHub hub_at_rest (hub_meant leaves) (hub_becomes leaves) state first second returned is
  hub_not_found (suc place) returned numbered is = absurd (omega (arith, numbered))

  pub hub_at_each : (number : ℕ) (now : Device) → number ≡ 0 → LeavesFound state first second (hub_meaning leaves) RenewsHub now
      → LeavesFound state first second (end_meaning number leaves) (RenewsEnd number leaves) now
  hub_at_each zero now numbered is =
      at-each 0 leaves (hub_meaning leaves) RenewsHub hub_at_rest (hub_meant leaves) (hub_becomes leaves) state first second now is
  hub_at_each (suc place) now numbered is = absurd (omega (arith, numbered))

-- ---- a leaf's

leaf_meant : (place leaves : ℕ) (contents : Contents)
    → end_meaning (suc place) leaves contents ≡ option_map leaf_at_rest (leaf_meaning (suc place) contents)
leaf_meant place leaves contents = refl

leaf_becomes : (number leaves : ℕ) (before kept : LeafState) → RenewsLeaf before kept
    → leaf_at_rest kept ≡ compacted number leaves (leaf_at_rest before)
leaf_becomes number leaves before kept is = ap leaf_at_rest is.1 ∙ rw (is.0) refl

module _ {D : Type 0} (state : D → State) (leaves : ℕ) (first second : D) where
  pub leaf_found : (number : ℕ) (leaf : LeafEnd) → 0 < number
      → EndOpens {R = LeafRecord} state first second number leaves no_loose (leaf_meaning number) RenewsLeaf (Ok leaf)
      → Opens state number leaves first second (Ok (leaf_end leaf))
  leaf_found zero leaf numbered is = absurd (omega (arith, numbered))
  leaf_found (suc place) leaf numbered is = (
    subst (λ (end : End). IsKeptOf (suc place) leaves (meaning (state first).seen (state second).seen) end)
        (sym (ap (λ (l : LeafEnd). AtLeaf l.bot) is.1))
        (kept-of (suc place) leaves (leaf_meaning (suc place)) RenewsLeaf leaf_at_rest (leaf_meant place leaves) (leaf_becomes (suc place) leaves)
        (meaning (state first).seen (state second).seen) leaf.bot.kept is.0),
    ap (λ (l : LeafEnd). record { number = l.number; leaves = l.leaves; end = AtLeaf leaf.bot; device = leaf.device }) is.1,
  )

  pub leaf_not_found : (number : ℕ) (returned : Returned D) → 0 < number
      → EndOpens {R = LeafRecord} state first second number leaves no_loose (leaf_meaning number) RenewsLeaf (Err returned)
      → Opens state number leaves first second (Err returned)
  leaf_not_found zero returned numbered is = absurd (omega (arith, numbered))
  leaf_not_found (suc place) returned numbered is =
      not-found (suc place) leaves (leaf_meaning (suc place)) RenewsLeaf leaf_at_rest (leaf_meant place leaves)
      (leaf_becomes (suc place) leaves) state first second returned is

  pub leaf_at_each : (number : ℕ) (now : Device) → 0 < number → LeavesFound state first second (leaf_meaning number) RenewsLeaf now
      → LeavesFound state first second (end_meaning number leaves) (RenewsEnd number leaves) now
  leaf_at_each zero now numbered is = absurd (omega (arith, numbered))
  leaf_at_each (suc place) now numbered is =
      at-each (suc place) leaves (leaf_meaning (suc place)) RenewsLeaf leaf_at_rest (leaf_meant place leaves)
      (leaf_becomes (suc place) leaves) state first second now is

-- ---- a bot's journal stays one

module _ {D : Type 0} (state : D → State) (number leaves : ℕ) (first second : D) where
  left_bots : (x y : List ℕ) → AreBots number leaves (state first).seen (state second).seen
      → IsLeft number leaves (meaning (state first).seen (state second).seen) x y → IsWhole x → IsWhole y → AreBots number leaves x y
  left_bots x y own (inl same) one other = record {
    contents = own.contents;
    found = same ∙ own.found;
    end = own.end;
    means = own.means;
    first_whole = one;
    second_whole = other;
  }
  left_bots x y own (inr put) one other = record {
    contents = put.anew;
    found = put.found;
    end = put.kept;
    means = put.means_anew;
    first_whole = one;
    second_whole = other;
  }

  device-bots : (now : Device) → LeavesFound state first second (end_meaning number leaves) (RenewsEnd number leaves) now
      → KeepsGates state first second now → AreBots number leaves (state first).seen (state second).seen
      → AtEachMoment (device_on (state first) (state second)) now (AreBots number leaves)
  device-bots now m gates own =
      let whole = gates (own.first_whole, own.second_whole) in
      record {
        first_later = m.first_later;
        second_later = m.second_later;
        each = λ x y left right.
            left_bots x y own (m.each x y left right) (whole.each x y left right).0 (whole.each x y left right).1;
      }

  pub stays_bots : (result : Result BotEnd (Returned D)) → OpensAtEachMoment state number leaves first second result
      → KeepsGates state first second (device_after state (λ (link : BotEnd). link.device) result)
      → StaysBots state number leaves first second result
  stays_bots (Ok link) m gates = device-bots link.device m gates
  stays_bots (Err returned) m gates = device-bots (device_on (state returned.disks.first) (state returned.disks.second)) m gates
