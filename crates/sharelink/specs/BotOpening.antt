-- How a bot's end of the link is created, found and handed back.
use Rattle.std.specs.Prelude.{◌≡◌, ℕ, List, Option, Some, Result, Ok, Err}
use Rattle.bytetext.specs.declared.failure.Failure.{Failure}
use Rattle.disks.specs.State.{State}
use Rattle.bytejournal.specs.declared.fault.JournalFault.{JournalFault}
use Rattle.bytejournal.specs.declared.opening.Returned.{Returned}
use Rattle.bytejournal.specs.Opening.{CannotCreate}
use Rattle.bytejournal.specs.Meaning.{IsWhole}
use Rattle.botjournal.specs.Contents.{Contents, meaning}
use Rattle.botjournal.specs.Ledger.{AtEachMoment, device_on}
use Rattle.protocol.specs.Ends.{End}
use Rattle.sharelink.specs.StateOpening.{AreKept, IsLeftOf, AreCurrent as HaveLayout, IsFound as Finds, FindsNone as FindsNoEnd, MeanTheSame as StaySo, LeavesFound, device_after}
use Rattle.sharelink.specs.BotLinks.{BotEnd, new_bot_end, bot_end_after, end_meaning, RenewsEnd}

-- ---- what contents mean to a bot that is opened on them

module _ (number leaves : ℕ) where
  -- The contents of two disks mean an end, and this one is kept: the same end or, if they have an older layout, that
  -- after a compaction.
  abbrev pub IsKeptOf : Option Contents → End → Type 0
  IsKeptOf found end = AreKept (end_meaning number leaves) (RenewsEnd number leaves) found end

  -- these bytes mean what an opening leaves, at whichever moment it ends: what was there before, or that rewritten
  abbrev pub IsLeft : Option Contents → List ℕ → List ℕ → Type 0
  IsLeft = IsLeftOf (end_meaning number leaves) (RenewsEnd number leaves)

  -- these bytes of two disks are a journal of the bot, in any layout that is read: they mean an end, and all gates exist
  pub record AreBots (x y : List ℕ) : Type 0 where
    pub contents : Contents
    pub found : meaning x y ≡ Some contents
    pub end : End
    pub means : end_meaning number leaves contents ≡ Some end
    pub first_whole : IsWhole x
    pub second_whole : IsWhole y

-- ---- creating and finding an end

-- the disks have the present layout, if they hold a journal
abbrev pub AreCurrent : {D : Type 0} → (D → State) → D → D → Type 0
AreCurrent state first second = HaveLayout state first second

module _ {D : Type 0} (state : D → State) (number leaves : ℕ) (first second : D) where
  -- Creating an end, by cases on the result.
  abbrev pub Makes : Result BotEnd (Returned D) → Type 0
  Makes (Ok link) = link ≡ new_bot_end number leaves link.device
  Makes (Err returned) =
      CannotCreate (state first) (state second) returned.error (state returned.disks.first) (state returned.disks.second)

  -- Creating an end whose requests are numbered above this number, by cases on the result.
  abbrev pub MakesAfter : ℕ → Result BotEnd (Returned D) → Type 0
  MakesAfter last (Ok link) = link ≡ bot_end_after number leaves last link.device
  MakesAfter last (Err returned) =
      CannotCreate (state first) (state second) returned.error (state returned.disks.first) (state returned.disks.second)

  -- the disks hold a journal that means an end to the bot, and this one is kept
  abbrev pub IsFound : End → Type 0
  IsFound end = Finds state first second (end_meaning number leaves) (RenewsEnd number leaves) end

  -- why no end was found
  abbrev pub FindsNone : Failure JournalFault → D → D → Type 0
  FindsNone error first' second' =
      FindsNoEnd state first second (end_meaning number leaves) (RenewsEnd number leaves) error first' second'

  -- whatever a crash leaves on these disks is what the given disks mean, or that rewritten
  abbrev pub MeanTheSame : D → D → Type 0
  MeanTheSame first' second' = StaySo state first second (end_meaning number leaves) (RenewsEnd number leaves) first' second'

  -- Finding an end, by cases on the result.
  abbrev pub Opens : Result BotEnd (Returned D) → Type 0
  Opens (Ok link) =
      IsFound link.end × (link ≡ record { number = number; leaves = leaves; end = link.end; device = link.device })
  Opens (Err returned) = FindsNone returned.error returned.disks.first returned.disks.second
      × MeanTheSame returned.disks.first returned.disks.second

  -- At each moment of finding an end a crash leaves what the disks mean, or that rewritten.
  abbrev pub OpensAtEachMoment : Result BotEnd (Returned D) → Type 0
  OpensAtEachMoment (Ok link) =
      LeavesFound state first second (end_meaning number leaves) (RenewsEnd number leaves) link.device
  OpensAtEachMoment (Err returned) =
      LeavesFound state first second (end_meaning number leaves) (RenewsEnd number leaves)
      (device_on (state returned.disks.first) (state returned.disks.second))

  -- At each moment of finding an end on disks that hold a journal of the bot, a crash leaves a journal of the bot.
  abbrev pub StaysBots : Result BotEnd (Returned D) → Type 0
  StaysBots result = AreBots number leaves (state first).seen (state second).seen
      → AtEachMoment (device_on (state first) (state second)) (device_after state (λ link. link.device) result)
      (AreBots number leaves)
