-- How an end's journal is created and found, and the end on it. A journal of an older layout is rewritten before the
-- call returns.
use Rattle.std.specs.Prelude.{◌≡◌, ◌≢◌, ◌⊎◌, ◌-◌, ◌^◌, ℕ, false, List, Option, None, Some, Result, Ok, Err}
use Rattle.bytetext.specs.declared.failure.Failure.{Failure}
use Rattle.bytetext.specs.declared.failure.Failure.TheVariants.{Refused, NoMemory}
use Rattle.disks.specs.State.{State, Rose, may_leave}
use Rattle.bytejournal.specs.declared.fault.JournalFault.{JournalFault}
use Rattle.bytejournal.specs.declared.fault.JournalFault.TheVariants.{DiskFault, NotAJournal, Spent, GenerationsSpent}
use Rattle.bytejournal.specs.declared.opening.Returned.{Returned}
use Rattle.bytejournal.specs.Opening.{CannotCreate}
use Rattle.bytejournal.specs.Meaning.{IsWhole}
use Rattle.botjournal.specs.declared.TheConstants.{LAYOUT}
use Rattle.botjournal.specs.Contents.{Contents, meaning}
use Rattle.botjournal.specs.Ledger.{Device, AtEachMoment, device_on}
use Rattle.botjournal.specs.Recovery.{IsJournal}
use Rattle.sharelink.specs.Kept.{Kept, IsCurrent}

-- an end that takes records, and has nothing in doubt
abbrev pub at_rest : {S R : Type 0} → ℕ → S → Device → Kept S R
at_rest who kept device = record { who = who; state = kept; down = false; doubt = None; device = device }

-- ---- what was found

module _ {S : Type 0} (state_of : Contents → Option S) (Renews : S → S → Type 0) where
  -- What is kept of contents that mean a state: the same state or, if they have an older layout, what it becomes when
  -- it is rewritten.
  abbrev pub Keeps : Contents → S → S → Type 0
  Keeps contents before kept =
      ((contents.layout ≡ LAYOUT) × (kept ≡ before)) ⊎ ((contents.layout ≢ LAYOUT) × Renews before kept)

  -- contents that mean a state, of which this is kept
  pub record AreKept (given : Option Contents) (kept : S) : Type 0 where
    pub contents : Contents
    pub found : given ≡ Some contents
    pub before : S
    pub means : state_of contents ≡ Some before
    pub keeps : Keeps contents before kept

  -- contents of an older layout that mean a state, and contents of the present layout that mean it rewritten
  pub record ArePutAnew (old now : Option Contents) : Type 0 where
    pub contents : Contents
    pub was : old ≡ Some contents
    pub older : contents.layout ≢ LAYOUT
    pub before : S
    pub means : state_of contents ≡ Some before
    pub kept : S
    pub renews : Renews before kept
    pub anew : Contents
    pub found : now ≡ Some anew
    pub current : anew.layout ≡ LAYOUT
    pub means_anew : state_of anew ≡ Some kept

  -- what an opening leaves, at whichever moment it ends: what was there before, or that rewritten
  abbrev pub IsLeftOf : Option Contents → List ℕ → List ℕ → Type 0
  IsLeftOf old x y = (meaning x y ≡ old) ⊎ ArePutAnew old (meaning x y)

-- all gates exist in these bytes of two disks
abbrev pub AreWhole : List ℕ → List ℕ → Type 0
AreWhole x y = IsWhole x × IsWhole y

module _ {D : Type 0} (disk : D → State) (first second : D) where
  -- if all gates exist on the given disks, they exist in whatever a crash leaves at any moment between those and these
  abbrev pub KeepsGates : Device → Type 0
  KeepsGates now = AreWhole (disk first).seen (disk second).seen
      → AtEachMoment (device_on (disk first) (disk second)) now AreWhole

  -- what the given disks mean
  abbrev pub meaning_given : Option Contents
  meaning_given = meaning (disk first).seen (disk second).seen

  -- the given disks have the present layout, if they hold a journal
  abbrev pub AreCurrent : Type 0
  AreCurrent = IsCurrent meaning_given

  module _ {S : Type 0} (state_of : Contents → Option S) (Renews : S → S → Type 0) where
    -- the disks hold a journal that means a state, of which this is kept
    abbrev pub IsFound : S → Type 0
    IsFound kept = AreKept state_of Renews meaning_given kept

    -- the disks hold a journal that isn't this end's
    pub record IsAnothers : Type 0 where
      pub contents : Contents
      pub found : meaning_given ≡ Some contents
      pub means : state_of contents ≡ None

    -- the disks hold an older journal of this end's whose generations are used up, so that it can't be rewritten
    pub record IsSpent : Type 0 where
      pub contents : Contents
      pub found : meaning_given ≡ Some contents
      pub before : S
      pub means : state_of contents ≡ Some before
      pub older : contents.layout ≢ LAYOUT
      pub spent : contents.generation ≡ 2 ^ 32 - 1

    -- why no end was found
    abbrev pub FindsNone : Failure JournalFault → D → D → Type 0
    FindsNone (Refused DiskFault) first' second' =
        Rose (disk first).failed (disk first').failed ⊎ Rose (disk second).failed (disk second').failed
    FindsNone (Refused NotAJournal) first' second' = (IsJournal (disk first).seen (disk second).seen → ⊥) ⊎ IsAnothers
    FindsNone (Refused Spent) first' second' = ⊥
    FindsNone (Refused GenerationsSpent) first' second' = IsSpent
    FindsNone NoMemory first' second' = Unit {0}

    -- whatever a crash leaves on these disks is what the given disks mean, or that rewritten
    abbrev pub MeanTheSame : D → D → Type 0
    MeanTheSame first' second' = (x y : List ℕ) → may_leave (disk first') x → may_leave (disk second') y
        → IsLeftOf state_of Renews meaning_given x y

    -- the same for whatever a crash leaves at any moment between the given disks and these
    abbrev pub LeavesFound : Device → Type 0
    LeavesFound now = AtEachMoment (device_on (disk first) (disk second)) now (IsLeftOf state_of Renews meaning_given)

-- an end, by its device, and the end that rests on a state
module _ {D S V : Type 0} (disk : D → State) (first second : D) (device_in : V → Device) (resting : S → Device → V) where
  -- Creating an end that keeps this state, by cases on the result.
  abbrev pub Makes : S → Result V (Returned D) → Type 0
  Makes start (Ok end) = end ≡ resting start (device_in end)
  Makes start (Err returned) =
      CannotCreate (disk first) (disk second) returned.error (disk returned.disks.first) (disk returned.disks.second)

  -- Finding an end, by what its journal means, how that is rewritten, and what the end keeps, by cases on the result.
  abbrev pub Finds : (Contents → Option S) → (S → S → Type 0) → (V → S) → Result V (Returned D) → Type 0
  Finds state_of Renews state_in (Ok end) =
      IsFound disk first second state_of Renews (state_in end) × (end ≡ resting (state_in end) (device_in end))
  Finds state_of Renews state_in (Err returned) =
      FindsNone disk first second state_of Renews returned.error returned.disks.first returned.disks.second
      × MeanTheSame disk first second state_of Renews returned.disks.first returned.disks.second

module _ {D S V : Type 0} (disk : D → State) (first second : D) (device_in : V → Device) where
  -- At each moment of finding an end a crash leaves what the disks mean, or that rewritten.
  abbrev pub FindsAtEachMoment : (Contents → Option S) → (S → S → Type 0) → Result V (Returned D) → Type 0
  FindsAtEachMoment state_of Renews (Ok end) = LeavesFound disk first second state_of Renews (device_in end)
  FindsAtEachMoment state_of Renews (Err returned) =
      LeavesFound disk first second state_of Renews (device_on (disk returned.disks.first) (disk returned.disks.second))

-- the device of an end that was found, or of the disks that are handed back
abbrev pub device_after : {D V : Type 0} → (D → State) → (V → Device) → Result V (Returned D) → Device
device_after disk device_in (Ok end) = device_in end
device_after disk device_in (Err returned) = device_on (disk returned.disks.first) (disk returned.disks.second)
