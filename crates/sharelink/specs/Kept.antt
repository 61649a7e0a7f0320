-- What an end of the link keeps in a journal whose disks may fail.
use Rattle.std.specs.Prelude.{◌≡◌, ◌⊎◌, ℕ, Bool, true, false, List, Option, None, Some, Result, Ok, Err}
use Rattle.bytetext.specs.declared.failure.Failure.{Failure}
use Rattle.bytetext.specs.declared.failure.Failure.TheVariants.{Refused, NoMemory}
use Rattle.disks.specs.State.{State, may_leave}
use Rattle.disks.specs.declared.disk.DiskFault.{DiskFault}
use Rattle.bytejournal.specs.Meaning.{IsWhole}
use Rattle.botjournal.specs.declared.TheConstants.{LAYOUT}
use Rattle.botjournal.specs.Contents.{Contents, meaning}
use Rattle.botjournal.specs.Ledger.{Ledger, Pending, Account, Device, Failed, AtEachMoment, LeavesEither, Writes, FailsAt, counted as contents_counted}
use Rattle.protocol.specs.Bots.{counted}
use Rattle.sharelink.specs.declared.error.LinkFault.{LinkFault}
use Rattle.sharelink.specs.declared.error.LinkFault.TheVariants.{JournalFault, DiskFault as NotRead}

-- whose state it is: of the hub the number of its leaves, of a leaf its own number; the state that is kept; whether a
-- disk failed since the journal was opened; the record that is in doubt since then; and its two disks
pub record Kept (S R : Type 0) : Type 0 where
  pub who : ℕ
  pub state : S
  pub down : Bool
  pub doubt : Option R
  pub device : Device

-- Writing to a journal that has generations left, by cases on the result.
abbrev pub WritesAny : Ledger → Pending → Result (Unit {0}) (Failure DiskFault) → Ledger → Type 0
WritesAny old pending (Ok _) new = Writes pending old new
WritesAny old pending (Err (Refused _)) new = FailsAt pending old new
WritesAny old pending (Err NoMemory) new = new ≡ old

-- At each moment of writing this a crash leaves what was kept, or that with this written; or nothing was written.
abbrev pub LeavesWritten : Pending → Ledger → Ledger → Type 0
LeavesWritten pending old new = (new ≡ old) ⊎ LeavesEither pending old new

-- ---- how a journal relates to the state

-- these contents have the present layout, if there are any
abbrev pub IsCurrent : Option Contents → Type 0
IsCurrent None = Unit {0}
IsCurrent (Some contents) = contents.layout ≡ LAYOUT

-- whatever a crash leaves on the disks has the present layout
abbrev pub LeavesCurrent : State → State → Type 0
LeavesCurrent first second = (x y : List ℕ) → may_leave first x → may_leave second y → IsCurrent (meaning x y)

module _ {S R : Type 0} (state_of : Contents → Option S) (folded : S → R → S) where
  -- the contents mean the state, or that with the record in doubt counted
  abbrev pub MeansEither : S → Option R → Contents → Type 0
  MeansEither kept doubt contents = (state_of contents ≡ Some kept) ⊎ (state_of contents ≡ Some (counted folded kept doubt))

  -- a journal that takes records means what is kept
  pub record IsUp (kept : S) (doubt : Option R) (account : Account) : Type 0 where
    pub up : account.down ≡ false
    pub certain : account.doubt ≡ None
    pub none : doubt ≡ None
    pub means : state_of account.contents ≡ Some kept

  -- whatever a restart finds means what is kept, or that with the record in doubt
  pub record IsDown (kept : S) (doubt : Option R) (account : Account) : Type 0 where
    pub held : MeansEither kept doubt account.contents
    pub after : MeansEither kept doubt (contents_counted account)

  abbrev pub Stands : S → Bool → Option R → Account → Type 0
  Stands kept false doubt account = IsUp kept doubt account
  Stands kept true doubt account = IsDown kept doubt account

  -- these bytes of two disks mean the state, or that with the record in doubt, and all gates exist
  pub record AreOf (kept : S) (doubt : Option R) (x y : List ℕ) : Type 0 where
    pub contents : Contents
    pub found : meaning x y ≡ Some contents
    pub means : MeansEither kept doubt contents
    pub first_whole : IsWhole x
    pub second_whole : IsWhole y

  -- whatever a crash leaves on the disks is the end's
  abbrev pub MayLeave : S → Option R → State → State → Type 0
  MayLeave kept doubt first second = (x y : List ℕ) → may_leave first x → may_leave second y → AreOf kept doubt x y

  -- at each moment of a call a crash leaves the state, or that with the record counted
  abbrev pub LeavesOwn : S → Option R → Device → Device → Type 0
  LeavesOwn kept doubt before now = AtEachMoment before now (AreOf kept doubt)

-- ---- rewriting a journal with the state alone

-- what a state becomes by the record that writes it alone into its journal, which the journal may take
abbrev pub Renews : {S R : Type 0} → (S → R → Type 0) → (S → R → S) → R → S → S → Type 0
Renews may folded renewal before kept = may before renewal × (kept ≡ folded before renewal)

-- ---- what the calls return

module _ {S R : Type 0} (folded : S → R → S) where
  -- Journaling a record, by cases on the result: it is kept, and counted; or a disk failed, and it is in doubt; or all
  -- is as it was.
  abbrev pub Journals : R → Kept S R → Result (Unit {0}) (Failure LinkFault) → Kept S R → Type 0
  Journals entry old (Ok _) new = new ≡ record old { state = folded old.state entry; device = new.device }
  Journals entry old (Err (Refused fault)) new = (fault ≡ JournalFault)
      × (new ≡ record old { down = true; doubt = Some entry; device = new.device }) × Failed old.device new.device
  Journals entry old (Err NoMemory) new = new ≡ old

  -- A restart, by cases on the result: the record in doubt doesn't count, or does; otherwise the end is down. What it
  -- finds has the present layout, as has all that a crash leaves of an end: nothing is rewritten.
  abbrev pub Restarts : Kept S R → Result (Unit {0}) (Failure LinkFault) → Kept S R → Type 0
  Restarts old (Ok _) new =
      (new ≡ record old { down = false; doubt = None; device = new.device })
      ⊎ (new ≡ record old { state = counted folded old.state old.doubt; down = false; doubt = None; device = new.device })
  Restarts old (Err (Refused fault)) new = (fault ≡ NotRead) × (new ≡ record old { down = true; device = new.device })
      × Failed old.device new.device
  Restarts old (Err NoMemory) new = new ≡ record old { down = true; device = new.device }
