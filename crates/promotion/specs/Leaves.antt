-- What the journal of a stopped leaf holds.
use Rattle.std.specs.Prelude.{◌≡◌, ◌≢◌, ◌<◌, ◌≤◌, ℕ, true, List, [], length, slice_get, Some}
use Rattle.botjournal.specs.declared.base.Base.{Base}
use Rattle.botjournal.specs.declared.TheConstants.{LAYOUT}
use Rattle.botjournal.specs.Contents.{Contents, meaning}
use Rattle.protocol.specs.Snapshots.{records_from}
use Rattle.protocol.specs.LeafRules.{LeafState}
use Rattle.protocol.specs.Journals.{leaf_meaning, stand_together}
use Rattle.handshake.specs.Digits.{digits_in}
use Rattle.botfolder.specs.declared.number_file.TheConstants.{NUMBER_DIGITS}
use Rattle.promotion.specs.declared.reading.LeafStanding.{LeafStanding}

-- a leaf's state as a base alone, and the bytes of its journal's two disks
pub record LeafFound : Type 0 where
  pub base : Base
  pub first : List ℕ
  pub second : List ℕ

-- a base with what a leaf keeps: its version, its records, and what it has asked and not heard
pub record HasKept (leaf : LeafState) (base : Base) : Type 0 where
  pub version : base.version ≡ leaf.version
  pub records : records_from base.records ≡ leaf.records
  pub out : base.out ≡ leaf.out

-- these bytes of two disks are the journal of a leaf of the base's number, and this base alone has what it keeps
pub record IsLeafOf (x y : List ℕ) (base : Base) : Type 0 where
  pub contents : Contents
  pub found : meaning x y ≡ Some contents
  pub current : contents.layout ≡ LAYOUT
  pub leaf : LeafState
  pub means : leaf_meaning base.bot contents ≡ Some leaf
  pub numbered : 0 < base.bot
  pub kept : HasKept leaf base
  pub together : stand_together (records_from base.records) ≡ true

-- ---- how it is read

-- the leaf keeps the same, but for the generation of its journal
pub record IsAlike (one other : LeafState) : Type 0 where
  pub version : other.version ≡ one.version
  pub records : other.records ≡ one.records
  pub out : other.out ≡ one.out

-- both mean a leaf of this number, and the leaf keeps the same
pub record MeanAlike (number : ℕ) (x y x' y' : List ℕ) : Type 0 where
  pub before : Contents
  pub found_before : meaning x y ≡ Some before
  pub current : before.layout ≡ LAYOUT
  pub one : LeafState
  pub means_before : leaf_meaning number before ≡ Some one
  pub after : Contents
  pub found : meaning x' y' ≡ Some after
  pub other : LeafState
  pub means : leaf_meaning number after ≡ Some other
  pub alike : IsAlike one other

-- these bytes mean this base, and no entry after it
pub record IsAlone (x y : List ℕ) (base : Base) : Type 0 where
  pub contents : Contents
  pub found : meaning x y ≡ Some contents
  pub has : contents.base ≡ base
  pub no_entries : contents.entries ≡ []

-- ---- what is told of it

-- where a leaf of this net stands, by its base
abbrev pub standing_of : Base → List ℕ → LeafStanding
standing_of base net = record { number = base.bot; net = net; version = base.version }

-- The journal of some stopped leaf says that it stands there, and its net has a number.
pub record IsStanding (standing : LeafStanding) : Type 0 where
  pub leaf : LeafFound
  pub journal : IsLeafOf leaf.first leaf.second leaf.base
  pub is : standing ≡ standing_of leaf.base standing.net
  pub net : digits_in NUMBER_DIGITS standing.net ≡ Some standing.net

-- The one at this place has the highest version of the first of them, `count` in number. Each one before it has a lower
-- version.
pub record IsHighestOf (standings : List LeafStanding) (count place : ℕ) : Type 0 where
  pub one : LeafStanding
  pub at : slice_get standings place ≡ Some one
  pub each : (i : ℕ) (other : LeafStanding) → i < count → slice_get standings i ≡ Some other → other.version ≤ one.version
  pub before : (i : ℕ) (other : LeafStanding) → i < place → slice_get standings i ≡ Some other → other.version < one.version

-- no other has a higher version than the one at this place, and none before it has the same
abbrev pub IsHighest : List LeafStanding → ℕ → Type 0
IsHighest standings place = IsHighestOf standings (length standings) place

-- all have the number of one net
abbrev pub AreOfOneNet : List LeafStanding → Type 0
AreOfOneNet standings = (i j : ℕ) (one other : LeafStanding) → slice_get standings i ≡ Some one → slice_get standings j ≡ Some other
    → one.net ≡ other.net

-- the one at this place has another number of a net than the first, and each one before it has the first's
pub record IsOfOtherNet (standings : List LeafStanding) (place : ℕ) : Type 0 where
  pub first : LeafStanding
  pub at_first : slice_get standings 0 ≡ Some first
  pub one : LeafStanding
  pub at : slice_get standings place ≡ Some one
  pub other : one.net ≢ first.net
  pub before : (i : ℕ) (same : LeafStanding) → i < place → slice_get standings i ≡ Some same → same.net ≡ first.net
