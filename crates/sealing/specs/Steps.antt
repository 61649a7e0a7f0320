-- What the steps of reading and writing return.
use Rattle.std.specs.Prelude.{◌≡◌, ◌<◌, ◌≤◌, ◌+◌, ℕ, List, [], ◌++◌, length}
use Rattle.std.specs.List.{AllByRecursion}
use Rattle.sealing.specs.declared.kind.Kind.TheVariants.{Frames, Beat}
use Rattle.sealing.specs.declared.record.Next.{Next}
use Rattle.sealing.specs.declared.record.Next.TheVariants.{Whole, End}
use Rattle.sealing.specs.declared.opener.Found.{Found}
use Rattle.sealing.specs.declared.opener.Taken.{Taken}
use Rattle.sealing.specs.Records.{IsBody, carried, sealed, all_sealed}
use Rattle.sealing.specs.Streams.{Ending, Ends, ended, max_records, record_count}

-- the record of this count at the front, or how the stream ends
abbrev pub IsNext : List ℕ → ℕ → List ℕ → Next → Type 0
IsNext key count bytes (Whole body rest) = (bytes ≡ sealed key count body.now ++ rest.now) × (IsBody body.now × (count < max_records))
IsNext key count bytes (End fault) = Ends key count bytes (ended bytes fault)

-- the bytes are records from the first count on, which carry these frames and beats, and a rest from another count on
pub record AreTold (key : List ℕ) (first : ℕ) (bytes frames beats rest : List ℕ) (count : ℕ) : Type 0 where
  pub bodies : List (List ℕ)
  pub parts : bytes ≡ all_sealed key first bodies ++ rest
  pub frames_are : frames ≡ carried Frames bodies
  pub beats_are : beats ≡ carried Beat bodies
  pub good : AllByRecursion IsBody bodies
  pub counts : count ≡ first + length bodies
  pub few : count ≤ max_records

pub record IsFound (key : List ℕ) (first : ℕ) (bytes : List ℕ) (found : Found) : Type 0 where
  pub told : AreTold key first bytes found.frames.items found.beats.items found.rest.now found.count
  pub ends : Ends key found.count found.rest.now (ended found.rest.now found.fault)

-- the same with a rest that is no longer there after a fault
pub record IsTaken (key : List ℕ) (first : ℕ) (bytes : List ℕ) (taken : Taken) (ending : Ending) : Type 0 where
  pub rest : List ℕ
  pub told : AreTold key first bytes taken.frames.items taken.beats.items rest taken.count
  pub ends : Ends key taken.count rest ending

-- records that carry the frames before this rest were appended, no more of them than those frames need
pub record ArePut (key : List ℕ) (first : ℕ) (before frames rest after : List ℕ) (count : ℕ) : Type 0 where
  pub bodies : List (List ℕ)
  pub parts : after ≡ before ++ all_sealed key first bodies
  pub good : AllByRecursion IsBody bodies
  pub frames_are : frames ≡ carried Frames bodies ++ rest
  pub no_beats : carried Beat bodies ≡ []
  pub few : length bodies + record_count (length rest) ≡ record_count (length frames)
  pub counts : count ≡ first + length bodies
