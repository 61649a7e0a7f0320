-- Reading in pieces, and writing whole.
use Rattle.std.specs.Prelude.{◌≡◌, ◌⊎◌, ℕ, ◌+◌, ◌<◌, ◌≤◌, List, [], ◌++◌, length}
use Rattle.std.specs.Io.KnownBytes.{Appends, Consumes}
use Rattle.streams.specs.declared.stream.Given.{Given}
use Rattle.streams.specs.declared.stream.Given.TheVariants.{Bytes, End, Stall, Fault}
use Rattle.streams.specs.declared.reading.ReadError.{ReadError}
use Rattle.streams.specs.declared.reading.ReadError.TheVariants.{Fault as read_fault, NoMemory}
use Rattle.streams.specs.State.{Giving, Taking, Source, Sink}
use Rattle.streams.specs.Calls.{Gives, after_give, bytes_given, IsTrueEnd}

-- ---- reading

-- `count` answers gave these bytes
abbrev pub after_pieces : Giving → List ℕ → ℕ → Giving
after_pieces old bytes count = record old { given = old.given ++ bytes; asked = old.asked + count }

-- The stream was asked `count` times and gave these bytes, at least one each time.
pub record Reads (count : ℕ) (old : Source) (bytes : List ℕ) (new : Source) : Type 0 where
  pub left : Consumes old.left new.left bytes
  pub each : count ≤ length bytes
  pub past : new.past ≡ after_pieces old.past bytes count

-- The stream gave these bytes in fewer than `most` answers, and then this answer, which has no bytes.
pub record ReadsUntil (answer : Given) (most : ℕ) (old : Source) (bytes : List ℕ) (new : Source) : Type 0 where
  pub count : ℕ
  pub few : count < most
  pub left : Consumes old.left new.left bytes
  pub end : IsTrueEnd answer new.left
  pub past : new.past ≡ after_give (after_pieces old.past bytes count) answer []

-- The stream was asked once and gave this answer. Its bytes now follow those read before, at most `most` bytes in all.
pub record ReadsPiece (most : ℕ) (old : Source) (before : List ℕ) (answer : Given) (new : Source) (after : List ℕ) : Type 0 where
  pub buffer : List ℕ
  pub gives : Gives old answer buffer new
  pub room : length before + length buffer ≤ most
  pub added : after ≡ before ++ bytes_given answer buffer

-- the stream gave some bytes, or was not asked
abbrev pub ReadsOnce : Source → Source → Type 0
ReadsOnce old new = (new ≡ old) ⊎ ((n : ℕ) × (buffer : List ℕ) × Gives old (Bytes n) buffer new)

-- `most` bytes were read, or fewer because the stream is at its end
abbrev pub ReadsUpTo : ℕ → Source → List ℕ → Source → Type 0
ReadsUpTo most old bytes new = (length bytes ≤ most)
    × (ReadsUntil End most old bytes new ⊎ ((length bytes ≡ most) × ((count : ℕ) × Reads count old bytes new)))

-- the stream failed, or would have to wait
abbrev pub FailsToGive : ℕ → Source → Source → Type 0
FailsToGive most old new = (bytes : List ℕ) × (ReadsUntil Stall most old bytes new ⊎ ReadsUntil Fault most old bytes new)

-- memory ran out after some pieces
abbrev pub GivesSome : Source → Source → Type 0
GivesSome old new = (bytes : List ℕ) × (count : ℕ) × Reads count old bytes new

abbrev pub ReadsNot : ℕ → Source → ReadError → Source → Type 0
ReadsNot most old read_fault new = FailsToGive most old new
ReadsNot most old NoMemory new = GivesSome old new

-- ---- writing

-- The stream took these bytes, and was asked for nothing else.
pub record Writes (old : Sink) (bytes : List ℕ) (new : Sink) : Type 0 where
  pub holds : Appends old.holds new.holds bytes
  pub past : new.past ≡ record old.past { taken = old.past.taken ++ bytes }

-- The stream took these bytes, and everything that it took was flushed.
pub record WritesOut (old : Sink) (bytes : List ℕ) (new : Sink) : Type 0 where
  pub holds : Appends old.holds new.holds bytes
  pub past : new.past ≡ record old.past { taken = old.past.taken ++ bytes; flushed = old.past.taken ++ bytes }

-- the stream took none of what it was offered, or failed
abbrev pub Refuses : Taking → Taking → Type 0
Refuses old new = (new ≡ record old { refusals = old.refusals + 1 }) ⊎ (new ≡ record old { failures = old.failures + 1 })

-- The stream took the front of these bytes, and then took none of what it was offered, or failed.
pub record WritesFront (old : Sink) (bytes : List ℕ) (new : Sink) : Type 0 where
  pub front : List ℕ
  pub rest : List ℕ
  pub all : front ++ rest ≡ bytes
  pub holds : Appends old.holds new.holds front
  pub refuses : Refuses (record old.past { taken = old.past.taken ++ front }) new.past
