-- What one call of a stream does.
use Rattle.std.specs.Prelude.{◌≡◌, ℕ, ◌+◌, ◌<◌, ◌≤◌, List, [], ◌++◌, length, take, Option, Result, Ok, Err}
use Rattle.std.specs.Io.KnownBytes.{Appends, Consumes, IsAtEnd, Keeps}
use Rattle.streams.specs.declared.stream.Given.{Given}
use Rattle.streams.specs.declared.stream.Given.TheVariants.{Bytes as gives_bytes, End, Stall, Fault as fails_to_give}
use Rattle.streams.specs.declared.stream.Taken.{Taken}
use Rattle.streams.specs.declared.stream.Taken.TheVariants.{Bytes as takes_bytes, Nothing, Fault as fails_to_take}
use Rattle.streams.specs.State.{Giving, Taking, Source, Sink}

-- ---- giving

-- the bytes that the stream gave, at the front of the buffer
abbrev pub bytes_given : Given → List ℕ → List ℕ
bytes_given (gives_bytes n) buffer = take n buffer
bytes_given End buffer = []
bytes_given Stall buffer = []
bytes_given fails_to_give buffer = []

-- the given bytes are one or more, and fit in the buffer
abbrev pub FitsIn : List ℕ → Given → Type 0
FitsIn buffer (gives_bytes n) = (0 < n) × (n ≤ length buffer)
FitsIn buffer End = Unit {0}
FitsIn buffer Stall = Unit {0}
FitsIn buffer fails_to_give = Unit {0}

-- if the stream says that it is at its end, no known byte is left
abbrev pub IsTrueEnd : Given → Option (List ℕ) → Type 0
IsTrueEnd (gives_bytes n) left = Unit {0}
IsTrueEnd End left = IsAtEnd left
IsTrueEnd Stall left = Unit {0}
IsTrueEnd fails_to_give left = Unit {0}

-- the stream was asked once more, and gave this answer
abbrev pub after_give : Giving → Given → List ℕ → Giving
after_give old (gives_bytes n) buffer = record old { given = old.given ++ take n buffer; asked = old.asked + 1 }
after_give old End buffer = record old { asked = old.asked + 1; ends = old.ends + 1 }
after_give old Stall buffer = record old { asked = old.asked + 1; stalls = old.stalls + 1 }
after_give old fails_to_give buffer = record old { asked = old.asked + 1; failures = old.failures + 1 }

-- The stream was asked for bytes and gave this answer. Its bytes are at the front of the buffer.
pub record Gives (old : Source) (answer : Given) (buffer : List ℕ) (new : Source) : Type 0 where
  pub fits : FitsIn buffer answer
  pub left : Consumes old.left new.left (bytes_given answer buffer)
  pub end : IsTrueEnd answer new.left
  pub past : new.past ≡ after_give old.past answer buffer

-- ---- taking

-- the bytes that the stream took
abbrev pub bytes_taken : Taken → List ℕ → List ℕ
bytes_taken (takes_bytes n) bytes = take n bytes
bytes_taken Nothing bytes = []
bytes_taken fails_to_take bytes = []

-- the taken bytes are one or more, and no more than were offered
abbrev pub IsFrontOf : List ℕ → Taken → Type 0
IsFrontOf bytes (takes_bytes n) = (0 < n) × (n ≤ length bytes)
IsFrontOf bytes Nothing = Unit {0}
IsFrontOf bytes fails_to_take = Unit {0}

-- the stream was offered these bytes, and gave this answer
abbrev pub after_take : Taking → Taken → List ℕ → Taking
after_take old (takes_bytes n) bytes = record old { taken = old.taken ++ take n bytes }
after_take old Nothing bytes = record old { refusals = old.refusals + 1 }
after_take old fails_to_take bytes = record old { failures = old.failures + 1 }

-- The stream was offered these bytes and gave this answer.
pub record Takes (old : Sink) (answer : Taken) (bytes : List ℕ) (new : Sink) : Type 0 where
  pub front : IsFrontOf bytes answer
  pub holds : Appends old.holds new.holds (bytes_taken answer bytes)
  pub past : new.past ≡ after_take old.past answer bytes

-- ---- flushing

abbrev pub after_flush : {E : Type 0} → Taking → Result Unit E → Taking
after_flush old (Ok _) = record old { flushed = old.taken }
after_flush old (Err _) = record old { failures = old.failures + 1 }

-- The stream was flushed, or the flush failed.
pub record Flushes {E : Type 0} (old : Sink) (answer : Result Unit E) (new : Sink) : Type 0 where
  pub holds : Keeps old.holds new.holds
  pub past : new.past ≡ after_flush old.past answer
