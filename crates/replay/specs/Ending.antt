-- What a replay reads, writes and returns.
use Rattle.std.specs.Prelude.{◌≡◌, ℕ, ◌+◌, List, take, IfSome, Result, Ok, Err}
use Rattle.streams.specs.State.{Source, Sink}
use Rattle.streams.specs.Transfers.{FailsToGive, ReadsUpTo, WritesFront, WritesOut}
use Rattle.procs.specs.Promises.{Promised}
use Rattle.script.specs.declared.TheConstants.{MAX_SCRIPT}
use Rattle.script.specs.Reading.{HasFault}
use Rattle.replay.specs.declared.error.ReplayError.{ReplayError}
use Rattle.replay.specs.declared.error.ReplayError.TheVariants.{Script as script_fault, Read, Write, NoMemory}
use Rattle.replay.specs.Transcript.{IsTranscript}

-- ---- reading

-- The stream gave the bytes of a script: all that it had, or one more than a script may have. If the stream's bytes are
-- known, these are the first of them.
pub record GivesScript (old : Source) (bytes : List ℕ) (new : Source) : Type 0 where
  pub read : ReadsUpTo (MAX_SCRIPT + 1) old bytes new
  pub known : IfSome old.left (λ input. bytes ≡ take (MAX_SCRIPT + 1) input)

-- why reading fails: the stream failed or would block, or memory ran out
abbrev pub GivesNone : ReplayError → Source → Source → Type 0
GivesNone (script_fault fault) old new = ⊥
GivesNone Read old new = FailsToGive (MAX_SCRIPT + 1) old new
GivesNone Write old new = ⊥
GivesNone NoMemory old new = Unit {0}

-- the bytes have this fault, or memory runs out
abbrev pub IsTranscriptFault : List ℕ → ReplayError → Type 0
IsTranscriptFault bytes (script_fault fault) = HasFault bytes fault.line
IsTranscriptFault bytes Read = ⊥
IsTranscriptFault bytes Write = ⊥
IsTranscriptFault bytes NoMemory = Unit {0}

-- the stream gave the bytes of a script, and this is its transcript
abbrev pub Plays : Promised → List (List ℕ)
    → Source → List ℕ → Source → Type 0
Plays promised names old text new = (bytes : List ℕ) × GivesScript old bytes new × IsTranscript promised names bytes text

-- what an error before the first write means
abbrev pub EndsEarly : ReplayError → Source → Source → Type 0
EndsEarly (script_fault fault) old new = (bytes : List ℕ) × GivesScript old bytes new × HasFault bytes fault.line
EndsEarly Read old new = FailsToGive (MAX_SCRIPT + 1) old new
EndsEarly Write old new = ⊥
EndsEarly NoMemory old new = Unit {0}

-- ---- the whole

-- What a result means for what the stream gave and took. Either the transcript of what was read is written whole and
-- flushed; or nothing is written, and the error says why; or a prefix of the transcript is written, and then the stream
-- took no more.
abbrev pub Ends : Promised → List (List ℕ)
    → Source → Sink → Result Unit ReplayError → Source → Sink → Type 0
Ends promised names source sink (Ok _) left taken =
    (text : List ℕ) × Plays promised names source text left × WritesOut sink text taken
Ends promised names source sink (Err (script_fault fault)) left taken = EndsEarly (script_fault fault) source left × (taken ≡ sink)
Ends promised names source sink (Err Read) left taken = EndsEarly Read source left × (taken ≡ sink)
Ends promised names source sink (Err Write) left taken =
    (text : List ℕ) × Plays promised names source text left × WritesFront sink text taken
Ends promised names source sink (Err NoMemory) left taken = taken ≡ sink

-- the result for a script with a fault is the line of the fault, unless reading fails or memory runs out before it is
-- found
abbrev pub TellsLine : ℕ → Result Unit ReplayError → Type 0
TellsLine line (Ok _) = ⊥
TellsLine line (Err (script_fault fault)) = fault.line ≡ line
TellsLine line (Err Read) = Unit {0}
TellsLine line (Err Write) = ⊥
TellsLine line (Err NoMemory) = Unit {0}
