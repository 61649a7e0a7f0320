-- A script's transcript: what its commands print one after another, if memory suffices.
use Rattle.std.specs.Prelude.{◌≡◌, ℕ, List, Result, Ok, Err}
use Rattle.bytetext.specs.declared.failure.Failure.{Failure}
use Rattle.bytetext.specs.declared.failure.Failure.TheVariants.{Refused, NoMemory}
use Rattle.procs.specs.Promises.{Promised}
use Rattle.script.specs.declared.reading.Script.{Script}
use Rattle.script.specs.declared.error.ScriptFault.{ScriptFault}
use Rattle.script.specs.Reading.{Spells, HasFault}
use Rattle.replay.specs.Deeds.{deeds_of}
use Rattle.replay.specs.Doing.{IsDoneByNew}
use Rattle.replay.specs.Starting.{zone_or_utc}

-- This text is a transcript of the script that these bytes spell, with procs of these names. Only the procs' promise
-- binds what they answer, so a script may have more than one transcript.
pub record IsTranscript (promised : Promised)
    (names : List (List ℕ)) (bytes text : List ℕ) : Type 0 where
  pub script : Script
  pub spells : Spells bytes script
  pub tells : IsDoneByNew promised script.leaves (zone_or_utc script.zone) names (deeds_of script.commands) text

-- a result is a fault only if the bytes have it
abbrev pub IsRefusedRightly : {T : Type 0} → List ℕ → Result T (Failure ScriptFault) → Type 0
IsRefusedRightly bytes (Ok text) = Unit {0}
IsRefusedRightly bytes (Err (Refused fault)) = HasFault bytes fault.line
IsRefusedRightly bytes (Err NoMemory) = Unit {0}

-- the result is the line of the fault, unless memory runs out before it is found
abbrev pub TellsFault : {T : Type 0} → ℕ → Result T (Failure ScriptFault) → Type 0
TellsFault line (Ok text) = ⊥
TellsFault line (Err (Refused fault)) = fault.line ≡ line
TellsFault line (Err NoMemory) = Unit {0}
