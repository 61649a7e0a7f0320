-- What passes over a value, seen by a caller that may run out of memory.
use Rattle.std.proofs.Common.{List, ℕ, Result, Ok, Err}
use Rattle.bytetext.specs.declared.failure.Failure.{Failure}
use Rattle.usercodec.specs.declared.fault.CodecFault.{CodecFault}
use Rattle.usercodec.specs.Answers.{Passes}
use Rattle.usercodec.specs.Fields.{Reading}
use Rattle.usercodec.proofs.ItemSteps.{fails_told}
use Rattle.botjournal.specs.Passing.{PassesSome}

pub passes_some : {A : Type 0} (result : Result Unit (Failure CodecFault)) (reading : Reading A) (rest : List ℕ)
    → Passes result reading rest → PassesSome result reading rest
passes_some (Ok done) reading rest passes = passes
passes_some (Err error) reading rest told = fails_told error reading told
