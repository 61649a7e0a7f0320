-- What appending an action to a reply does.
use Rattle.std.specs.Prelude.{◌≡◌, ◌<◌, ◌≤◌, List, [], ◌∷◌, ◌++◌, length, Result, Ok, Err}
use Rattle.bytetext.specs.declared.failure.Failure.{Failure}
use Rattle.bytetext.specs.declared.failure.Failure.TheVariants.{Refused, NoMemory}
use Rattle.procs.specs.declared.action.Action.{Action}
use Rattle.procs.specs.declared.proc_fault.ActionsFault.{ActionsFault}
use Rattle.procs.specs.declared.proc_fault.ActionsFault.TheVariants.{TooMany}
use Rattle.procs.specs.declared.limits.TheConstants.{MAX_ACTIONS}

-- The action is appended, or there are eight already, or memory ran out. Out of memory only if there are fewer than
-- eight.
abbrev pub Pushes : {T : Type 0} → List Action → Action → Result T (Failure ActionsFault) → List Action → Type 0
Pushes old action (Ok _) new = (length old < MAX_ACTIONS) × (new ≡ old ++ action ∷ [])
Pushes old action (Err (Refused TooMany)) new = (MAX_ACTIONS ≤ length old) × (new ≡ old)
Pushes old action (Err NoMemory) new = (length old < MAX_ACTIONS) × (new ≡ old)
