-- What reading a script returns, and how far a reader has come.
use Rattle.std.specs.Prelude.{◌≡◌, ℕ, zero, suc, Bool, true, false, List, [], ◌∷◌, ◌++◌, map, Option, None, Some, Result, Ok, Err}
use Rattle.script.specs.declared.saying.Saying.{Saying}
use Rattle.script.specs.declared.saying.Saying.TheVariants.{Leaves, Told}
use Rattle.script.specs.declared.reading.Script.{Script}
use Rattle.bytetext.specs.declared.failure.Failure.{Failure}
use Rattle.bytetext.specs.declared.failure.Failure.TheVariants.{Refused, NoMemory}
use Rattle.script.specs.declared.error.ScriptFault.{ScriptFault}
use Rattle.script.specs.Reading.{Spells, HasFault, BreaksAt, begins_script, onto_said, said, zone_said}

-- these bytes are read as this
abbrev pub ReadsAs : List ℕ → Result Script (Failure ScriptFault) → Type 0
ReadsAs bytes (Ok script) = Spells bytes script
ReadsAs bytes (Err (Refused fault)) = HasFault bytes fault.line
ReadsAs bytes (Err NoMemory) = Unit {0}

-- the same, given its lines
abbrev pub HasLineFault : List (List ℕ) → ℕ → Type 0
HasLineFault lines zero = said lines ≡ []
HasLineFault lines (suc place) = BreaksAt lines place

abbrev pub LinesReadAs : List (List ℕ) → Result Script (Failure ScriptFault) → Type 0
LinesReadAs lines (Ok script) = said lines ≡ Leaves script.leaves ∷ (zone_said script.zone ++ map Told script.commands)
LinesReadAs lines (Err (Refused fault)) = HasLineFault lines fault.line
LinesReadAs lines (Err NoMemory) = Unit {0}

-- what the lines so far said, given the script that they make
abbrev pub so_far : Option Script → List Saying
so_far None = []
so_far (Some script) = Leaves script.leaves ∷ (zone_said script.zone ++ map Told script.commands)

-- the next line continues the script, or breaks a rule
abbrev pub GoesOn : Option Script → Saying → Bool → Option Script → Type 0
GoesOn old saying true new = so_far new ≡ so_far old ++ onto_said saying []
GoesOn old saying false new = begins_script (so_far old ++ onto_said saying []) ≡ false
