-- Why a line is the first that breaks a rule.
use Rattle.std.specs.Prelude.{◌≡◌, ℕ, zero, suc, Bool, true, false, List, [], ◌∷◌, length, take, get_or, nat_lt, Result, Ok, Err, unwrap_or, if◌then◌else◌}
use Rattle.bytetext.specs.declared.failure.Failure.{Failure}
use Rattle.bytetext.specs.declared.failure.Failure.TheVariants.{Refused, NoMemory}
use Rattle.script.specs.declared.reason.Reason.{Reason}
use Rattle.script.specs.declared.reason.Reason.TheVariants.{TooLong, NoCommand, LeavesFirst, LeavesAgain, ZoneLate}
use Rattle.script.specs.LineReasons.{line_reason}
use Rattle.script.specs.declared.TheConstants.{MAX_SCRIPT}
use Rattle.script.specs.declared.error.ScriptFault.{ScriptFault}
use Rattle.script.specs.declared.saying.Saying.{Saying}
use Rattle.script.specs.declared.saying.Saying.TheVariants.{Nothing, Leaves, Zone, Told, Wrong}
use Rattle.script.specs.Grammar.{saying_of}
use Rattle.script.specs.Reading.{said, lines_of}

-- after the number of leaves, only a second one or a zone can break a rule
abbrev pub late_reason : Saying → Reason
late_reason (Leaves n) = LeavesAgain
late_reason Nothing = ZoneLate
late_reason (Zone rule) = ZoneLate
late_reason (Told command) = ZoneLate
late_reason Wrong = ZoneLate

-- how a line that is right by itself breaks a rule after what was said before
abbrev pub order_reason : List Saying → Saying → Reason
order_reason [] saying = LeavesFirst
order_reason (first ∷ says) saying = late_reason saying

-- a line's own reason, or else the reason of its place
abbrev pub reason_after : List Saying → List ℕ → Reason
reason_after says line = unwrap_or (line_reason line) (order_reason says (saying_of line))

-- why the line of this number is the fault of these lines
abbrev pub lines_why : List (List ℕ) → ℕ → Reason
lines_why lines zero = NoCommand
lines_why lines (suc place) = reason_after (said (take place lines)) (get_or lines place [])

abbrev pub why : List ℕ → ℕ → Reason
why bytes line = if nat_lt MAX_SCRIPT (length bytes) then TooLong else lines_why (lines_of bytes) line

-- ---- what is returned

-- a fault of this line has this reason
abbrev pub TellsReason : ℕ → Reason → Failure ScriptFault → Type 0
TellsReason line reason (Refused fault) = fault ≡ record { line = line; reason = reason }
TellsReason line reason NoMemory = Unit {0}

abbrev pub LinesTellWhy : {T : Type 0} → List (List ℕ) → Result T (Failure ScriptFault) → Type 0
LinesTellWhy lines (Ok script) = Unit {0}
LinesTellWhy lines (Err (Refused fault)) = fault.reason ≡ lines_why lines fault.line
LinesTellWhy lines (Err NoMemory) = Unit {0}

-- a fault has the reason of its line
abbrev pub TellsWhy : {T : Type 0} → List ℕ → Result T (Failure ScriptFault) → Type 0
TellsWhy bytes (Ok script) = Unit {0}
TellsWhy bytes (Err (Refused fault)) = fault.reason ≡ why bytes fault.line
TellsWhy bytes (Err NoMemory) = Unit {0}

-- ---- wrong lines

abbrev pub is_wrong : Saying → Bool
is_wrong Wrong = true
is_wrong Nothing = false
is_wrong (Leaves n) = false
is_wrong (Zone rule) = false
is_wrong (Told command) = false
