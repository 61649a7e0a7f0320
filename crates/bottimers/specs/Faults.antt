-- The letters of a fault, and why a call was refused.
use Rattle.std.specs.Prelude.{◌≡◌, ℕ, List, codes, Option, Some, None, Result, Ok, Err}
use Rattle.bytetext.specs.declared.failure.Failure.{Failure}
use Rattle.bytetext.specs.declared.failure.Failure.TheVariants.{Refused, NoMemory}
use Rattle.bottimers.specs.declared.fault.ClockFault.{ClockFault}
use Rattle.bottimers.specs.declared.fault.ClockFault.TheVariants.{BadMoment, BadInterval, Full, NoSuchTimer, BadZone}

abbrev pub letters_of : ClockFault → List ℕ
letters_of BadMoment = codes "C4"
letters_of BadInterval = codes "C1"
letters_of Full = codes "C3"
letters_of NoSuchTimer = codes "C2"
letters_of BadZone = codes "C5"

-- the call was refused for this fault and no other; if there is none, it failed only for lack of memory
abbrev pub RefusedFor : {T : Type 0} → Option ClockFault → Result T (Failure ClockFault) → Type 0
RefusedFor fault (Ok v) = fault ≡ None
RefusedFor fault (Err (Refused f)) = fault ≡ Some f
RefusedFor fault (Err NoMemory) = fault ≡ None
