-- What a call returns when it has looked for a fault.
use Rattle.std.specs.Prelude.{Option, Some, None, Result, Ok, Err}
use Rattle.bytetext.specs.declared.failure.Failure.{Failure}
use Rattle.bytetext.specs.declared.failure.Failure.TheVariants.{Refused}

-- a call that finds a fault is refused with it
abbrev pub refused_with : {F : Type 0} → Option F → Result (Unit {0}) (Failure F)
refused_with None = Ok tt
refused_with (Some fault) = Err (Refused fault)
