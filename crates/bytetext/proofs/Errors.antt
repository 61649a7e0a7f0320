-- What holds of a call that was refused. For callers.
use Rattle.std.proofs.Common.{Result, Ok, Err, IfErr}

-- what holds whatever the error
pub at_err : {T E : Type 0} {P : Type 0} (result : Result T E) → P → IfErr result (λ _. P)
at_err (Ok _) p = tt
at_err (Err _) p = p
