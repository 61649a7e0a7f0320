use Rattle.std.proofs.Common.{◌≡◌, ℕ, ◌<◌, false, get_or}
use Rattle.flagexpr.specs.Faults.{is_join}
use Rattle.flagexpr.proofs.expression.first_join.Given as goal

-- none of the bytes so far joins
abbrev pub invariant-loop-at : goal.invariant-loop-at
invariant-loop-at l = (k : ℕ) → k < l.at → is_join (get_or l.text k 0) ≡ false
