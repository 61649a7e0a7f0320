use Rattle.std.proofs.Common.{◌≡◌, ◌++◌, length}
use Rattle.net.specs.LogForms.{shown, shown_after}
use Rattle.net.proofs.log_form.put_shown.Given as goal

-- what is shown, and what the bytes that are left will show
abbrev pub invariant-loop-byte : goal.invariant-loop-byte
invariant-loop-byte l = l.line.items ++ shown_after l.form l.before l.rest ≡ l.fn.line.items ++ shown l.form l.fn.happened

abbrev pub decreases-loop-byte : goal.decreases-loop-byte
decreases-loop-byte l = length l.rest
