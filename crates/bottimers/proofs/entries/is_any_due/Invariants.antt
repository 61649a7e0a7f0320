use Rattle.std.proofs.Common.{◌≡◌, take, false}
use Rattle.std.specs.List.{list_any}
use Rattle.bottimers.specs.Occurrences.{is_due}
use Rattle.bottimers.proofs.entries.is_any_due.Given as goal

-- none so far
abbrev pub invariant-loop-entry : goal.invariant-loop-entry
invariant-loop-entry l = list_any (λ e. is_due l.to e.timer) (take l.entry-index l.entries) ≡ false
