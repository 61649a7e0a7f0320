use Rattle.std.proofs.Common.{◌≡◌, ◌≤◌, length, take, filter}
use Rattle.bottimers.specs.Occurrences.{is_kept}
use Rattle.bottimers.proofs.entries.count_kept.Given as goal

-- those so far are counted
abbrev pub invariant-loop-entry : goal.invariant-loop-entry
invariant-loop-entry l =
    (l.count ≡ length (filter (λ e. is_kept l.to e.timer) (take l.entry-index l.entries))) × (l.count ≤ l.entry-index)
