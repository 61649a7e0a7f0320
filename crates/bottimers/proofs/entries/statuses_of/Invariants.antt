use Rattle.std.proofs.Common.{◌≡◌, take, map}
use Rattle.bottimers.specs.Held.{status_of}
use Rattle.bottimers.proofs.entries.statuses_of.Given as goal

-- those so far are listed
abbrev pub invariant-loop-entry : goal.invariant-loop-entry
invariant-loop-entry l = l.list.items ≡ map (λ e. status_of l.at e.timer) (take l.entry-index l.entries)
