use Rattle.std.proofs.Common.{◌≤◌, ◌-◌, length, take}
use Rattle.wildmask.specs.Codes.{items_in}
use Rattle.wildmask.specs.Walks.{AllOne}
use Rattle.wildmask.proofs.runs.split_run.Given as goal

-- the items so far take one byte each
abbrev pub invariant-loop-len : goal.invariant-loop-len
invariant-loop-len l = record { within : l.len ≤ length l.codes; one : AllOne (items_in (take l.len l.codes)) }

abbrev pub decreases-loop-len : goal.decreases-loop-len
decreases-loop-len l = length l.codes - l.len
