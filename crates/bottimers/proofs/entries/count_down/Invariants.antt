use Rattle.std.proofs.Common.{◌≡◌, ◌++◌, take, drop, map}
use Rattle.bottimers.specs.Countdown.{counted}
use Rattle.bottimers.proofs.entries.count_down.Given as goal

-- those so far are counted down
abbrev pub invariant-loop-entry : goal.invariant-loop-entry
invariant-loop-entry l =
    l.entries ≡ map (counted l.to) (take l.entry-index l.fn.entries) ++ drop l.entry-index l.fn.entries
