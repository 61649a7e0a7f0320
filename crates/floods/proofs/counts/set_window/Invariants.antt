use Rattle.std.proofs.Common.{◌≡◌, ◌++◌, map, take, drop}
use Rattle.floods.specs.Windows.{with_window}
use Rattle.floods.proofs.counts.set_window.Given as goal

-- the counts before the index have the window if it is theirs, and the rest are as they were
abbrev pub invariant-loop-count : goal.invariant-loop-count
invariant-loop-count l =
    l.counts ≡ map (λ count. with_window l.act l.window count) (take l.count-index l.initial.counts) ++ drop l.count-index l.initial.counts
