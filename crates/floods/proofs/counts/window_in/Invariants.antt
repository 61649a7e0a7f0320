use Rattle.std.proofs.Common.{◌≡◌, drop}
use Rattle.floods.specs.Windows.{window_in}
use Rattle.floods.proofs.counts.window_in.Given as goal

-- none of those so far
abbrev pub invariant-loop-count : goal.invariant-loop-count
invariant-loop-count l = window_in (drop l.count-index l.counts) l.act l.now ≡ window_in l.counts l.act l.now
