use Rattle.std.proofs.Common.{◌≡◌, take, sum_by}
use Rattle.administrators.specs.Askers.{asks_of, at_most_usize}
use Rattle.administrators.proofs.asks.asks_in.Given as goal

-- those of the calls so far
abbrev pub invariant-loop-call : goal.invariant-loop-call
invariant-loop-call l = l.count ≡ at_most_usize (sum_by asks_of (take l.call-index l.call-items))
