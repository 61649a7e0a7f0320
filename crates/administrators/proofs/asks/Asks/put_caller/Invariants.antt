use Rattle.std.proofs.Common.{◌≡◌, ◌++◌, replicate}
use Rattle.administrators.specs.Askers.{asker_in}
use Rattle.administrators.proofs.asks.Asks.put_caller.Given as goal

-- so many are put
abbrev pub invariant-loop-ask : goal.invariant-loop-ask
invariant-loop-ask l = record {
  last : l.self.askers.items ≡ l.fn.self.askers.items ++ replicate l._ask (asker_in l.call.call);
  same : l.self.asker ≡ l.fn.self.asker;
}
