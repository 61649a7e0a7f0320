use Rattle.std.proofs.Common.{◌≡◌, ◌++◌, replicate}
use Rattle.administrators.specs.declared.asks.Recipient.TheVariants.{Nobody}
use Rattle.administrators.proofs.asks.Asks.put_many.Given as goal

-- so many are put
abbrev pub invariant-loop-ask : goal.invariant-loop-ask
invariant-loop-ask l = record {
  last : l.self.askers.items ≡ l.fn.self.askers.items ++ replicate l._ask Nobody;
  same : l.self.asker ≡ l.fn.self.asker;
}
