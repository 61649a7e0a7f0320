use Rattle.std.proofs.Common.{◌≡◌, ◌++◌, take}
use Rattle.std.specs.List.{flat_map}
use Rattle.administrators.specs.Askers.{askers_of}
use Rattle.administrators.proofs.asks.Asks.put_callers.Given as goal

-- those of the calls so far are put
abbrev pub invariant-loop-call : goal.invariant-loop-call
invariant-loop-call l = record {
  last : l.self.askers.items ≡ l.fn.self.askers.items ++ flat_map askers_of (take l.call-index l.call-items);
  same : l.self.asker ≡ l.fn.self.asker;
}
