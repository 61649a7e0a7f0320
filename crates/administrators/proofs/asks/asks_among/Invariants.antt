use Rattle.std.proofs.Common.{◌≡◌, ◌≤◌, take, count_by}
use Rattle.administrators.specs.Askers.{is_ask}
use Rattle.administrators.proofs.asks.asks_among.Given as goal

-- those of the actions so far
abbrev pub invariant-loop-action : goal.invariant-loop-action
invariant-loop-action l = record {
  few : l.count ≤ l.action-index;
  asks : l.count ≡ count_by is_ask (take l.action-index l.actions);
}
