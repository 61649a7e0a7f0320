use Rattle.std.proofs.Common.{◌≡◌, ◌-◌, length}
use Rattle.administrators.proofs.unanswered.tell_unanswered.Given as goal

-- the others still wait
abbrev pub invariant-loop-ask : goal.invariant-loop-ask
invariant-loop-ask l = record {
  left : length l.asks.askers.items ≡ l._ask-end - l._ask;
  server : l.uplink.session ≡ l.fn.uplink.session;
}
