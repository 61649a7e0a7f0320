use Rattle.std.proofs.Common.{◌≡◌, drop}
use Rattle.botcore.specs.Acting.{actions_of}
use Rattle.botcore.proofs.calls.asks_any.Given as goal

-- the calls so far ask for nothing
abbrev pub invariant-loop-call : goal.invariant-loop-call
invariant-loop-call l = actions_of (drop l.call-index l.calls) ≡ actions_of l.calls
