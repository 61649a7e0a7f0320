use Rattle.std.proofs.Common.{◌≡◌, ◌++◌, drop}
use Rattle.std.specs.List.{flat_map}
use Rattle.replay.specs.Text.{call_line}
use Rattle.replay.proofs.outcomes.put_calls.Given as goal

abbrev pub invariant-loop-call : goal.invariant-loop-call
invariant-loop-call l = l.out.items ++ flat_map (call_line l.bot) (drop l.call-index l.calls) ≡ l.fn.out.items ++ flat_map (call_line l.bot) l.calls
