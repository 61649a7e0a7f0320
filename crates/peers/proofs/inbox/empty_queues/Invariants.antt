use Rattle.std.proofs.Common.{◌≡◌, [], replicate}
use Rattle.peers.proofs.inbox.empty_queues.Given as goal

-- so many are made
abbrev pub invariant-loop-stream : goal.invariant-loop-stream
invariant-loop-stream l = l.queues.items ≡ replicate l._stream []
