use Rattle.std.proofs.Common.{◌≡◌, ◌+◌, ◌++◌, take, drop, vec_len, vec_capacity}
use Rattle.peers.proofs.queue.move_first.Given as goal

-- so many are moved
abbrev pub invariant-loop-packet : goal.invariant-loop-packet
invariant-loop-packet l =
    (l.packets.items ≡ l.fn.packets.items ++ take l._packet l.fn.queue.items)
    × (l.queue.items ≡ drop l._packet l.fn.queue.items)
    × (vec_len l.packets ≡ vec_len l.fn.packets + l._packet)
    × (vec_capacity l.packets ≡ vec_capacity l.fn.packets)
