use Rattle.std.proofs.Common.{◌≡◌, ◌≤◌, length, take, drop, vec_len, vec_capacity}
use Rattle.std.specs.List.{AllByRecursion}
use Rattle.sharelink.specs.Shapes.{HasGoodRecords}
use Rattle.peers.specs.declared.queue.TheConstants.{MAX_PACKETS}
use Rattle.peers.specs.Waiting.{round_of}
use Rattle.peers.proofs.inbox.ask_all.Given as goal

-- the streams so far are asked
abbrev pub invariant-loop-queue : goal.invariant-loop-queue
invariant-loop-queue l =
    (round_of (take l.queue-index l.fn.queues)
    ≡ record { given = l.packets.items; left = take l.queue-index l.queues; served = l.served })
    × (drop l.queue-index l.queues ≡ drop l.queue-index l.fn.queues)
    × (length l.queues ≡ length l.fn.queues)
    × (vec_len l.packets ≤ MAX_PACKETS)
    × (vec_capacity l.packets ≡ vec_capacity l.fn.packets)
    × AllByRecursion HasGoodRecords l.packets.items
    × (l.served ≤ l.queue-index)
