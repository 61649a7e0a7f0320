use Rattle.std.proofs.Common.{◌≡◌, ◌++◌, ◌+◌, ◌≤◌, length, vec_len, vec_capacity}
use Rattle.botworld.specs.Net.{posted}
use Rattle.botworld.proofs.world.send_all.Given as goal

-- the packets so far and those that are left are all of them, and there is room for the rest
abbrev pub invariant-loop-one : goal.invariant-loop-one
invariant-loop-one l =
    (l.packets.items ++ posted l.bot l.one-iterator.rest.items ≡ l.fn.packets.items ++ posted l.bot l.fn.outgoing.items)
    × (vec_len l.packets + length l.one-iterator.rest.items ≤ vec_capacity l.packets)
