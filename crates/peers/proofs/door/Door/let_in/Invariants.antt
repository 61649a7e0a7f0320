use Rattle.peers.specs.Drawn.{Draws, nonces_of}
use Rattle.peers.proofs.door.Door.let_in.Given as goal

-- what was drawn so far
abbrev pub invariant-loop-guest : goal.invariant-loop-guest
invariant-loop-guest g l =
    Draws (nonces_of l.fn.self.guests.list.items) (nonces_of l.self.guests.list.items) l.fn.dice.rolled l.dice.rolled
