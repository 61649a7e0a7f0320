use Rattle.std.proofs.Common.{◌≡◌, map}
use Rattle.miniircd.proofs.turn.names_in.Given as goal

-- the pieces so far
abbrev pub invariant-loop-name : goal.invariant-loop-name
invariant-loop-name l = l.names.items ≡ map (λ x. x.now) l.yielded
