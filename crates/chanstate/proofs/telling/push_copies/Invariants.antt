use Rattle.std.proofs.Common.{◌≡◌, ◌++◌, map}
use Rattle.chanstate.specs.Seen.{detail_seen}
use Rattle.chanstate.proofs.telling.push_copies.Given as goal

-- a copy for each piece so far
abbrev pub invariant-loop-piece : goal.invariant-loop-piece
invariant-loop-piece l = l.details.items ≡ l.initial.details.items ++ map (λ _. detail_seen l.parts) (map (λ x. x.now) l.yielded)
