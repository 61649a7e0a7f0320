use Rattle.std.proofs.Common.{◌≡◌, take, map}
use Rattle.chanstate.specs.Seen.{detail_seen}
use Rattle.chanstate.proofs.telling.copies.Given as goal

-- a copy for each channel so far
abbrev pub invariant-loop-channel : goal.invariant-loop-channel
invariant-loop-channel l = l.details.items ≡ map (λ _. detail_seen l.parts) (take l._channel-index l.channels)
