use Rattle.std.proofs.Common.{length}
use Rattle.sealing.specs.Steps.{AreTold}
use Rattle.sealing.proofs.opener.found_in.Given as goal

-- the frames and beats so far are those of the records so far
abbrev pub invariant-loop-body : goal.invariant-loop-body
invariant-loop-body l = AreTold l.key l.first l.bytes l.frames.items l.beats.items l.rest l.count

abbrev pub decreases-loop-body : goal.decreases-loop-body
decreases-loop-body l = length l.rest
