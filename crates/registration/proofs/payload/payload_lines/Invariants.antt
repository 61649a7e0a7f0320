use Rattle.std.proofs.Common.{◌≡◌, ◌++◌, length}
use Rattle.registration.specs.Payloads.{payload_lines}
use Rattle.registration.proofs.payload.payload_lines.Given as goal

abbrev pub invariant-loop-rest : goal.invariant-loop-rest
invariant-loop-rest l = l.lines ++ payload_lines l.rest ≡ payload_lines l.text

abbrev pub decreases-loop-rest : goal.decreases-loop-rest
decreases-loop-rest l = length l.rest
