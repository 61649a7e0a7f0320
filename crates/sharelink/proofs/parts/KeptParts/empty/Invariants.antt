use Rattle.std.proofs.Common.{◌≡◌}
use Rattle.protocol.specs.Snapshots.{no_places}
use Rattle.sharelink.proofs.parts.KeptParts.empty.Given as goal

abbrev pub invariant-loop : goal.invariant-loop
invariant-loop l = l.parts.items ≡ no_places l.counter
