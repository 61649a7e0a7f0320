use Rattle.std.proofs.Common.{◌≡◌, ◌≤◌, drop}
use Rattle.resolver.specs.Names.{are_labels}
use Rattle.resolver.proofs.names.are_labels.Given as goal

abbrev pub invariant-loop-byte : goal.invariant-loop-byte
invariant-loop-byte l = (l.run ≤ l.byte-index) × (are_labels l.run (drop l.byte-index l.name) ≡ are_labels 0 l.name)
