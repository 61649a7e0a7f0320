use Rattle.std.proofs.Common.{◌≡◌, drop}
use Rattle.registration.specs.Lists.{tail_after}
use Rattle.registration.proofs.lists.tail_after.Given as goal

abbrev pub invariant-loop-i : goal.invariant-loop-i
invariant-loop-i l = tail_after l.between l.name (drop l.i l.list) ≡ tail_after l.between l.name l.list
