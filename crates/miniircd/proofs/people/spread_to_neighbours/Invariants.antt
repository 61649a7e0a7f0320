use Rattle.std.proofs.Common.{◌≡◌}
use Rattle.miniircd.specs.Mail.{readers}
use Rattle.miniircd.proofs.people.spread_to_neighbours.Given as goal

abbrev pub invariant-loop-other : goal.invariant-loop-other
invariant-loop-other l =
    (goal.iterator-loop-other).can_next l.other-iterator ×
    (goal.iterator-loop-other).is_finite l.other-iterator ×
    (readers l.post ≡ readers l.initial.post)
