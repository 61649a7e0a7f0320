use Rattle.std.proofs.Common.{◌≡◌}
use Rattle.slab.specs.Slab.{entries_from}
use Rattle.miniircd.specs.People.{first_called}
use Rattle.miniircd.proofs.people.holder.Given as goal

-- the first that is called so of all is the first of those that are left
abbrev pub invariant-loop-client : goal.invariant-loop-client
invariant-loop-client l =
    (goal.iterator-loop-client).can_next l.client-iterator ×
    (goal.iterator-loop-client).is_finite l.client-iterator ×
    (first_called l.nick l.client-iterator ≡ first_called l.nick (entries_from 0 l.clients.slots))
