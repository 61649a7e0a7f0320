use Rattle.botcore.proofs.PutLemmas.{IsPutting}
use Rattle.botcore.proofs.putting.put_all.Given as goal

-- the lines so far are put
abbrev pub invariant-loop-wish : goal.invariant-loop-wish
invariant-loop-wish l = IsPutting l.fn.manner l.fn.queues l.fn.faults l.fn.wishes.items l.queues l.faults l.wish-iterator.rest.items
