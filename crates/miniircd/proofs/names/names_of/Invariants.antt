use Rattle.std.proofs.Common.{◌≡◌, take}
use Rattle.miniircd.specs.Lines.{names_of}
use Rattle.miniircd.proofs.names.names_of.Given as goal

-- the names of the members so far
abbrev pub invariant-loop-member : goal.invariant-loop-member
invariant-loop-member l = l.names.items ≡ names_of l.clients.slots (take l.member-index l.members)
