use Rattle.std.proofs.Common.{◌≡◌}
use Rattle.miniircd.specs.Mail.{readers}
use Rattle.miniircd.proofs.who.who.Given as goal

abbrev pub invariant-loop-member : goal.invariant-loop-member
invariant-loop-member l = readers l.post ≡ readers l.initial.post
