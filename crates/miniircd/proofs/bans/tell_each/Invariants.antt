use Rattle.std.proofs.Common.{◌≡◌}
use Rattle.miniircd.specs.Mail.{readers}
use Rattle.miniircd.proofs.bans.tell_each.Given as goal

abbrev pub invariant-loop-ban : goal.invariant-loop-ban
invariant-loop-ban l = readers l.post ≡ readers l.initial.post
