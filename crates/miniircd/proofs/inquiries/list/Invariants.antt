use Rattle.std.proofs.Common.{◌≡◌}
use Rattle.miniircd.specs.Mail.{readers}
use Rattle.miniircd.proofs.inquiries.list.Given as goal

abbrev pub invariant-loop-channel : goal.invariant-loop-channel
invariant-loop-channel l = readers l.post ≡ readers l.initial.post
