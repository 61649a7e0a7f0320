use Rattle.std.proofs.Common.{◌≡◌, drop}
use Rattle.botjournal.specs.Bases.{are_rising, rises_from}
use Rattle.botjournal.proofs.lists.rise.Given as goal

abbrev pub invariant-loop-reply : goal.invariant-loop-reply
invariant-loop-reply l = are_rising l.replies ≡ rises_from l.least (drop l.reply-index l.replies)
