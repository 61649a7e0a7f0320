use Rattle.std.proofs.Common.{◌≡◌, drop}
use Rattle.botjournal.specs.Bases.{may_follow}
use Rattle.botjournal.proofs.lists.may_follow.Given as goal

abbrev pub invariant-loop-reply : goal.invariant-loop-reply
invariant-loop-reply l = may_follow l.fn.first 1 l.replies ≡ may_follow l.before l.count (drop l.reply-index l.replies)
