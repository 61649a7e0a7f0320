use Rattle.std.proofs.Common.{◌≡◌}
use Rattle.protocol.specs.Journals.{replies_of}
use Rattle.sharelink.proofs.replies.replies_of.Given as goal

abbrev pub invariant-loop-place : goal.invariant-loop-place
invariant-loop-place l = l.held.items ≡ replies_of 1 l.place l.replies
