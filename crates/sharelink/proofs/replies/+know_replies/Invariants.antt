use Rattle.std.proofs.Common.{length}
use Rattle.sharelink.proofs.replies.+know_replies.Given as goal

abbrev pub decreases-know_replies : goal.decreases-know_replies
decreases-know_replies l = length l.replies.now
