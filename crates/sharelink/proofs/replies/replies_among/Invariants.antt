use Rattle.std.proofs.Common.{◌≡◌, ◌++◌, drop}
use Rattle.protocol.specs.Journals.{replies_among}
use Rattle.sharelink.proofs.replies.replies_among.Given as goal

-- those so far and those that are left are all of them
abbrev pub invariant-loop-reply : goal.invariant-loop-reply
invariant-loop-reply l = l.kept ++ replies_among l.leaf (drop l.reply-index l.replies) ≡ replies_among l.leaf l.replies
