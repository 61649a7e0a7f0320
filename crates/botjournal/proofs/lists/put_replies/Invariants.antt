use Rattle.std.proofs.Common.{◌≡◌, ◌++◌, length, take}
use Rattle.std.specs.Int.{w16}
use Rattle.std.specs.List.{flat_map}
use Rattle.usercodec.specs.Fields.{number}
use Rattle.botjournal.specs.Bases.{reply_bytes}
use Rattle.botjournal.proofs.lists.put_replies.Given as goal

abbrev pub invariant-loop-reply : goal.invariant-loop-reply
invariant-loop-reply l = l.out.items ≡ l.fn.out.items ++ (number w16 (length l.replies) ++ flat_map reply_bytes (take l.reply-index l.replies))
