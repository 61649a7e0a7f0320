use Rattle.std.proofs.Common.{◌≡◌, ◌++◌, drop}
use Rattle.protocol.specs.Journals.{replies_in}
use Rattle.sharelink.proofs.replies.replies_in.Given as goal

-- those so far and those that are left are all of them
abbrev pub invariant-loop-kept : goal.invariant-loop-kept
invariant-loop-kept l = l.replies.items ++ replies_in (drop l.kept-index l.held) ≡ replies_in l.held
