use Rattle.std.proofs.Common.{◌≡◌, take}
use Rattle.miniircd.specs.Mail.{posted}
use Rattle.miniircd.specs.Lines.{spread}
use Rattle.miniircd.proofs.replies.spread.Given as goal

-- the line has gone to the members so far
abbrev pub invariant-loop-member : goal.invariant-loop-member
invariant-loop-member l = l.post ≡ posted (spread l.text (take l.member-index l.members)) l.initial.post
