use Rattle.std.proofs.Common.{◌≡◌}
use Rattle.miniircd.specs.Mail.{posted}
use Rattle.miniircd.specs.Lines.{listed_before}
use Rattle.miniircd.proofs.names.list_names.Given as goal

-- the lines of names so far have gone out
abbrev pub invariant-loop-i : goal.invariant-loop-i
invariant-loop-i l = l.post ≡ posted (listed_before l.me.key l.me.person.now l.name l.names l.i) l.initial.post
