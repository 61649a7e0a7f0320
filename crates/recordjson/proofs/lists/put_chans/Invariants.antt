use Rattle.std.proofs.Common.{◌≡◌, ◌++◌, drop}
use Rattle.recordjson.specs.Users.{chan_text}
use Rattle.recordjson.specs.Words.{listed}
use Rattle.recordjson.proofs.MemberLemmas.{left}
use Rattle.recordjson.proofs.lists.put_chans.Given as goal

abbrev pub invariant-loop-place : goal.invariant-loop-place
invariant-loop-place l = l.line ++ left chan_text l.place (drop l.place l.entries) ≡ l.fn.line ++ listed chan_text l.entries
