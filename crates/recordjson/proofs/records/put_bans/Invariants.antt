use Rattle.std.proofs.Common.{◌≡◌, ◌++◌, drop}
use Rattle.recordjson.specs.Bans.{ban_text}
use Rattle.recordjson.specs.Words.{listed}
use Rattle.recordjson.proofs.MemberLemmas.{left}
use Rattle.recordjson.proofs.records.put_bans.Given as goal

abbrev pub invariant-loop-place : goal.invariant-loop-place
invariant-loop-place l = l.line ++ left ban_text l.place (drop l.place l.userfile.bans) ≡ l.fn.line ++ listed ban_text l.userfile.bans
