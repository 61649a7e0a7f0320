use Rattle.std.proofs.Common.{◌≡◌, ◌++◌, drop}
use Rattle.recordjson.specs.Users.{user_text}
use Rattle.recordjson.specs.Words.{listed}
use Rattle.recordjson.proofs.MemberLemmas.{left}
use Rattle.recordjson.proofs.records.put_users.Given as goal

abbrev pub invariant-loop-place : goal.invariant-loop-place
invariant-loop-place l = l.line ++ left user_text l.place (drop l.place l.userfile.users) ≡ l.fn.line ++ listed user_text l.userfile.users
