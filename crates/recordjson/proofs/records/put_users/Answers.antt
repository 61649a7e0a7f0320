use Rattle.std.proofs.Common.{◌++◌, ◌∙◌, ap, arith}
use Rattle.recordjson.specs.Users.{user_text}
use Rattle.recordjson.specs.Words.{found}
use Rattle.recordjson.proofs.MemberLemmas.{members-all, members-more}
use Rattle.recordjson.proofs.records.put_users.Goals as goal

pub loop-place-preserved : goal.loop-place-preserved
loop-place-preserved c =
    members-more user_text c.args.userfile.now.users c.loop-place.place c.loop-place.line _ _ _ (omega arith) c.in_ok-put_comma.ensures
    (c.in_ok-put_found_user.ensures ∙ ap (λ x. c.put_comma.new.self ++ found user_text x) c.user_at.ensures) c.loop-place.invariant

pub returns : goal.returns
returns c = members-all user_text c.args.userfile.now.users c.loop-place.place c.loop-place.line _ (omega arith) c.loop-place.invariant
