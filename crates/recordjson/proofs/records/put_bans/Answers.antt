use Rattle.std.proofs.Common.{◌++◌, ◌∙◌, ap, arith}
use Rattle.recordjson.specs.Bans.{ban_text}
use Rattle.recordjson.specs.Words.{found}
use Rattle.recordjson.proofs.MemberLemmas.{members-all, members-more}
use Rattle.recordjson.proofs.records.put_bans.Goals as goal

pub loop-place-preserved : goal.loop-place-preserved
loop-place-preserved c =
    members-more ban_text c.args.userfile.now.bans c.loop-place.place c.loop-place.line _ _ _ (omega arith) c.in_ok-put_comma.ensures
    (c.in_ok-put_found_ban.ensures ∙ ap (λ x. c.put_comma.new.self ++ found ban_text x) c.ban_at.ensures) c.loop-place.invariant

pub returns : goal.returns
returns c = members-all ban_text c.args.userfile.now.bans c.loop-place.place c.loop-place.line _ (omega arith) c.loop-place.invariant
