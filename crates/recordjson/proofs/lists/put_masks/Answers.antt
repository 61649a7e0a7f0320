use Rattle.std.proofs.Common.{◌++◌, ◌∙◌, ap, arith}
use Rattle.recordjson.specs.Words.{quoted}
use Rattle.recordjson.specs.Words.{found}
use Rattle.recordjson.proofs.MemberLemmas.{members-all, members-more}
use Rattle.recordjson.proofs.lists.put_masks.Goals as goal

pub loop-place-preserved : goal.loop-place-preserved
loop-place-preserved c =
    members-more quoted c.args.masks.now c.loop-place.place c.loop-place.line _ _ _ (omega arith) c.in_ok-put_comma.ensures
    (c.in_ok-put_found_mask.ensures ∙ ap (λ x. c.put_comma.new.self ++ found quoted x) c.mask_at.ensures) c.loop-place.invariant

pub returns : goal.returns
returns c = members-all quoted c.args.masks.now c.loop-place.place c.loop-place.line _ (omega arith) c.loop-place.invariant
