use Rattle.std.proofs.Common.{◌++◌, ◌∷◌, [], ◌∙◌, ap, sym}
use Rattle.usercodec.specs.declared.records.Record.TheVariants as records
use Rattle.sharelink.proofs.Lists.{user-more}
use Rattle.sharelink.proofs.records.put_users.Goals as goal

pub loop-place-preserved : goal.loop-place-preserved
loop-place-preserved c =
    user-more c.loop-place.items.items _ _ c.args.userfile.now.users c.loop-place.place c.in-Some.user.now (sym c.in-Some.ensures)
    (c.in_ok-push.ensures.items ∙ ap (λ user. c.loop-place.items.items ++ records.User user ∷ []) c.in_ok-copy.ensures) c.loop-place.invariant
