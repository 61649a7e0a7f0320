use Rattle.std.proofs.Common.{◌++◌, ◌∙◌, ap, arith}
use Rattle.recordtext.specs.Users.{found_user}
use Rattle.recordtext.proofs.Lines.{users-more}
use Rattle.recordtext.proofs.shows.put_users.Goals as goal

pub loop-place-preserved : goal.loop-place-preserved
loop-place-preserved c =
    users-more c.args.bot c.args.userfile.now.users c.loop-place.place c.loop-place.out.items _ _ (omega arith)
    (c.in_ok-put_found_user.ensures ∙ ap (λ found. c.loop-place.out.items ++ found_user c.args.bot found) c.user_at.ensures) c.loop-place.invariant
