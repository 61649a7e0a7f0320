use Rattle.std.proofs.Common.{◌++◌, ◌∙◌, ap, arith}
use Rattle.recordtext.specs.Users.{found_ban}
use Rattle.recordtext.proofs.Lines.{bans-more}
use Rattle.recordtext.proofs.shows.put_bans.Goals as goal

pub loop-place-preserved : goal.loop-place-preserved
loop-place-preserved c =
    bans-more c.args.bot c.args.userfile.now.bans c.loop-place.place c.loop-place.out.items _ _ (omega arith)
    (c.in_ok-put_found_ban.ensures ∙ ap (λ found. c.loop-place.out.items ++ found_ban c.args.bot found) c.ban_at.ensures) c.loop-place.invariant
