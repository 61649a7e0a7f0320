use Rattle.std.proofs.Common.{◌∙◌, ◌++◌, ◌∷◌, [], ap, arith}
use Rattle.eggprocs.proofs.BanLines.{told_ban-more}
use Rattle.eggprocs.proofs.marks.some_bans.Goals as goal

pub loop-count-preserved : goal.loop-count-preserved
loop-count-preserved c =
    told_ban-more c.args.call.now c.args.userfile.now.bans c.args.left_out c.loop-count.count c.in-Some.ban.now c.loop-count.actions c.push.new.self
    (grind (arith, c.in-Some.ensures, c.from.ensures)) c.loop-count.invariant
    (c.in-Ok.ensures.1 ∙ ap (λ action. c.loop-count.actions ++ action ∷ []) c.in_ok-told_ban.ensures)
