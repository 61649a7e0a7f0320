use Rattle.std.proofs.lemmas.List.Edits.{map_over_more}
use Rattle.userfile.specs.Apply.{marked}
use Rattle.userfile.proofs.bans.set_sticky.Goals as goal

pub loop-ban-preserved : goal.loop-ban-preserved
loop-ban-preserved c =
    rw (c.mark.ensures, ← c.ban-item.is)
    (map_over_more (marked c.args.channel.now c.args.mask.now c.args.on) c.args.bans.now c.loop-ban.bans c.loop-ban.ban-index c.ban-item.result
    c.loop-ban-test.true c.loop-ban.invariant c.ban-item.is)
