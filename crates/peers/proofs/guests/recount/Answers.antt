use Rattle.std.proofs.Common.{◌∙◌}
use Rattle.peers.proofs.DiceLemmas.{nonces_set}
use Rattle.peers.proofs.guests.recount.Goals as goal

pub loop-guest-preserved : goal.loop-guest-preserved
loop-guest-preserved c =
    nonces_set c.loop-guest.guests c.loop-guest.guest-index c.set_crowd.new.guest c.guest-item.result c.set_crowd.ensures
    ∙ c.loop-guest.invariant
