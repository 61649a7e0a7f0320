use Rattle.eggprocs.proofs.ChannelLemmas.{giveop-only, giveop-later}
use Rattle.eggprocs.proofs.channel_laws.bots_give_op_to_known_bots.Goals as goal

pub returns : goal.returns
returns c = record { giveop = giveop-only; later = giveop-later }
