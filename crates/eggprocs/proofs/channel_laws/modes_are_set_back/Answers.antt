use Rattle.eggprocs.proofs.ChannelLemmas.{keepmodes-only}
use Rattle.eggprocs.proofs.channel_laws.modes_are_set_back.Goals as goal

pub returns : goal.returns
returns c = record { keepmodes = keepmodes-only }
