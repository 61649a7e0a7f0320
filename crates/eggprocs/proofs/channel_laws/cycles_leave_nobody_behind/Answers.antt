use Rattle.eggprocs.proofs.ChannelLemmas.{cycle-alone, cycle-without_op}
use Rattle.eggprocs.proofs.channel_laws.cycles_leave_nobody_behind.Goals as goal

pub returns : goal.returns
returns c = record { alone = cycle-alone; without_op = cycle-without_op }
