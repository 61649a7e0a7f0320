use Rattle.eggprocs.proofs.ChannelLemmas.{dynamicbans-own, dynamicbans-sticky}
use Rattle.eggprocs.proofs.channel_laws.dynamic_bans_are_the_bots_own.Goals as goal

pub returns : goal.returns
returns c = record { own = dynamicbans-own; sticky = dynamicbans-sticky }
