use Rattle.eggprocs.proofs.ChannelLemmas.{ctcp-own, ctcp-texts}
use Rattle.eggprocs.proofs.channel_laws.requests_are_to_the_bot.Goals as goal

pub returns : goal.returns
returns c = record { own = ctcp-own; texts = ctcp-texts }
