use Rattle.eggprocs.proofs.EntryLemmas.{letin-one}
use Rattle.eggprocs.proofs.channel_laws.bots_invite_who_is_named.Goals as goal

pub returns : goal.returns
returns c = record { letin = letin-one }
