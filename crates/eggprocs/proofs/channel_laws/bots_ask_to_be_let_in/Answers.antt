use Rattle.eggprocs.proofs.EntryLemmas.{needin-only, needin-refused}
use Rattle.eggprocs.proofs.channel_laws.bots_ask_to_be_let_in.Goals as goal

pub returns : goal.returns
returns c = record { needin = needin-only; refused = needin-refused }
