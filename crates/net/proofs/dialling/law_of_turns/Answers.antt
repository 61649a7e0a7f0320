use Rattle.net.proofs.TurnLemmas.{tried_soon}
use Rattle.net.proofs.dialling.law_of_turns.Goals as goal

pub returns : goal.returns
returns c = record { each = tried_soon }
