use Rattle.peers.proofs.SpeakerLemmas.{own_said}
use Rattle.peers.proofs.seat.is_own.Goals as goal

pub returns : goal.returns
returns c = own_said c.args.leaf _ _ c.is_said_by.ensures
