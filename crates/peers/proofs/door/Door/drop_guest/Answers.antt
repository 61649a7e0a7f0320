use Rattle.peers.proofs.DiceLemmas.{among_self}
use Rattle.peers.proofs.door.Door.drop_guest.Goals as goal

pub returns-then-place-len : goal.returns-then-place-len
returns-then-place-len c = record { nonces = among_self _ }
