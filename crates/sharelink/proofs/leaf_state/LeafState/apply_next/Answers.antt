use Rattle.userfile.proofs.SoundLemmas.{first_none}
use Rattle.sharelink.proofs.leaf_state.LeafState.apply_next.Goals as goal

pub know_change-requires : goal.know_change-requires
know_change-requires g c = (first_none c.requires.taken).0
