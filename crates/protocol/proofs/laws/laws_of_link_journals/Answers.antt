use Rattle.protocol.proofs.Journals.{hub_reads_back, hub_state_kept, leaf_reads_back, leaf_state_kept}
use Rattle.protocol.proofs.laws.laws_of_link_journals.Goals as goal

pub returns-clause-hub : goal.returns-clause-hub
returns-clause-hub c = hub_reads_back

pub returns-clause-hub_state : goal.returns-clause-hub_state
returns-clause-hub_state c = hub_state_kept

pub returns-clause-leaf : goal.returns-clause-leaf
returns-clause-leaf c = leaf_reads_back

pub returns-clause-leaf_state : goal.returns-clause-leaf_state
returns-clause-leaf_state c = leaf_state_kept
