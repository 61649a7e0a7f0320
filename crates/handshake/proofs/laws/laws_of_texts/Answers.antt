use Rattle.handshake.proofs.TextLemmas.{directions, hub_one_reading, leaf_one_reading, use_of-hub, use_of-keys, use_of-leaf, use_of-refusal}
use Rattle.handshake.proofs.laws.laws_of_texts.Goals as goal

pub returns-clause-leaf : goal.returns-clause-leaf
returns-clause-leaf c = use_of-leaf

pub returns-clause-hub : goal.returns-clause-hub
returns-clause-hub c = use_of-hub

pub returns-clause-refusal : goal.returns-clause-refusal
returns-clause-refusal c = use_of-refusal

pub returns-clause-keys : goal.returns-clause-keys
returns-clause-keys c = use_of-keys

pub returns-clause-directions : goal.returns-clause-directions
returns-clause-directions c = directions

pub returns-clause-words : goal.returns-clause-words
returns-clause-words c = leaf_one_reading

pub returns-clause-answers : goal.returns-clause-answers
returns-clause-answers c = hub_one_reading
