use Rattle.std.proofs.Common.{ap, ◌∙◌}
use Rattle.indexmap.proofs.SetLemmas.{map-remove}
use Rattle.procs.proofs.WordLemmas.{texts_of}
use Rattle.procs.proofs.index.KindIndex.remove.Goals as goal

pub returns-clause-words : goal.returns-clause-words
returns-clause-words c =
    ap texts_of c.shift_remove_index-word.ensures.keys ∙ map-remove (λ key. key.items) c.args.self.now.words.keys c.args.at
