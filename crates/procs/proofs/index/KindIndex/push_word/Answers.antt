use Rattle.std.proofs.Common.{◌≡◌, ap, ◌∙◌}
use Rattle.indexmap.specs.IndexSet.{insert_key}
use Rattle.procs.proofs.WordLemmas.{texts_of, same_key, texts_of-insert_key}
use Rattle.procs.proofs.index.KindIndex.push_word.Goals as goal

pub returns-clause-words : goal.returns-clause-words
returns-clause-words c =
    let keys : c.insert.new.self.keys ≡ insert_key same_key c.args.self.now.words.keys c.args.word =
    rw c.unwrap.ensures at c.insert.ensures.keys in
    ap texts_of keys ∙ texts_of-insert_key c.args.word c.args.self.now.words.keys c.requires.absent
