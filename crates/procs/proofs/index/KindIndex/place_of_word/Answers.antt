use Rattle.std.proofs.Common.{sym}
use Rattle.std.specs.Str.{bytes_eq}
use Rattle.rfccase.specs.Casemapping.{folded}
use Rattle.procs.proofs.CandidateLemmas.{long-word, position-none}
use Rattle.procs.proofs.index.KindIndex.place_of_word.Goals as goal

pub returns-in-None : goal.returns-in-None
returns-in-None c =
    let keys = c.args.self.now.words.keys in
    sym (position-none (λ key. bytes_eq (folded c.args.word.now) key.items) keys (long-word c.args.word.now keys c.in-None.ensures c.requires.short))
