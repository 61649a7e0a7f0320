use Rattle.std.proofs.Common.{ap, ◌∙◌}
use Rattle.procs.specs.Kinds.{is_single}
use Rattle.procs.proofs.ApartLemmas.{absent-word}
use Rattle.procs.proofs.keep.add_word.Goals as goal

pub push_word-requires-clause-absent : goal.push_word-requires-clause-absent
push_word-requires-clause-absent c =
    absent-word c.kind-kind.result c.mask-mask.result.now _ _ c.reserve.new.self.items _ (ap is_single c.kind-kind.ensures ∙ c.requires.kind)
    c.in_ok-word.ensures c.drop_replaced.ensures.indexed.words c.drop_replaced.ensures.without
