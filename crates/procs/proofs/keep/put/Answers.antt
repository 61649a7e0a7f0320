use Rattle.std.proofs.Common.{ap, ◌∙◌, arith}
use Rattle.procs.specs.Kinds.{place_of}
use Rattle.procs.proofs.IndexLemmas.{index-at, AreIndexed-set, others-put}
use Rattle.procs.proofs.keep.put.Goals as goal

pub add_word-requires-clause-indexed : goal.add_word-requires-clause-indexed
add_word-requires-clause-indexed c =
    index-at c.args.held.now.items c.args.indexes.now c.args.one.kind c.place_of.result c.index-indexes-place_of.result c.requires.indexed
    (c.place_of.ensures.place ∙ ap place_of c.kind-kind.ensures) (omega arith)

pub add_mask-requires-clause-indexed : goal.add_mask-requires-clause-indexed
add_mask-requires-clause-indexed c =
    index-at c.args.held.now.items c.args.indexes.now c.args.one.kind c.place_of.result c.index-indexes-place_of.result c.requires.indexed
    (c.place_of.ensures.place ∙ ap place_of c.kind-kind.ensures) (omega arith)

pub returns-then-is_single-clause-indexed : goal.returns-then-is_single-clause-indexed
returns-then-is_single-clause-indexed c =
    AreIndexed-set c.args.held.now.items c.add_word.new.held.items c.args.indexes.now c.args.one.kind c.place_of.result c.add_word.new.index c.requires.indexed
    (c.place_of.ensures.place ∙ ap place_of c.kind-kind.ensures) (omega arith) c.add_word.ensures.indexed
    (λ other apart. others-put other c.args.one c.args.held.now.items c.add_word.new.held.items c.add_word.result apart c.add_word.ensures.ok
    c.add_word.ensures.err)

pub returns-else-is_single-clause-indexed : goal.returns-else-is_single-clause-indexed
returns-else-is_single-clause-indexed c =
    AreIndexed-set c.args.held.now.items c.add_mask.new.held.items c.args.indexes.now c.args.one.kind c.place_of.result c.add_mask.new.index c.requires.indexed
    (c.place_of.ensures.place ∙ ap place_of c.kind-kind.ensures) (omega arith) c.add_mask.ensures.indexed
    (λ other apart. others-put other c.args.one c.args.held.now.items c.add_mask.new.held.items c.add_mask.result apart c.add_mask.ensures.ok
    c.add_mask.ensures.err)
