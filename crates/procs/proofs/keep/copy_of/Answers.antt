use Rattle.std.proofs.Common.{◌≡◌, List, sym, subst, ◌∙◌, arith}
use Rattle.procs.specs.declared.bind.Bind.{Bind}
use Rattle.procs.specs.Index.{AreIndexed}
use Rattle.procs.specs.Sound.{AreApart}
use Rattle.procs.proofs.SoundLemmas.{apart-take, put-copy, take-all}
use Rattle.procs.proofs.keep.copy_of.Goals as goal

pub loop-one-init : goal.loop-one-init
loop-one-init c =
    record {
      copied = c.in_ok-copies.ensures.items;
      indexed = subst (λ (bs : List Bind). AreIndexed bs c.no_indexes-indexes.result) (sym c.in_ok-copies.ensures.items) c.no_indexes-indexes.ensures;
    }

pub put-requires-clause-apart : goal.put-requires-clause-apart
put-requires-clause-apart c = subst AreApart (sym c.loop-one.invariant.copied) (apart-take c.loop-one.one-index c.args.held.now c.requires)

pub put-requires-clause-indexed : goal.put-requires-clause-indexed
put-requires-clause-indexed c = c.loop-one.invariant.indexed

pub loop-one-preserved : goal.loop-one-preserved
loop-one-preserved c =
    record {
      copied =
          put-copy c.loop-one.one-index c.args.held.now c.loop-one.copies.items c.put.new.held.items c.one-item.result c.in_ok-copy.field-0
          c.requires (omega arith)
          c.one-item.is c.in_ok-copy.ensures c.loop-one.invariant.copied c.in_ok-put.ensures.ok;
      indexed = c.put.ensures.indexed;
    }

pub returns : goal.returns
returns c =
    let all : c.loop-one.copies.items ≡ c.args.held.now = c.loop-one.invariant.copied ∙ take-all c.loop-one.one-index c.args.held.now (omega arith) in
    (all, subst (λ (bs : List Bind). AreIndexed bs c.loop-one.indexes) all c.loop-one.invariant.indexed)
