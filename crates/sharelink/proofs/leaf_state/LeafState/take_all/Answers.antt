use Rattle.std.proofs.Common.{Some}
use Rattle.std.specs.Vec.Iter.{into_iter_items}
use Rattle.protocol.specs.LeafRules.{leaf_folded}
use Rattle.protocol.specs.Journals.{reads, leaf_record}
use Rattle.sharelink.proofs.Folding.{reads-more, reads-failed}
use Rattle.sharelink.proofs.leaf_state.LeafState.take_all.Goals as goal

pub loop-entry-preserved : goal.loop-entry-preserved
loop-entry-preserved c =
    reads-more leaf_record leaf_folded c.loop-entry.self c.take.new.self (into_iter_items c.loop-entry.entry-iterator) (into_iter_items c.next.new.self)
    c.in-Some.entry (reads leaf_record leaf_folded (Some c.args.self.now) c.args.entries) c.in-Some.ensures.steps.0 c.in-Ok.ensures.takes
    c.loop-entry.invariant

pub returns-in-Err : goal.returns-in-Err
returns-in-Err c =
    reads-failed leaf_record leaf_folded c.args.self.now c.loop-entry.self c.take.new.self c.take.new.self c.args.entries
    (into_iter_items c.loop-entry.entry-iterator) (into_iter_items c.next.new.self) c.in-Some.entry c.in-Err.error c.in-Some.ensures.steps.0
    c.in-Err.ensures.takes c.loop-entry.invariant
