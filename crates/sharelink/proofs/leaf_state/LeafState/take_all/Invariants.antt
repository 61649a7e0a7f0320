use Rattle.std.proofs.Common.{◌≡◌, Some}
use Rattle.std.specs.Vec.Iter.{into_iter_items}
use Rattle.protocol.specs.LeafRules.{leaf_folded}
use Rattle.protocol.specs.Journals.{reads, leaf_record}
use Rattle.sharelink.proofs.leaf_state.LeafState.take_all.Given as goal

-- those that are left make of the state what all make of the first one
abbrev pub invariant-loop-entry : goal.invariant-loop-entry
invariant-loop-entry l =
    reads leaf_record leaf_folded (Some l.self) (into_iter_items l.entry-iterator) ≡ reads leaf_record leaf_folded (Some l.fn.self) l.fn.entries
