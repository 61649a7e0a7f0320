use Rattle.std.proofs.Common.{get_or, arith}
use Rattle.std.proofs.lemmas.List.{get_or_default}
use Rattle.std.proofs.lemmas.List.Edits.{map_over_more}
use Rattle.rfccase.specs.Casemapping.{low_by}
use Rattle.rfccase.proofs.folds.fold_slice_by.Goals as goal

pub loop-byte-preserved : goal.loop-byte-preserved
loop-byte-preserved c =
    rw c.fold_by.ensures
    (map_over_more (low_by c.args.mapping) c.args.text.now c.loop-byte.text c.loop-byte.byte-index (get_or c.loop-byte.text c.loop-byte.byte-index 0)
    (omega arith) c.loop-byte.invariant
    (get_or_default c.loop-byte.text c.loop-byte.byte-index 0 _ (omega arith)))
