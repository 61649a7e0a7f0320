use Rattle.std.proofs.Common.{get_or, arith}
use Rattle.std.proofs.lemmas.List.{get_or_default}
use Rattle.std.proofs.lemmas.List.Edits.{map_over_more}
use Rattle.userfile.specs.Index.{moved_up}
use Rattle.userfile.proofs.index.move_up.Goals as goal

pub loop-held-preserved : goal.loop-held-preserved
loop-held-preserved c =
    rw c.moved_up.ensures
    (map_over_more (moved_up c.args.place) c.args.group.now c.loop-held.group c.loop-held.held-index
    (get_or c.loop-held.group c.loop-held.held-index c.held-item.result) (omega arith) c.loop-held.invariant
    (get_or_default c.loop-held.group c.loop-held.held-index c.held-item.result _ (omega arith)))
