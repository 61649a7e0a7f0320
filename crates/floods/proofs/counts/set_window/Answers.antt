use Rattle.std.proofs.lemmas.List.Edits.{map_over_more}
use Rattle.floods.specs.declared.counts.Count.{Count}
use Rattle.floods.specs.Windows.{with_window}
use Rattle.floods.proofs.counts.set_window.Goals as goal

pub loop-count-preserved : goal.loop-count-preserved
loop-count-preserved c =
    rw (c.set_window.ensures, ← c.count-item.is)
    (map_over_more (λ (count : Count). with_window c.args.act.now c.args.window count) c.args.counts.now c.loop-count.counts
    c.loop-count.count-index c.count-item.result c.loop-count-test.true c.loop-count.invariant c.count-item.is)
