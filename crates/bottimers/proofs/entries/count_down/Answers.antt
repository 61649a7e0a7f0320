use Rattle.std.proofs.lemmas.List.Edits.{map_over_more}
use Rattle.bottimers.specs.Countdown.{counted}
use Rattle.bottimers.proofs.entries.count_down.Goals as goal

pub loop-entry-preserved : goal.loop-entry-preserved
loop-entry-preserved c =
    rw (c.count_down.ensures, ← c.entry-item.is)
    (map_over_more (counted c.args.to) c.args.entries.now c.loop-entry.entries c.loop-entry.entry-index c.entry-item.result c.loop-entry-test.true
    c.loop-entry.invariant c.entry-item.is)
