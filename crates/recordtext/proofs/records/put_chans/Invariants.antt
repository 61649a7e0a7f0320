use Rattle.std.proofs.Common.{◌≡◌, ◌++◌, drop}
use Rattle.std.specs.List.{flat_map}
use Rattle.recordtext.specs.Text.{chan_line}
use Rattle.recordtext.proofs.records.put_chans.Given as goal

abbrev pub invariant-loop-entry : goal.invariant-loop-entry
invariant-loop-entry l = l.out.items ++ flat_map (chan_line l.bot l.handle) (drop l.entry-index l.entries) ≡ l.fn.out.items ++ flat_map
    (chan_line l.bot l.handle) l.entries
