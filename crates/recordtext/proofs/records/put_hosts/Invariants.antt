use Rattle.std.proofs.Common.{◌≡◌, ◌++◌, drop}
use Rattle.std.specs.List.{flat_map}
use Rattle.recordtext.specs.Text.{host_line}
use Rattle.recordtext.proofs.records.put_hosts.Given as goal

abbrev pub invariant-loop-mask : goal.invariant-loop-mask
invariant-loop-mask l = l.out.items ++ flat_map (host_line l.bot l.handle) (drop l.mask-index l.masks) ≡ l.fn.out.items ++ flat_map (host_line l.bot l.handle)
    l.masks
