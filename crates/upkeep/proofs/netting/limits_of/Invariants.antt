use Rattle.std.proofs.Common.{◌≡◌, map, take}
use Rattle.upkeep.specs.Stations.{limit_in}
use Rattle.upkeep.proofs.netting.limits_of.Given as goal

-- those of the lines so far
abbrev pub invariant-loop-line : goal.invariant-loop-line
invariant-loop-line l = l.limits.items ≡ map limit_in (take l.line-index l.line-items)
