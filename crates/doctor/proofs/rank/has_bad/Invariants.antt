use Rattle.std.proofs.Common.{◌≡◌, drop}
use Rattle.std.specs.List.{list_any}
use Rattle.doctor.specs.Status.{is_bad}
use Rattle.doctor.proofs.rank.has_bad.Given as goal

-- the ranks that are left decide
abbrev pub invariant-loop-rank : goal.invariant-loop-rank
invariant-loop-rank l = list_any is_bad l.fn.ranks ≡ list_any is_bad (drop l.rank-index l.ranks)
