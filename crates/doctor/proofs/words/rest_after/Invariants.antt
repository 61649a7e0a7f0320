use Rattle.std.proofs.Common.{◌≡◌, map, option_map}
use Rattle.doctor.specs.Words.{rest_on}
use Rattle.doctor.proofs.words.rest_after.Given as goal

-- what follows the label on the first of the lines so far
abbrev pub invariant-loop-line : goal.invariant-loop-line
invariant-loop-line l = option_map (λ rest. rest.now) l.found ≡ rest_on l.fn.label (map (λ line. line.now) l.yielded)
