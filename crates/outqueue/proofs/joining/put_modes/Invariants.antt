use Rattle.std.proofs.Common.{◌≡◌, ◌++◌, map, take}
use Rattle.std.specs.List.{concat}
use Rattle.outqueue.specs.Joining.{mode_of}
use Rattle.outqueue.proofs.joining.put_modes.Given as goal

-- the modes of the lines so far are appended
abbrev pub invariant-loop-one : goal.invariant-loop-one
invariant-loop-one l = l.line.items ≡ l.fn.line.items ++ concat (map mode_of (take l.one-index l.lines))
