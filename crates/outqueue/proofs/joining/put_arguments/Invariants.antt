use Rattle.std.proofs.Common.{◌≡◌, ◌++◌, map, take}
use Rattle.std.specs.List.{concat}
use Rattle.outqueue.specs.Joining.{spaced_argument}
use Rattle.outqueue.proofs.joining.put_arguments.Given as goal

-- the arguments of the lines so far are appended
abbrev pub invariant-loop-one : goal.invariant-loop-one
invariant-loop-one l = l.line.items ≡ l.fn.line.items ++ concat (map spaced_argument (take l.one-index l.lines))
