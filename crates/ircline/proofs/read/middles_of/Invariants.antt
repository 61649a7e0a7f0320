use Rattle.std.proofs.Common.{◌≡◌, ◌++◌, ◌-◌}
use Rattle.ircline.specs.Reading.{params_at, params_of}
use Rattle.ircline.proofs.read.middles_of.Given as goal

-- the parameters so far, and those of the text that is left, are all of them
abbrev pub invariant-loop : goal.invariant-loop
invariant-loop l = l.params.items ++ params_at (14 - l.counter) l.text ≡ params_of l.tail
