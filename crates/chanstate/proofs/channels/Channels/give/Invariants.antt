use Rattle.std.proofs.Common.{◌≡◌}
use Rattle.std.specs.Vec.{vec_len}
use Rattle.chanstate.specs.Takes.{given}
use Rattle.chanstate.proofs.channels.Channels.give.Given as goal

-- those that are left give back what is left to give back
abbrev pub invariant-loop-take : goal.invariant-loop-take
invariant-loop-take l = given l.done l.takes.items l.self ≡ given l.done l.initial.takes.items l.initial.self

abbrev pub decreases-loop-take : goal.decreases-loop-take
decreases-loop-take l = vec_len l.takes
