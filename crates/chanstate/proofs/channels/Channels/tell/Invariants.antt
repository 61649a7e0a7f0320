use Rattle.std.proofs.Common.{◌≡◌}
use Rattle.std.specs.Vec.{vec_len}
use Rattle.chanstate.specs.Tellings.{told_each}
use Rattle.chanstate.proofs.channels.Channels.tell.Given as goal

-- those that are left tell what is left to tell
abbrev pub invariant-loop-detail : goal.invariant-loop-detail
invariant-loop-detail l = told_each l.mapping l.nick l.details.items l.self ≡ told_each l.mapping l.nick l.initial.details.items l.initial.self

abbrev pub decreases-loop-detail : goal.decreases-loop-detail
decreases-loop-detail l = vec_len l.details
