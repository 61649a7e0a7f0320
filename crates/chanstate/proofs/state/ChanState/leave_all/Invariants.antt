use Rattle.std.proofs.Common.{◌≡◌, map, filter}
use Rattle.rfccase.specs.Channels.{is_channel_name}
use Rattle.chanstate.specs.Items.{Left}
use Rattle.chanstate.specs.Steps.{steps}
use Rattle.chanstate.proofs.state.ChanState.leave_all.Given as goal

-- the nick has left the channels of the pieces so far
abbrev pub invariant-loop-piece : goal.invariant-loop-piece
invariant-loop-piece l = l.self ≡ steps (map (Left l.nick) (filter is_channel_name (map (λ x. x.now) l.yielded))) l.initial.self
