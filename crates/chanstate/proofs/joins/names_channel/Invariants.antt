use Rattle.std.proofs.Common.{◌≡◌, false, map}
use Rattle.std.specs.List.{list_any}
use Rattle.chanstate.specs.Items.{is_channel_on}
use Rattle.chanstate.proofs.joins.names_channel.Given as goal

-- no piece so far is the name of a channel
abbrev pub invariant-loop-piece : goal.invariant-loop-piece
invariant-loop-piece l = list_any (is_channel_on l.support) (map (λ x. x.now) l.yielded) ≡ false
