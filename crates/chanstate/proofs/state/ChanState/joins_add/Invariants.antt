use Rattle.std.proofs.Common.{◌≡◌, false, map, filter}
use Rattle.std.specs.List.{list_any}
use Rattle.chanstate.specs.Items.{is_channel_on}
use Rattle.chanstate.specs.Memory.{join_adds}
use Rattle.chanstate.proofs.state.ChanState.joins_add.Given as goal

-- no join on a channel so far brings a text
abbrev pub invariant-loop-piece : goal.invariant-loop-piece
invariant-loop-piece l =
    list_any (λ name. join_adds l.nick name l.self) (filter (is_channel_on l.self.support) (map (λ x. x.now) l.yielded)) ≡ false
