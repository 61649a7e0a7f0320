use Rattle.std.proofs.Common.{◌≡◌, map, filter}
use Rattle.chanstate.specs.Items.{is_channel_on}
use Rattle.chanstate.specs.Channels.{opened}
use Rattle.chanstate.specs.Members.{unmarked}
use Rattle.chanstate.proofs.joins.opened_each.Given as goal

-- the channels of the pieces so far
abbrev pub invariant-loop-piece : goal.invariant-loop-piece
invariant-loop-piece l = l.channels.items
    ≡ map (λ name. opened name (unmarked l.person.nick.now l.person.user.now l.person.host.now)) (filter (is_channel_on l.support) (map (λ x. x.now) l.yielded))
