use Rattle.std.proofs.Common.{◌≡◌, map, filter}
use Rattle.std.specs.List.{filter_map}
use Rattle.chanstate.specs.Items.{is_channel_on}
use Rattle.chanstate.specs.Comings.{spelled}
use Rattle.chanstate.specs.Deeds.{told}
use Rattle.chanstate.proofs.comings.on_listed.Given as goal

-- the events on the channels of the pieces so far
abbrev pub invariant-loop-piece : goal.invariant-loop-piece
invariant-loop-piece l = l.events.items
    ≡ map (told l.deed) (filter_map (spelled l.own l.state) (filter (is_channel_on l.state.support) (map (λ x. x.now) l.yielded)))
