use Rattle.std.proofs.Common.{◌≡◌, map, filter}
use Rattle.std.specs.List.{filter_map, flat_map}
use Rattle.rfccase.specs.Channels.{is_channel_name}
use Rattle.botcore.specs.Automatic.{guarded_as, kept_off}
use Rattle.botcore.proofs.joining.Newcomer.wishes_on.Given as goal

-- what is done on the channels of the pieces so far
abbrev pub invariant-loop-piece : goal.invariant-loop-piece
invariant-loop-piece l = l.wishes.items ≡ flat_map (kept_off l.self.mapping l.self.userfile.now.bans l.self.second l.self.nick.now l.self.who.now)
    (filter_map (guarded_as l.state) (filter is_channel_name (map (λ x. x.now) l.yielded)))
