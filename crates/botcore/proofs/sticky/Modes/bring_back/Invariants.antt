use Rattle.std.proofs.Common.{◌≡◌, ◌++◌, drop, true}
use Rattle.std.specs.List.{flat_map}
use Rattle.chanstate.specs.Items.{singles}
use Rattle.botcore.specs.Automatic.{set_again}
use Rattle.botcore.proofs.sticky.Modes.bring_back.Given as goal

-- the lines so far, and those of the bytes that are left, are all
abbrev pub invariant-loop-byte : goal.invariant-loop-byte
invariant-loop-byte l =
    l.wishes.items ++ flat_map (set_again l.place.mapping l.place.userfile.now.bans l.place.second l.place.channel.now)
    (singles l.self.support.now l.on (drop l.byte-index l.self.letters.now) l.rest)
    ≡ flat_map (set_again l.place.mapping l.place.userfile.now.bans l.place.second l.place.channel.now)
    (singles l.self.support.now true l.self.letters.now l.self.arguments.now)
