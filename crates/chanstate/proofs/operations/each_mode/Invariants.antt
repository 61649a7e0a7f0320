use Rattle.std.proofs.Common.{◌≡◌, ◌++◌, drop, map, true}
use Rattle.chanstate.specs.Items.{singles}
use Rattle.chanstate.specs.Operations.{mode_on}
use Rattle.chanstate.proofs.operations.each_mode.Given as goal

-- the events so far, and those of the bytes that are left, are all
abbrev pub invariant-loop-byte : goal.invariant-loop-byte
invariant-loop-byte l = l.events.items ++ map (mode_on l.by.nick.now l.by.address.now l.channel) (singles l.support l.on (drop l.byte-index l.letters) l.rest)
    ≡ map (mode_on l.by.nick.now l.by.address.now l.channel) (singles l.support true l.letters l.arguments)
