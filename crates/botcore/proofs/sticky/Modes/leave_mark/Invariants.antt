use Rattle.std.proofs.Common.{◌≡◌, drop, true}
use Rattle.chanstate.specs.Items.{singles}
use Rattle.botcore.specs.Operators.{op_left}
use Rattle.botcore.proofs.sticky.Modes.leave_mark.Given as goal

-- whether the member is op after all modes, told from the bytes that are left
abbrev pub invariant-loop-byte : goal.invariant-loop-byte
invariant-loop-byte l =
    op_left l.self.support.now l.nick (singles l.self.support.now l.on (drop l.byte-index l.self.letters.now) l.rest) l.op
    ≡ op_left l.self.support.now l.nick (singles l.self.support.now true l.self.letters.now l.self.arguments.now) l.was
