use Rattle.std.proofs.Common.{◌<◌, ◌∙◌, length, sym, arith}
use Rattle.std.proofs.lemmas.List.{at_drop_all}
use Rattle.chanstate.specs.Items.{singles}
use Rattle.botcore.specs.Operators.{op_left}
use Rattle.botcore.proofs.StickyLemmas.{op_more}
use Rattle.botcore.proofs.sticky.Modes.leave_mark.Goals as goal

pub loop-byte-preserved : goal.loop-byte-preserved
loop-byte-preserved c =
    let at = c.loop-byte in
    let self = c.args.self.now in
    let less : at.byte-index < length self.letters.now = omega arith in
    let more = op_more self.support.now c.args.nick.now at.on self.letters.now at.byte-index 0 at.rest.now at.op _ less c.op_at-op.ensures in
    rw (c.next_sign-on.ensures, c.next_arguments-rest.ensures) (more ∙ at.invariant)

pub returns : goal.returns
returns c =
    let at = c.loop-byte in
    let self = c.args.self.now in
    sym (at_drop_all (λ bs. op_left self.support.now c.args.nick.now (singles self.support.now at.on bs at.rest.now) at.op)
    self.letters.now at.byte-index (omega arith))
    ∙ at.invariant
