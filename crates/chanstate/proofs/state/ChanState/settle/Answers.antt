use Rattle.std.proofs.Common.{◌∙◌, true, ap, sym}
use Rattle.chanstate.specs.Plans.{settled, told}
use Rattle.chanstate.proofs.state.ChanState.settle.Goals as goal

pub returns-then-done-3 : goal.returns-then-done-3
returns-then-done-3 c =
    let s = c.args.self.now in
    c.tell.ensures ∙ ap (told c.in-Address.telling) c.readdress.ensures
    ∙ sym (ap (λ done. settled done c.args.plan s) c.if-done-3.true ∙ ap (λ plan. settled true plan s) c.in-Address.is)
