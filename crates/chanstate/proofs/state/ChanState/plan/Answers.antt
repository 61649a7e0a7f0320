use Rattle.std.proofs.Common.{◌∙◌, refl, ap, sym}
use Rattle.chanstate.specs.Items.{channels_in}
use Rattle.chanstate.specs.Memory.{any_adds}
use Rattle.chanstate.proofs.KeptLemmas.{any_adds-left}
use Rattle.chanstate.proofs.state.ChanState.plan.Goals as goal

pub returns-in-Part-clause-ready : goal.returns-in-Part-clause-ready
returns-in-Part-clause-ready c =
    let s = c.args.self.now in
    (refl, ap (λ items. any_adds items s) (sym c.in-Part.ensures) ∙ any_adds-left c.in-Part.nick.now (channels_in c.in-Part.list.now) s)
