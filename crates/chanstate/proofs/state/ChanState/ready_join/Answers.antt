use Rattle.std.proofs.Common.{refl, sym, subst}
use Rattle.chanstate.specs.Plans.{Suits}
use Rattle.chanstate.specs.Seen.{joins_in}
use Rattle.chanstate.proofs.state.ChanState.ready_join.Goals as goal

pub returns-clause-ready : goal.returns-clause-ready
returns-clause-ready c =
    let ready = c.in_ok-plan.ensures.ready in
    (ready.0, subst (Suits (joins_in c.args.person c.args.list.now) c.args.self.now) (sym ready.1) refl)
