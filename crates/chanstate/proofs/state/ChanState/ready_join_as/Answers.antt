use Rattle.std.proofs.Common.{◌++◌, ◌∷◌, [], sym, subst, rules}
use Rattle.chanstate.specs.Items.{ToldAtJoin}
use Rattle.chanstate.specs.Plans.{Suits}
use Rattle.chanstate.specs.Seen.{joins_in}
use Rattle.chanstate.proofs.TellingLemmas.{joins-first}
use Rattle.chanstate.proofs.state.ChanState.ready_join_as.Goals as goal

pub returns-in_err-plan-clause-memory : goal.returns-in_err-plan-clause-memory
returns-in_err-plan-clause-memory c =
    let person = c.args.person in
    let why = joins-first person.nick.now person.user.now person.host.now c.args.list.now c.args.account.now c.args.self.now
    c.in_err-plan.ensures.memory in
    search (rules, why)

pub returns-clause-ready : goal.returns-clause-ready
returns-clause-ready c =
    let person = c.args.person in
    let items = joins_in person c.args.list.now ++ ToldAtJoin person.nick.now c.args.account.now ∷ [] in
    let ready = c.in_ok-plan.ensures.ready in
    (ready.0, subst (Suits items c.args.self.now) (sym ready.1) c.in_ok-telling.ensures.told)
