use Rattle.std.proofs.Common.{◌∙◌, map, refl, ap, subst, sym}
use Rattle.chanstate.specs.declared.detail.Detail.TheVariants.{Account}
use Rattle.chanstate.specs.Plans.{IsPlanFor}
use Rattle.chanstate.specs.Seen.{who_seen}
use Rattle.chanstate.proofs.TellingLemmas.{told-who}
use Rattle.chanstate.proofs.state.ChanState.ready_who.Goals as goal

pub returns-clause-ready : goal.returns-clause-ready
returns-clause-ready c =
    let s = c.args.self.now in
    let channel = c.args.channel.now in
    let user = c.args.user.now in
    let host = c.args.host.now in
    let nick = c.args.nick.now in
    let account = c.args.account.now in
    let told = told-who c.in_ok-telling.telling channel user host nick account s c.in_ok-telling.ensures.nick
    (c.in_ok-telling.ensures.copies ∙ ap (map (λ _. Account account)) c.as_slice.ensures) in
    subst (λ plan. IsPlanFor (who_seen channel user host nick account) plan s s) (sym c.in_ok-plan.ensures) (refl, told)
