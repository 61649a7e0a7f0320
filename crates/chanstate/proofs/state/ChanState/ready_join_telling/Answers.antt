use Rattle.std.proofs.Common.{◌++◌, ◌∙◌, map, ap, sym, eqb, rules}
use Rattle.std.specs.List.{slice_split}
use Rattle.chanstate.specs.declared.detail.Detail.TheVariants.{Account}
use Rattle.chanstate.proofs.TellingLemmas.{untold-join, same-join, news-join, told-join}
use Rattle.chanstate.proofs.state.ChanState.ready_join_telling.Goals as goal

pub returns-then-not-joins_tell-clause-told : goal.returns-then-not-joins_tell-clause-told
returns-then-not-joins_tell-clause-told c =
    let person = c.args.person in
    untold-join person.nick.now person.user.now person.host.now c.args.list.now c.args.account.now c.args.self.now
    (sym c.joins_tell.ensures ∙ c.if-not-joins_tell.true)

pub returns-then-not-tells_at_join-clause-told : goal.returns-then-not-tells_at_join-clause-told
returns-then-not-tells_at_join-clause-told c =
    let person = c.args.person in
    same-join person.nick.now person.user.now person.host.now c.args.list.now c.args.account.now c.args.self.now
    (sym c.tells_at_join.ensures ∙ c.if-not-tells_at_join.true)

pub returns-in_err-telling-clause-memory : goal.returns-in_err-telling-clause-memory
returns-in_err-telling-clause-memory c =
    let person = c.args.person in
    let why = news-join person.nick.now person.user.now person.host.now c.args.list.now c.args.account.now c.args.self.now
    (sym c.joins_tell.ensures ∙ c.if-not-joins_tell.false) (sym c.tells_at_join.ensures ∙ c.if-not-tells_at_join.false) in
    search (rules, why)

pub returns-clause-told : goal.returns-clause-told
returns-clause-told c =
    let person = c.args.person in
    let account = c.args.account.now in
    let pieces = slice_split (λ b. eqb b 44) c.args.list.now in
    told-join c.in_ok-telling.telling person.nick.now person.user.now person.host.now c.args.list.now account c.args.self.now
    (sym c.joins_tell.ensures ∙ c.if-not-joins_tell.false) c.in_ok-telling.ensures.nick
    (c.in_ok-telling.ensures.copies ∙ ap (λ cs. map (λ _. Account account) cs ++ map (λ _. Account account) pieces) c.as_slice.ensures)
