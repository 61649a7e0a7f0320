use Rattle.std.proofs.Common.{◌∙◌, map, refl, ap, sym, rules}
use Rattle.chanstate.specs.Items.{Told}
use Rattle.chanstate.specs.Seen.{detail_seen}
use Rattle.chanstate.proofs.KeptLemmas.{any_adds-one}
use Rattle.chanstate.proofs.TellingLemmas.{told-each}
use Rattle.chanstate.proofs.state.ChanState.ready_news.Goals as goal

pub returns-then-not-tells-clause-ready : goal.returns-then-not-tells-clause-ready
returns-then-not-tells-clause-ready c = (
  refl,
  any_adds-one (Told c.args.nick.now (detail_seen c.args.parts)) c.args.self.now ∙ (sym c.tells.ensures ∙ c.if-not-tells.true),
)

pub returns-in_err-telling-clause-memory : goal.returns-in_err-telling-clause-memory
returns-in_err-telling-clause-memory c =
    let why = any_adds-one (Told c.args.nick.now (detail_seen c.args.parts)) c.args.self.now ∙ (sym c.tells.ensures ∙ c.if-not-tells.false) in
    search (rules, why)

pub returns-clause-ready : goal.returns-clause-ready
returns-clause-ready c =
    let s = c.args.self.now in
    let detail = detail_seen c.args.parts in (
      refl,
      told-each c.in_ok-telling.telling c.args.nick.now detail s.channels s c.in_ok-telling.ensures.nick
          (c.in_ok-telling.ensures.copies ∙ ap (map (λ _. detail)) c.as_slice.ensures) refl,
    )
