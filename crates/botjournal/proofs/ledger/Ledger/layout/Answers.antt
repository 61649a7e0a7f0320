use Rattle.std.proofs.Common.{sym, ap, ◌∙◌}
use Rattle.botjournal.specs.Stores.{account_of}
use Rattle.botjournal.proofs.LedgerLaws.{going_of, layout_is}
use Rattle.botjournal.proofs.ledger.Ledger.layout.Goals as goal

pub returns-in-Open : goal.returns-in-Open
returns-in-Open g c up =
    let state = g.D.Disk.state in
    let inside = c.self.inside in
    let account = account_of state inside.rested.value inside.doubt inside.down in
    let going = going_of state inside.down inside.store account c.in-Open.journal c.self.invariant (ap (λ l. l.account.down) c.self.view_is ∙ up)
    c.in-Open.is in
    c.layout.ensures ∙ sym (layout_is state c.in-Open.journal account going)
    ∙ ap (λ l. l.account.contents.layout) c.self.view_is
