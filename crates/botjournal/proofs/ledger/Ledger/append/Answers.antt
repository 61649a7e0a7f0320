use Rattle.std.proofs.Common.{sym, ap, ◌∙◌}
use Rattle.botjournal.specs.Contents.{added}
use Rattle.botjournal.specs.Stores.{account_of}
use Rattle.botjournal.proofs.LedgerLaws.{going_of, layout_is, fault_leaves, writes_moments}
use Rattle.botjournal.proofs.ledger.Ledger.append.Goals as goal

pub append-requires-clause-current : goal.append-requires-clause-current
append-requires-clause-current g c =
    let state = g.D.Disk.state in
    let inside = c.self.inside in
    let account = account_of state inside.rested.value inside.doubt inside.down in
    let going = going_of state inside.down inside.store account c.in-Open.journal c.self.invariant (ap (λ l. l.account.down) c.self.view_is ∙ c.requires.up)
    c.in-Open.is in
    sym (layout_is state c.in-Open.journal account going) ∙ ap (λ l. l.account.contents.layout) c.self.view_is ∙ c.requires.current

pub invariant_of-self-in-Err-Refused : goal.invariant_of-self-in-Err-Refused
invariant_of-self-in-Err-Refused g c x y left right =
    let state = g.D.Disk.state in
    let inside = c.self.inside in
    let account = account_of state inside.rested.value inside.doubt inside.down in
    let going = going_of state inside.down inside.store account c.in-Open.journal c.self.invariant (ap (λ l. l.account.down) c.self.view_is ∙ c.requires.up)
    c.in-Open.is in
    rw c.of-in-Err-Refused.ensures
    (fault_leaves state c.in-Open.journal c.append.new.self account (added c.args.entry.now) going (c.append.ensures.any_moment going.going) x y left
    right)

pub returns-in-Ok-clause-any_moment : goal.returns-in-Ok-clause-any_moment
returns-in-Ok-clause-any_moment g c =
    let state = g.D.Disk.state in
    let inside = c.self.inside in
    let account = account_of state inside.rested.value inside.doubt inside.down in
    let going = going_of state inside.down inside.store account c.in-Open.journal c.self.invariant (ap (λ l. l.account.down) c.self.view_is ∙ c.requires.up)
    c.in-Open.is in
    rw (← c.self.view_is, c.in-Open.is)
    (writes_moments state c.in-Open.journal c.append.new.self account (added c.args.entry.now) going (c.append.ensures.any_moment going.going))

pub returns-in-Err-NoMemory-clause-any_moment : goal.returns-in-Err-NoMemory-clause-any_moment
returns-in-Err-NoMemory-clause-any_moment g c =
    let state = g.D.Disk.state in
    let inside = c.self.inside in
    let account = account_of state inside.rested.value inside.doubt inside.down in
    let going = going_of state inside.down inside.store account c.in-Open.journal c.self.invariant (ap (λ l. l.account.down) c.self.view_is ∙ c.requires.up)
    c.in-Open.is in
    rw (← c.self.view_is, c.in-Open.is)
    (writes_moments state c.in-Open.journal c.append.new.self account (added c.args.entry.now) going (c.append.ensures.any_moment going.going))

pub returns-in-Err-Refused-clause-any_moment : goal.returns-in-Err-Refused-clause-any_moment
returns-in-Err-Refused-clause-any_moment g c =
    let state = g.D.Disk.state in
    let inside = c.self.inside in
    let account = account_of state inside.rested.value inside.doubt inside.down in
    let going = going_of state inside.down inside.store account c.in-Open.journal c.self.invariant (ap (λ l. l.account.down) c.self.view_is ∙ c.requires.up)
    c.in-Open.is in
    rw (← c.self.view_is, c.in-Open.is)
    (writes_moments state c.in-Open.journal c.append.new.self account (added c.args.entry.now) going (c.append.ensures.any_moment going.going))
