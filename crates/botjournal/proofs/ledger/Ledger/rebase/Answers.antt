use Rattle.std.proofs.Common.{Err, sym, ap, subst, ◌∙◌}
use Rattle.botjournal.specs.Contents.{rebased}
use Rattle.botjournal.specs.Journal.{Rebases}
use Rattle.botjournal.specs.Ledger.{Ledger}
use Rattle.botjournal.specs.Stores.{account_of, device_of}
use Rattle.botjournal.proofs.LedgerLaws.{going_of, generation_is, fault_leaves, same_device, still_moments, writes_moments}
use Rattle.botjournal.proofs.ledger.Ledger.rebase.Goals as goal

pub returns-then-generations_spent : goal.returns-then-generations_spent
returns-then-generations_spent g c =
    let state = g.D.Disk.state in
    let inside = c.self.inside in
    let account = account_of state inside.rested.value inside.doubt inside.down in
    let going = going_of state inside.down inside.store account c.in-Open.journal c.self.invariant (ap (λ l. l.account.down) c.self.view_is ∙ c.requires.up)
    c.in-Open.is in
    let same = sym (ap (λ l. l.account.contents.generation) c.self.view_is) ∙ generation_is state c.in-Open.journal account going in
    record {
      row = (
        same ∙ c.generations_spent.ensures.0 c.if-generations_spent.true,
        ap (λ s. (let l : Ledger = record { account = account; device = device_of state s } in l)) (sym c.in-Open.is) ∙ c.self.view_is,
      );
      any_moment = rw (← c.self.view_is, c.in-Open.is)
          (still_moments state c.in-Open.journal account (rebased c.args.base.now account.contents) going);
    }

pub invariant_of-self-in-Err-Refused : goal.invariant_of-self-in-Err-Refused
invariant_of-self-in-Err-Refused g c x y left right =
    let state = g.D.Disk.state in
    let inside = c.self.inside in
    let account = account_of state inside.rested.value inside.doubt inside.down in
    let going = going_of state inside.down inside.store account c.in-Open.journal c.self.invariant (ap (λ l. l.account.down) c.self.view_is ∙ c.requires.up)
    c.in-Open.is in
    rw c.of-in-Err-Refused.ensures
    (fault_leaves state c.in-Open.journal c.rebase.new.self account (rebased c.args.base.now) going (c.rebase.ensures.any_moment going.going) x y left
    right)

pub returns-in-Err-NoMemory : goal.returns-in-Err-NoMemory
returns-in-Err-NoMemory g c =
    let state = g.D.Disk.state in
    let inside = c.self.inside in
    let journal = c.in-Open.journal in
    let new = c.rebase.new.self in
    let account = account_of state inside.rested.value inside.doubt inside.down in
    let going = going_of state inside.down inside.store account journal c.self.invariant (ap (λ l. l.account.down) c.self.view_is ∙ c.requires.up)
    c.in-Open.is in
    let same = sym (ap (λ l. l.account.contents.generation) c.self.view_is) ∙ generation_is state journal account going in
    let row = subst (λ e. Rebases state journal c.args.base.now (Err e) new) c.in-Err-NoMemory.field-0-is c.in-Err-NoMemory.ensures.row in
    record {
      row = (
        λ last. row.1 (sym same ∙ last),
        ap (λ f. (let l : Ledger = record { account = account; device = f } in l)) (same_device state journal new row.3)
            ∙ ap (λ s. (let l : Ledger = record { account = account; device = device_of state s } in l)) (sym c.in-Open.is) ∙ c.self.view_is,
      );
      any_moment = rw (← c.self.view_is, c.in-Open.is)
          (writes_moments state journal new account (rebased c.args.base.now) going (c.rebase.ensures.any_moment going.going));
    }

pub returns-in-Ok-clause-any_moment : goal.returns-in-Ok-clause-any_moment
returns-in-Ok-clause-any_moment g c =
    let state = g.D.Disk.state in
    let inside = c.self.inside in
    let account = account_of state inside.rested.value inside.doubt inside.down in
    let going = going_of state inside.down inside.store account c.in-Open.journal c.self.invariant (ap (λ l. l.account.down) c.self.view_is ∙ c.requires.up)
    c.in-Open.is in
    rw (← c.self.view_is, c.in-Open.is)
    (writes_moments state c.in-Open.journal c.rebase.new.self account (rebased c.args.base.now) going (c.rebase.ensures.any_moment going.going))

pub returns-in-Err-Refused-clause-any_moment : goal.returns-in-Err-Refused-clause-any_moment
returns-in-Err-Refused-clause-any_moment g c =
    let state = g.D.Disk.state in
    let inside = c.self.inside in
    let account = account_of state inside.rested.value inside.doubt inside.down in
    let going = going_of state inside.down inside.store account c.in-Open.journal c.self.invariant (ap (λ l. l.account.down) c.self.view_is ∙ c.requires.up)
    c.in-Open.is in
    rw (← c.self.view_is, c.in-Open.is)
    (writes_moments state c.in-Open.journal c.rebase.new.self account (rebased c.args.base.now) going (c.rebase.ensures.any_moment going.going))
