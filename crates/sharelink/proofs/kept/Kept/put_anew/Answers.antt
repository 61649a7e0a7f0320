use Rattle.std.proofs.Common.{sym, ap, subst}
use Rattle.botjournal.specs.Ledger.{Device, AtEachMoment}
use Rattle.sharelink.specs.Kept.{Kept}
use Rattle.sharelink.specs.Anew.{IsHeldOr}
use Rattle.sharelink.proofs.AnewLaws.{still-held, held-moments}
use Rattle.sharelink.proofs.kept.Kept.put_anew.Goals as goal

pub returns-then-generations_spent-clause-any_moment : goal.returns-then-generations_spent-clause-any_moment
returns-then-generations_spent-clause-any_moment g c =
    let may = g.S.EndState.may c.args.state g.S.EndState.renewal in
    let pending = g.S.EndState.pending c.args.who c.args.state g.S.EndState.renewal in
    let old = c.args.ledger in
    subst (λ (d : Device). AtEachMoment old.device d (IsHeldOr may pending old.account.contents)) (sym c.into_disks.ensures.device)
    (still-held may pending old c.requires.rests c.know_disks.ensures.left)

pub returns-in-Ok-clause-any_moment : goal.returns-in-Ok-clause-any_moment
returns-in-Ok-clause-any_moment g c =
    let may = g.S.EndState.may c.args.state g.S.EndState.renewal in
    let pending = g.S.EndState.pending c.args.who c.args.state g.S.EndState.renewal in
    let old = c.args.ledger in
    subst (λ (d : Device). AtEachMoment old.device d (IsHeldOr may pending old.account.contents))
    (sym (ap (λ (k : Kept g.row.S.Denot g.row.S-Record.Denot). k.device) c.up.ensures))
    (held-moments may pending old c.renew.new.ledger c.renew.ensures.may c.requires.rests c.know_disks.ensures.left c.renew.ensures.any_moment)

pub returns-in-Err-clause-any_moment : goal.returns-in-Err-clause-any_moment
returns-in-Err-clause-any_moment g c =
    let may = g.S.EndState.may c.args.state g.S.EndState.renewal in
    let pending = g.S.EndState.pending c.args.who c.args.state g.S.EndState.renewal in
    let old = c.args.ledger in
    subst (λ (d : Device). AtEachMoment old.device d (IsHeldOr may pending old.account.contents)) (sym c.into_disks-in-Err.ensures.device)
    (held-moments may pending old c.renew.new.ledger c.renew.ensures.may c.requires.rests c.know_disks.ensures.left c.renew.ensures.any_moment)
