use Rattle.std.proofs.Common.{Some, sym, ap, ◌∙◌}
use Rattle.botjournal.specs.Ledger.{Account, settled}
use Rattle.botjournal.proofs.LedgerLaws.{opened_shows, still_is, none_forgotten}
use Rattle.botjournal.proofs.ledger.Ledger.open.Goals as goal

pub returns-else-not-opened-clause-row : goal.returns-else-not-opened-clause-row
returns-else-not-opened-clause-row g c =
    let opens = c.in-Ok.ensures.row in
    let shows = c.at_rest.ensures.shows ∙ ap settled (opened_shows g.D.Disk.state c.args.first c.args.second c.in-Ok.opened opens) in (
      opens.0.found ∙ sym (ap (λ (a : Account). Some a.contents) shows),
      shows ∙ sym (ap (λ (a : Account). settled a.contents) shows),
      (sym (ap (λ (a : Account). a.contents.base) shows), sym (ap (λ (a : Account). a.contents.entries) shows)),
    )

pub returns-else-not-opened-clause-still : goal.returns-else-not-opened-clause-still
returns-else-not-opened-clause-still g c =
    let opens = c.in-Ok.ensures.row in
    still_is g.D.Disk.state c.args.first c.args.second _ _ _ c.at_rest.ensures.device opens.1 opens.2

pub returns-else-not-opened-clause-no_fewer : goal.returns-else-not-opened-clause-no_fewer
returns-else-not-opened-clause-no_fewer g c =
    let opens = c.in-Ok.ensures.row in
    none_forgotten g.D.Disk.state c.args.first c.args.second _ _ _ c.at_rest.ensures.device opens.1 opens.2
