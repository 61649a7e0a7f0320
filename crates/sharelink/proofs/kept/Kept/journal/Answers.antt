use Rattle.std.proofs.Common.{sym, ap, subst, ◌∙◌}
use Rattle.std.specs.Option.{option_map}
use Rattle.sharelink.proofs.KeptLaws.{journal-moments}
use Rattle.sharelink.proofs.kept.Kept.journal.Goals as goal

pub returns-in-Ok-clause-any_moment : goal.returns-in-Ok-clause-any_moment
returns-in-Ok-clause-any_moment g c =
    let inside = c.self.inside in
    let means = g.S.EndState.meaning inside.who in
    let doubt = option_map (λ d. d.value) inside.doubt in
    rw (← c.self.view_is)
    (journal-moments means g.S.EndState.folded inside.state inside.down doubt c.args.entry
    (g.S.EndState.pending inside.who inside.state c.args.entry) inside.ledger c.write.new.ledger c.self.invariant.2
    (ap (λ k. k.down) c.self.view_is ∙ c.requires.up)
    (g.met.S.EndState.writes inside.who inside.ledger.account.contents inside.state c.args.entry c.self.invariant.0 c.self.invariant.1
    (subst (λ s. g.S.EndState.may s c.args.entry) (ap (λ k. k.state) (sym c.self.view_is)) c.requires.may)) c.know_disks.ensures.left c.write.ensures.any_moment)

pub returns-in-Err-NoMemory-clause-any_moment : goal.returns-in-Err-NoMemory-clause-any_moment
returns-in-Err-NoMemory-clause-any_moment g c =
    let inside = c.self.inside in
    let means = g.S.EndState.meaning inside.who in
    let doubt = option_map (λ d. d.value) inside.doubt in
    rw (← c.self.view_is)
    (journal-moments means g.S.EndState.folded inside.state inside.down doubt c.args.entry
    (g.S.EndState.pending inside.who inside.state c.args.entry) inside.ledger c.write.new.ledger c.self.invariant.2
    (ap (λ k. k.down) c.self.view_is ∙ c.requires.up)
    (g.met.S.EndState.writes inside.who inside.ledger.account.contents inside.state c.args.entry c.self.invariant.0 c.self.invariant.1
    (subst (λ s. g.S.EndState.may s c.args.entry) (ap (λ k. k.state) (sym c.self.view_is)) c.requires.may)) c.know_disks.ensures.left c.write.ensures.any_moment)

pub returns-in-Err-Refused-clause-any_moment : goal.returns-in-Err-Refused-clause-any_moment
returns-in-Err-Refused-clause-any_moment g c =
    let inside = c.self.inside in
    let means = g.S.EndState.meaning inside.who in
    let doubt = option_map (λ d. d.value) inside.doubt in
    rw (← c.self.view_is)
    (journal-moments means g.S.EndState.folded inside.state inside.down doubt c.args.entry
    (g.S.EndState.pending inside.who inside.state c.args.entry) inside.ledger c.write.new.ledger c.self.invariant.2
    (ap (λ k. k.down) c.self.view_is ∙ c.requires.up)
    (g.met.S.EndState.writes inside.who inside.ledger.account.contents inside.state c.args.entry c.self.invariant.0 c.self.invariant.1
    (subst (λ s. g.S.EndState.may s c.args.entry) (ap (λ k. k.state) (sym c.self.view_is)) c.requires.may)) c.know_disks.ensures.left c.write.ensures.any_moment)
