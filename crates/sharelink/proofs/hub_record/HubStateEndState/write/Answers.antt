use Rattle.std.proofs.Common.{ap, sym, subst, ◌∙◌}
use Rattle.sharelink.specs.Records.{HubMayWrite}
use Rattle.sharelink.specs.HubRecords.{shown}
use Rattle.sharelink.specs.EndLaws.{hub-generation}
use Rattle.sharelink.proofs.EndStates.{never-spent}
use Rattle.sharelink.proofs.hub_record.HubStateEndState.write.Goals as goal

pub rebase-requires-clause-left : goal.rebase-requires-clause-left
rebase-requires-clause-left g c =
    never-spent c.args.self.now.generation c.args.ledger.now.account.contents.generation
    (hub-generation c.args._leaves c.args.ledger.now.account.contents c.args.self.now c.requires.means)
    (subst (λ r. HubMayWrite c.args.self.now r) (sym c.entry.view_is ∙ ap shown c.in-Rebase.is) c.requires.may)
