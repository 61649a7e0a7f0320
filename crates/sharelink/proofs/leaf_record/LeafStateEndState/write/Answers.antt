use Rattle.std.proofs.Common.{ap, sym, subst, ◌∙◌}
use Rattle.sharelink.specs.Records.{LeafMayWrite}
use Rattle.sharelink.specs.LeafRecords.{shown}
use Rattle.sharelink.specs.EndLaws.{leaf-generation}
use Rattle.sharelink.proofs.EndStates.{never-spent}
use Rattle.sharelink.proofs.leaf_record.LeafStateEndState.write.Goals as goal

pub install-requires-clause-left : goal.install-requires-clause-left
install-requires-clause-left g c =
    never-spent c.args.self.now.generation c.args.ledger.now.account.contents.generation
    (leaf-generation c.args.number c.args.ledger.now.account.contents c.args.self.now c.requires.means)
    (subst (λ r. LeafMayWrite c.args.self.now r) (sym c.entry.view_is ∙ ap shown c.in-Install.is) c.requires.may).1

pub compact-requires-clause-left : goal.compact-requires-clause-left
compact-requires-clause-left g c =
    never-spent c.args.self.now.generation c.args.ledger.now.account.contents.generation
    (leaf-generation c.args.number c.args.ledger.now.account.contents c.args.self.now c.requires.means)
    (subst (λ r. LeafMayWrite c.args.self.now r) (sym c.entry.view_is ∙ ap shown c.in-Compact.is) c.requires.may)
