use Rattle.std.proofs.Common.{rules, ◌<◌, ◌^◌}
use Rattle.sharelink.specs.EndLaws.{leaf-generation}
use Rattle.sharelink.proofs.EndStates.{has-next}
use Rattle.sharelink.proofs.leaf_record.LeafStateEndState.renew.Goals as goal

pub compact-requires-clause-counted : goal.compact-requires-clause-counted
compact-requires-clause-counted g c =
    let old = c.args.self.now in
    let contents = c.args.ledger.now.account.contents in
    let fits : c.generation-generation.result < 2 ^ 32 = search rules in
    has-next old.generation contents.generation c.generation-generation.result
    (leaf-generation c.args.number contents old c.requires.means) c.generation-generation.ensures fits c.requires.left

pub returns-clause-may : goal.returns-clause-may
returns-clause-may g c =
    let old = c.args.self.now in
    let contents = c.args.ledger.now.account.contents in
    let fits : c.generation-generation.result < 2 ^ 32 = search rules in
    has-next old.generation contents.generation c.generation-generation.result
    (leaf-generation c.args.number contents old c.requires.means) c.generation-generation.ensures fits c.requires.left
