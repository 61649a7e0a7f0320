use Rattle.std.proofs.Common.{rules, ◌<◌, ◌^◌}
use Rattle.sharelink.specs.EndLaws.{hub-generation}
use Rattle.sharelink.proofs.EndStates.{has-next}
use Rattle.sharelink.proofs.hub_record.HubStateEndState.renew.Goals as goal

pub rebase-requires-clause-numbered : goal.rebase-requires-clause-numbered
rebase-requires-clause-numbered g c =
    let old = c.args.self.now in
    let contents = c.args.ledger.now.account.contents in
    let fits : c.generation-generation.result < 2 ^ 32 = search rules in
    has-next old.generation contents.generation c.generation-generation.result
    (hub-generation c.args._leaves contents old c.requires.means) c.generation-generation.ensures fits c.requires.left

pub returns-clause-may : goal.returns-clause-may
returns-clause-may g c =
    let old = c.args.self.now in
    let contents = c.args.ledger.now.account.contents in
    let fits : c.generation-generation.result < 2 ^ 32 = search rules in
    has-next old.generation contents.generation c.generation-generation.result
    (hub-generation c.args._leaves contents old c.requires.means) c.generation-generation.ensures fits c.requires.left
