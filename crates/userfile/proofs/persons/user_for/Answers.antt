use Rattle.std.proofs.Common.{◌∙◌, ap}
use Rattle.indexmap.specs.IndexMap.{values}
use Rattle.userfile.specs.Search.{user_at}
use Rattle.userfile.proofs.IndexLemmas.{asked-user_for}
use Rattle.userfile.proofs.persons.user_for.Goals as goal

pub returns : goal.returns
returns c = c.user_at.ensures ∙ ap (user_at (values c.args.users.now)) c.best_claim.ensures
    ∙ asked-user_for c.args.mapping c.args.index.now c.args.who.now (values c.args.users.now) c.requires.covers
