use Rattle.std.proofs.Common.{◌∙◌, sym}
use Rattle.indexmap.specs.IndexMap.{values}
use Rattle.userfile.specs.Apply.{with_mask}
use Rattle.userfile.proofs.NameLemmas.{with_user-nobody}
use Rattle.userfile.proofs.indexing.add_host.Goals as goal

pub returns-in-None-clause-ok : goal.returns-in-None-clause-ok
returns-in-None-clause-ok c =
    let at = sym c.place_of.ensures ∙ c.in-None.is in
    sym (with_user-nobody c.args.handle.now (with_mask c.args.mask) (values c.args.users.now) 0 at)
