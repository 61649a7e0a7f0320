use Rattle.std.proofs.Common.{◌∙◌, sym, subst, refl}
use Rattle.indexmap.specs.IndexMap.{values}
use Rattle.userfile.specs.Index.{IsIndexOf}
use Rattle.userfile.proofs.IndexLemmas.{users_without-absent, position-none}
use Rattle.userfile.proofs.NameLemmas.{IsIndexOf-without}
use Rattle.userfile.proofs.indexing.del_user.Goals as goal

pub returns-in-Some-clause-index : goal.returns-in-Some-clause-index
returns-in-Some-clause-index c =
    let at = sym c.in-Some.ensures in
    subst (IsIndexOf _) (sym c.keep_other_users.ensures.kept)
    (IsIndexOf-without c.args.index.now _ c.in-Some.place refl c.remove_user.ensures c.args.handle.now (values c.args.users.now) c.requires.apart at
    c.requires.index)

pub returns-in_default-clause-kept : goal.returns-in_default-clause-kept
returns-in_default-clause-kept c =
    let at = sym c.place_of.ensures ∙ c.in_default.is in
    sym (users_without-absent c.args.handle.now (values c.args.users.now) (position-none c.args.handle.now (values c.args.users.now) 0 at))
