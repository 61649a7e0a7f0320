use Rattle.std.proofs.Common.{◌∙◌, sym, subst}
use Rattle.indexmap.specs.IndexMap.{values}
use Rattle.userfile.specs.Apply.{without_mask}
use Rattle.userfile.specs.Index.{Covers, NamesBut, IsIndexOf}
use Rattle.userfile.proofs.IndexLemmas.{Covers-without_mask}
use Rattle.userfile.proofs.NameLemmas.{NamesBut-without, with_user-nobody}
use Rattle.userfile.proofs.indexing.del_host.Goals as goal

pub tidy-requires-clause-covers : goal.tidy-requires-clause-covers
tidy-requires-clause-covers c = subst (Covers c.args.index.now 0) (sym c.edit_user.ensures.edited)
    (Covers-without_mask c.args.index.now c.args.handle.now c.args.mask.now (values c.args.users.now) c.requires.index.covers)

pub tidy-requires-clause-others : goal.tidy-requires-clause-others
tidy-requires-clause-others c =
    let at = sym c.place_of-place.ensures ∙ c.in-Some.is in
    subst (NamesBut c.in-Some.place c.args.index.now) (sym c.edit_user.ensures.edited)
    (NamesBut-without c.args.handle.now c.args.mask.now (values c.args.users.now) c.in-Some.place at c.args.index.now c.requires.index.names)

pub returns-in_default-clause-index : goal.returns-in_default-clause-index
returns-in_default-clause-index c =
    let at = sym c.place_of-place.ensures ∙ c.in_default.is in
    subst (IsIndexOf c.args.index.now)
    (sym (c.edit_user.ensures.edited ∙ with_user-nobody c.args.handle.now (without_mask c.args.mask.now) (values c.args.users.now) 0 at))
    c.requires.index
