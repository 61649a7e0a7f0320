use Rattle.std.proofs.Common.{◌≡◌, ◌+◌, arith, sym, subst}
use Rattle.indexmap.specs.IndexMap.{values}
use Rattle.userfile.specs.Index.{AreUnder, masks_at, Covers, NamesBut, IsIndexOf}
use Rattle.userfile.proofs.IndexLemmas.{Covers-at, Covers-keeps, position-below}
use Rattle.userfile.proofs.NameLemmas.{Names-groups, NamesBut-added, IsIndexOf-with_mask}
use Rattle.userfile.proofs.indexing.add_host_at.Goals as goal

pub overflow_cast-place : goal.overflow_cast-place
overflow_cast-place c =
    omega (arith, c.requires.few, position-below c.args.handle.now (values c.args.users.now) 0 c.args.place c.requires.place)

pub add_mask_beside-requires : goal.add_mask_beside-requires
add_mask_beside-requires c =
    let users = values c.args.users.now in
    let place : c.args.place + 0 ≡ c.args.place = omega arith in
    subst (AreUnder c.args.index.now c.args.place) (sym c.masks_at.ensures)
    (subst (λ k. AreUnder c.args.index.now k (masks_at users c.args.place)) place (Covers-at c.args.index.now users 0 c.args.place c.requires.index.covers))

pub returns-in_err-add_mask_beside-clause-index : goal.returns-in_err-add_mask_beside-clause-index
returns-in_err-add_mask_beside-clause-index c = record {
  covers = Covers-keeps c.args.index.now c.add_mask_beside.new.index c.add_mask_beside.ensures.kept 0 (values c.args.users.now) c.requires.index.covers;
  names = Names-groups c.args.index.now c.add_mask_beside.new.index (values c.args.users.now) c.in_err-add_mask_beside.ensures.err c.requires.index.names;
}

pub tidy-requires-clause-covers : goal.tidy-requires-clause-covers
tidy-requires-clause-covers c = subst (Covers c.add_mask_beside.new.index 0) (sym c.in-Err.ensures.err)
    (Covers-keeps c.args.index.now c.add_mask_beside.new.index c.add_mask_beside.ensures.kept 0 (values c.args.users.now) c.requires.index.covers)

pub tidy-requires-clause-others : goal.tidy-requires-clause-others
tidy-requires-clause-others c = subst (NamesBut c.args.place c.add_mask_beside.new.index) (sym c.in-Err.ensures.err)
    (NamesBut-added c.args.handle.now c.args.mask (values c.args.users.now) c.args.place c.requires.place c.args.index.now c.add_mask_beside.new.index
    c.add_mask_beside.ensures.only c.requires.index.names)

pub returns-in-Ok-clause-index : goal.returns-in-Ok-clause-index
returns-in-Ok-clause-index c = subst (IsIndexOf c.add_mask_beside.new.index) (sym c.in-Ok.ensures.ok)
    (IsIndexOf-with_mask c.args.handle.now c.args.mask (values c.args.users.now) c.args.place c.requires.place c.args.index.now c.add_mask_beside.new.index
    c.add_mask_beside.ensures.kept c.add_mask_beside.ensures.only c.in_ok-add_mask_beside.ensures.ok c.requires.index)
