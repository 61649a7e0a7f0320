use Rattle.std.proofs.Common.{refl, subst}
use Rattle.indexmap.specs.IndexMap.{values}
use Rattle.userfile.specs.Index.{LeavesListed}
use Rattle.userfile.proofs.NameLemmas.{IsIndexOf-tidied}
use Rattle.userfile.proofs.indexing.tidy.Goals as goal

pub returns : goal.returns
returns c = IsIndexOf-tidied c.args.index.now _ (values c.args.users.now) c.args.place refl
    (subst (LeavesListed _ _ c.args.place) c.masks_at.ensures c.keep_masks.ensures) c.requires.covers c.requires.others
