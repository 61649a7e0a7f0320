use Rattle.std.proofs.Common.{subst}
use Rattle.userfile.specs.Hostmasks.{mask_tail}
use Rattle.userfile.specs.Index.{AddsOnly}
use Rattle.userfile.proofs.indexing.add_mask.Goals as goal

pub returns-clause-only : goal.returns-clause-only
returns-clause-only c =
    let old = c.args.index.now.groups.entries in
    let new = c.add_listing.new.index.groups.entries in
    subst (AddsOnly old new (mask_tail c.args.mask.now)) c.listing_of.ensures
    (subst (λ t. AddsOnly old new t c.listing_of.result) c.tail.ensures.value c.add_listing.ensures.only)
