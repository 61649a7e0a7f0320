use Rattle.std.proofs.Common.{◌≡◌, ◌∙◌, true, sym, ap, subst}
use Rattle.userfile.specs.Hostmasks.{mask_tail}
use Rattle.userfile.specs.Index.{AddsOnly, is_listed, listing_of}
use Rattle.userfile.proofs.IndexLemmas.{AreUnder-listed}
use Rattle.userfile.proofs.indexing.add_mask_beside.Goals as goal

pub returns-then-is_listed-clause-ok : goal.returns-then-is_listed-clause-ok
returns-then-is_listed-clause-ok c =
    let masks = c.args.masks.now in
    let has : is_listed (mask_tail c.args.mask.now) (listing_of c.args.place c.args.mask.now) masks ≡ true =
    ap (λ t. is_listed t (listing_of c.args.place c.args.mask.now) masks) (sym c.tail-tail.ensures.value)
    ∙ ap (λ x. is_listed c.tail-tail.result x masks) (sym c.listing_of-listing.ensures)
    ∙ sym c.is_listed.ensures ∙ c.if-is_listed.true in
    AreUnder-listed c.args.index.now c.args.place c.args.mask.now masks c.requires has

pub returns-clause-only : goal.returns-clause-only
returns-clause-only c =
    let old = c.args.index.now.groups.entries in
    let new = c.add_listing.new.index.groups.entries in
    subst (AddsOnly old new (mask_tail c.args.mask.now)) c.listing_of-listing.ensures
    (subst (λ t. AddsOnly old new t c.listing_of-listing.result) c.tail-tail.ensures.value c.add_listing.ensures.only)
