use Rattle.std.proofs.Common.{arith, ◌∙◌, ap}
use Rattle.userfile.specs.Hostmasks.{mask_tail}
use Rattle.userfile.specs.Index.{is_listed, listing_of}
use Rattle.userfile.proofs.IndexLemmas.{AreUnder-next}
use Rattle.userfile.proofs.NameLemmas.{Names-added, listed_at}
use Rattle.userfile.proofs.indexing.add_masks.Goals as goal

pub loop-mask-preserved : goal.loop-mask-preserved
loop-mask-preserved c =
    let old = c.loop-mask.index in
    let new = c.add_mask.new.index in
    let i = c.loop-mask.mask-index in
    let m = c.mask-item.result in
    let n = c.args.place in
    let kept = c.add_mask.ensures.kept in
    record {
      kept = λ t x here. kept t x (c.loop-mask.invariant.kept t x here);
      names = λ users at names. Names-added old new users n m c.add_mask.ensures.only
          (ap (is_listed (mask_tail m) (listing_of n m)) at ∙ listed_at n m c.args.masks.now i c.loop-mask-test.true c.mask-item.is)
          (c.loop-mask.invariant.names users at names);
      under = AreUnder-next old new n c.args.masks.now i m kept (omega arith) c.mask-item.is c.in_ok-add_mask.ensures.ok
          c.loop-mask.invariant.under;
    }

pub returns-in_err-add_mask-clause-kept : goal.returns-in_err-add_mask-clause-kept
returns-in_err-add_mask-clause-kept c = λ t x here. c.add_mask.ensures.kept t x (c.loop-mask.invariant.kept t x here)

pub returns-in_err-add_mask-clause-names : goal.returns-in_err-add_mask-clause-names
returns-in_err-add_mask-clause-names c =
    let m = c.mask-item.result in
    let n = c.args.place in
    λ users at names. Names-added c.loop-mask.index c.add_mask.new.index users n m c.add_mask.ensures.only
    (ap (is_listed (mask_tail m) (listing_of n m)) at ∙ listed_at n m c.args.masks.now c.loop-mask.mask-index c.loop-mask-test.true c.mask-item.is)
    (c.loop-mask.invariant.names users at names)
