use Rattle.std.proofs.Common.{add-one}
use Rattle.wildmask.specs.Codes.{items_in}
use Rattle.wildmask.specs.WideSignatures.{is_low, is_high, wide_items_signature}
use Rattle.wildmask.proofs.SignatureLemmas.{literals_more, literals_end, pairs_after-none, same_wide}
use Rattle.wildmask.proofs.wide_signatures.WideSignature.needed_by.Goals as goal

pub loop-code-init : goal.loop-code-init
loop-code-init c = (pairs_after-none is_low (items_in c.args.codes.now), pairs_after-none is_high (items_in c.args.codes.now))

pub loop-code-preserved : goal.loop-code-preserved
loop-code-preserved c =
    rw (add-one, c.or-pairs.ensures, c.wide_pair_between.ensures, c.lower_literal-lower.ensures, c.item_of.ensures) (
      literals_more is_low c.loop-code.pairs.low _ c.loop-code.before _ c.loop-code.code-index c.loop-code-test.true c.loop-code.invariant.0,
      literals_more is_high c.loop-code.pairs.high _ c.loop-code.before _ c.loop-code.code-index c.loop-code-test.true c.loop-code.invariant.1,
    )

pub returns : goal.returns
returns c = same_wide c.loop-code.pairs (wide_items_signature (items_in c.args.codes.now))
    (literals_end is_low c.loop-code.pairs.low _ c.loop-code.before _ c.loop-code.code-index c.loop-code-test.false c.loop-code.invariant.0)
    (literals_end is_high c.loop-code.pairs.high _ c.loop-code.before _ c.loop-code.code-index c.loop-code-test.false c.loop-code.invariant.1)
