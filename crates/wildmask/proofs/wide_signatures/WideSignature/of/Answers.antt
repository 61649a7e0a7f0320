use Rattle.std.proofs.Common.{◌∙◌, add-one}
use Rattle.wildmask.specs.WideSignatures.{is_low, is_high, wide_text_signature}
use Rattle.wildmask.proofs.SignatureLemmas.{pairs_more, pairs_end, same_wide}
use Rattle.wildmask.proofs.wide_signatures.WideSignature.of.Goals as goal

pub loop-byte-preserved : goal.loop-byte-preserved
loop-byte-preserved c =
    rw (add-one, c.or-pairs.ensures, c.wide_pair_of.ensures, c.fold-lower.ensures.lower) (
      pairs_more is_low c.loop-byte.pairs.low _ c.loop-byte.before _ c.loop-byte.byte-index c.loop-byte-test.true c.loop-byte.invariant.0,
      pairs_more is_high c.loop-byte.pairs.high _ c.loop-byte.before _ c.loop-byte.byte-index c.loop-byte-test.true c.loop-byte.invariant.1,
    )

pub returns : goal.returns
returns c = c.pairs.view_is ∙ same_wide c.loop-byte.pairs (wide_text_signature c.args.text.now)
    (pairs_end is_low c.loop-byte.pairs.low _ c.loop-byte.before _ c.loop-byte.byte-index c.loop-byte-test.false c.loop-byte.invariant.0)
    (pairs_end is_high c.loop-byte.pairs.high _ c.loop-byte.before _ c.loop-byte.byte-index c.loop-byte-test.false c.loop-byte.invariant.1)
