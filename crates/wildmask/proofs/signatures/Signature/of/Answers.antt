use Rattle.std.proofs.Common.{◌∙◌, add-one}
use Rattle.wildmask.specs.Signatures.{every}
use Rattle.wildmask.proofs.SignatureLemmas.{pairs_more, pairs_end}
use Rattle.wildmask.proofs.signatures.Signature.of.Goals as goal

pub loop-byte-preserved : goal.loop-byte-preserved
loop-byte-preserved c =
    rw (add-one, c.or-pairs.ensures, c.pair_of.ensures, c.fold-lower.ensures.lower)
    (pairs_more every c.loop-byte.pairs _ c.loop-byte.before _ c.loop-byte.byte-index c.loop-byte-test.true c.loop-byte.invariant)

pub returns : goal.returns
returns c = c.pairs.view_is ∙ pairs_end every c.loop-byte.pairs _ c.loop-byte.before _ c.loop-byte.byte-index c.loop-byte-test.false c.loop-byte.invariant
