use Rattle.std.proofs.Common.{arith}
use Rattle.registration.proofs.MacLemmas.{xored_more}
use Rattle.registration.proofs.wide_key.xored.Goals as goal

pub loop-place-preserved : goal.loop-place-preserved
loop-place-preserved c =
    xored_more c.args.byte c.args.block.now c.loop-place.place-items c.loop-place.place-index
    (omega (arith, c.loop-place-test.true, c.told-block)) c.loop-place.invariant
