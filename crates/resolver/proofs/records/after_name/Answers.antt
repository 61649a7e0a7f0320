use Rattle.std.proofs.Common.{arith}
use Rattle.resolver.proofs.RecordLemmas.{after_name-inside}
use Rattle.resolver.proofs.records.after_name.Goals as goal

pub loop-place-preserved-then-left-gt0 : goal.loop-place-preserved-then-left-gt0
loop-place-preserved-then-left-gt0 c =
    after_name-inside c.loop-place.left c.loop-place.place c.args.bytes.now _ (omega arith) (omega arith) c.loop-place.invariant
