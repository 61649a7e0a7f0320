use Rattle.std.proofs.Common.{arith}
use Rattle.resolver.proofs.SpellingLemmas.{lengths_in-more}
use Rattle.resolver.proofs.query.put_name.Goals as goal

pub loop-place-preserved : goal.loop-place-preserved
loop-place-preserved c = (
  omega arith,
  lengths_in-more _ _ c.args.name.now c.loop-place.place c.octet_at.result _ (omega arith) c.octet_at.ensures
      c.push-in-loop-place.ensures.items c.loop-place.invariant.1,
)
