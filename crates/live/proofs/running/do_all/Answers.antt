use Rattle.std.proofs.Common.{subst, sym}
use Rattle.std.specs.List.{AllByRecursion}
use Rattle.live.specs.Grammar.{IsGoodCommand}
use Rattle.live.proofs.running.do_all.Goals as goal

pub loop-command-init : goal.loop-command-init
loop-command-init g c = subst (AllByRecursion IsGoodCommand) (sym c.into_iter-command-iterator.ensures.into_iter_gives.0) (subst (AllByRecursion IsGoodCommand) (sym c.into_vec-command-items.ensures) c.requires.good)

pub done-requires : goal.done-requires
done-requires g c = record { good = (subst (AllByRecursion IsGoodCommand) c.in-Some.ensures.steps.0 c.loop-command.invariant).0 }

pub loop-command-preserved : goal.loop-command-preserved
loop-command-preserved g c = (subst (AllByRecursion IsGoodCommand) c.in-Some.ensures.steps.0 c.loop-command.invariant).1
