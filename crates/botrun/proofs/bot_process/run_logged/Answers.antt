use Rattle.std.proofs.Common.{refl, subst, sym, ◌∙◌}
use Rattle.watching.proofs.FollowingLemmas.{numbers_first, lawful_first, allows_begin, may_forget, forgets_lawful, numbers_again}
use Rattle.watching.proofs.SendingLemmas.{up_begun}
use Rattle.watching.specs.Acts.{Station}
use Rattle.watching.specs.Following.{Allows}
use Rattle.upkeep.specs.Stations.{IsKnownWhereWanted}
use Rattle.botrun.proofs.StationLemmas.{at_station}
use Rattle.botrun.proofs.bot_process.run_logged.Goals as goal

pub loop-life-init : goal.loop-life-init
loop-life-init g c = record {
  lawful = lawful_first g.P.Promise.promised c.args.store.now _ _ c.requires.unwatched;
  numbers = numbers_first _ 0 c.requires.unwatched refl;
  station = refl;
  some = c.requires.some;
}

pub begin-requires-clause-known : goal.begin-requires-clause-known
begin-requires-clause-known g c =
    subst (λ station. IsKnownWhereWanted station c.args.secret) (sym c.loop-life.invariant.station) c.requires.known

pub begin-requires-clause-lets : goal.begin-requires-clause-lets
begin-requires-clause-lets g c =
    allows_begin g.P.Promise.promised c.args.store.now _ g.W.Watcher.may _ (at_station (λ (station : Station). Allows g.P.Promise.promised c.args.store.now station g.W.Watcher.may) _ _ c.loop-life.invariant.station c.requires.allows) c.loop-life.invariant.lawful

pub live-requires : goal.live-requires
live-requires g c = record {
  up = up_begun g.P.Promise.promised c.args.store.now _ g.W.Watcher.may _ _ _ _ (at_station (λ (station : Station). Allows g.P.Promise.promised c.args.store.now station g.W.Watcher.may) _ _ c.loop-life.invariant.station c.requires.allows)
      c.loop-life.invariant.lawful c.in_ok-process.ensures.begun c.in_ok-process.ensures.told;
}

pub give_up-requires-clause-allowed : goal.give_up-requires-clause-allowed
give_up-requires-clause-allowed g c =
    may_forget _ _ _ _ _ _ c.in_ok-above.ensures.at (rw c.in-BeginsAbove.is at c.in_ok-above.ensures.again)

pub loop-life-preserved : goal.loop-life-preserved
loop-life-preserved g c = record {
  lawful = forgets_lawful _ _ _ _ _ _ _ c.in_ok-above.ensures.at (rw c.in-BeginsAbove.is at c.in_ok-above.ensures.again) c.give_up.ensures.past;
  numbers = numbers_again _ _ _ _ c.give_up.ensures.past;
  station = c.in_ok-above.ensures.station ∙ c.loop-life.invariant.station;
  some = c.in_ok-above.ensures.some c.loop-life.invariant.some;
}
