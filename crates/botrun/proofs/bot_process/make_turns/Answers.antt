use Rattle.watching.specs.Acts.{Station}
use Rattle.watching.specs.Following.{IsUp}
use Rattle.watching.proofs.SendingLemmas.{even_rested, may_rest}
use Rattle.botrun.proofs.StationLemmas.{at_station}
use Rattle.botrun.proofs.bot_process.make_turns.Goals as goal

pub waits-requires : goal.waits-requires
waits-requires g c =
    may_rest _ _ _ _ _ _ _ (at_station (λ (station : Station). IsUp g.P.Promise.promised c.args.store.now station
    g.W.Watcher.may (g.W.Watcher.past c.loop-turn.watcher) c.loop-turn.process.bot
    c.loop-turn.process.others.mail.account.told) _ _ c.settle.ensures.station c.loop-turn.invariant.up)

pub turn-requires-clause-even : goal.turn-requires-clause-even
turn-requires-clause-even g c =
    even_rested _ _ _ _ _ _ _ _ (at_station (λ (station : Station). IsUp g.P.Promise.promised c.args.store.now station
    g.W.Watcher.may (g.W.Watcher.past c.loop-turn.watcher) c.loop-turn.process.bot
    c.loop-turn.process.others.mail.account.told) _ _ c.settle.ensures.station c.loop-turn.invariant.up) c.waits.ensures
