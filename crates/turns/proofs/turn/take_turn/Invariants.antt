use Rattle.std.specs.List.{AllByRecursion}
use Rattle.watching.specs.Acts.{MayStep, MayTake}
use Rattle.watching.specs.Following.{Follows, IsWatched}
use Rattle.turns.proofs.LineLemmas.{IsTurning}
use Rattle.turns.proofs.QueueLemmas.{IsQueued}
use Rattle.turns.proofs.turn.take_turn.Given as goal

-- the events so far are stepped, the watcher was told of each step, and the others may be taken
abbrev pub invariant-loop-event : goal.invariant-loop-event
invariant-loop-event g l = record {
  turning : IsTurning g.P.Promise.promised l.store l.fn.bot l.fn.lines l.fn.heard l.lines l.stepped.lines.items l.stepped.reports.items
      l.bot l.event-iterator.rest.items;
  takes : AllByRecursion (MayTake (g.W.Watcher.past l.watcher)) l.event-iterator.rest.items;
  follows : Follows (MayStep g.P.Promise.promised l.store) (g.W.Watcher.past l.fn.watcher) (g.W.Watcher.past l.watcher);
  queued : IsQueued (g.W.Watcher.past l.fn.watcher) (g.W.Watcher.past l.watcher) l.stepped.reports.items l.event-iterator.rest.items;
  watched : IsWatched g.P.Promise.promised l.store g.W.Watcher.may (g.W.Watcher.past l.watcher) l.bot;
}
