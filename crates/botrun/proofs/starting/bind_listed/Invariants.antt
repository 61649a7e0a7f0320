use Rattle.watching.specs.Following.{StepsQuietly}
use Rattle.botrun.proofs.starting.bind_listed.Given as goal

-- the binds so far have led here
abbrev pub invariant-loop-bind : goal.invariant-loop-bind
invariant-loop-bind g l =
    StepsQuietly g.P.Promise.promised l.store g.W.Watcher.may (g.W.Watcher.past l.fn.watcher) (g.W.Watcher.past l.watcher) l.bot
