use Rattle.watching.specs.Following.{IsUp}
use Rattle.botrun.specs.Watched.{station_of}
use Rattle.botrun.proofs.process.Process.obey_each.Given as goal

-- the bot is where the commands so far have led
abbrev pub invariant-loop-place : goal.invariant-loop-place
invariant-loop-place g l =
    IsUp g.P.Promise.promised l.store (station_of l.settings) g.W.Watcher.may (g.W.Watcher.past l.watcher) l.self.bot
    l.self.others.mail.account.told
