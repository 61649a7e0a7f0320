use Rattle.watching.specs.Following.{IsUp}
use Rattle.botrun.specs.Taking.{GoesOn}
use Rattle.botrun.specs.Watched.{station_of}
use Rattle.botrun.proofs.process.Process.pump.Given as goal

-- the bot has gone on so far, and is where that has led
abbrev pub invariant-loop-ask : goal.invariant-loop-ask
invariant-loop-ask g l = record {
  goes_on : GoesOn g.P.Promise.promised l.store l.fn.self.bot l.fn.self.lines l.self.bot l.self.lines;
  up : IsUp g.P.Promise.promised l.store (station_of l.settings) g.W.Watcher.may (g.W.Watcher.past l.watcher) l.self.bot
      l.self.others.mail.account.told;
}
