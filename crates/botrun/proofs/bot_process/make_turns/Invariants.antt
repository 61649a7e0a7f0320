use Rattle.std.proofs.Common.{◌≡◌, ◌<◌, length}
use Rattle.watching.specs.Following.{IsUp}
use Rattle.botrun.specs.Watched.{station_of}
use Rattle.botrun.proofs.bot_process.make_turns.Given as goal

-- the bot is where its turns so far have led; what was read again is of the same bot
abbrev pub invariant-loop-turn : goal.invariant-loop-turn
invariant-loop-turn g l = record {
  up : IsUp g.P.Promise.promised l.store (station_of l.settings) g.W.Watcher.may (g.W.Watcher.past l.watcher) l.process.bot
      l.process.others.mail.account.told;
  station : l.settings.station ≡ l.fn.settings.station;
  some : 0 < length l.fn.settings.servers → 0 < length l.settings.servers;
}
