use Rattle.std.proofs.Common.{◌≡◌, ◌<◌, length}
use Rattle.watching.specs.Acts.{NumbersAbove}
use Rattle.watching.specs.Following.{IsLawful}
use Rattle.botrun.specs.Watched.{station_of}
use Rattle.botrun.proofs.bot_process.run_logged.Given as goal

-- all that the process has done is lawful, and it may begin a bot now; what was read again is of the same bot
abbrev pub invariant-loop-life : goal.invariant-loop-life
invariant-loop-life g l = record {
  lawful : IsLawful g.P.Promise.promised l.store (station_of l.settings) (g.W.Watcher.past l.watcher);
  numbers : NumbersAbove (g.W.Watcher.past l.watcher) l.last;
  station : l.settings.station ≡ l.fn.settings.station;
  some : 0 < length l.settings.servers;
}
