use Rattle.watching.specs.Acts.{Sends}
use Rattle.watching.proofs.no_watcher.NoWatcherWatcher.sends.Given as goal

abbrev pub ghost-after : goal.ghost-after
ghost-after g a = Sends a._first.now
