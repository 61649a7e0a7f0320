use Rattle.watching.specs.Acts.{Told}
use Rattle.watching.proofs.no_watcher.NoWatcherWatcher.tells.Given as goal

abbrev pub ghost-after : goal.ghost-after
ghost-after g a = Told a._first.now a._second.now
