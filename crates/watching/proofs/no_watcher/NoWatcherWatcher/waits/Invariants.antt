use Rattle.watching.specs.Acts.{Waits}
use Rattle.watching.proofs.no_watcher.NoWatcherWatcher.waits.Given as goal

abbrev pub ghost-after : goal.ghost-after
ghost-after a = Waits
