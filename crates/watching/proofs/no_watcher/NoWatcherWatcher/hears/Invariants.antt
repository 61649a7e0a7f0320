use Rattle.watching.specs.Acts.{Hears}
use Rattle.watching.proofs.no_watcher.NoWatcherWatcher.hears.Given as goal

abbrev pub ghost-after : goal.ghost-after
ghost-after g a = Hears a._first.now.items
