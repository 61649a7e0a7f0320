use Rattle.watching.specs.Acts.{Forgets}
use Rattle.watching.proofs.no_watcher.NoWatcherWatcher.forgets.Given as goal

abbrev pub ghost-after : goal.ghost-after
ghost-after g a = Forgets a._first.now
