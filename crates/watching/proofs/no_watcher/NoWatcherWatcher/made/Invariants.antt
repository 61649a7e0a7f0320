use Rattle.watching.specs.Acts.{Made}
use Rattle.watching.proofs.no_watcher.NoWatcherWatcher.made.Given as goal

abbrev pub ghost-after : goal.ghost-after
ghost-after g a = Made a._first.now a._second.now
