use Rattle.watching.specs.Acts.{Began}
use Rattle.watching.proofs.no_watcher.NoWatcherWatcher.began.Given as goal

abbrev pub ghost-after : goal.ghost-after
ghost-after g a = Began a._first.now
