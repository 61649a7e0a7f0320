use Rattle.watching.specs.Acts.{Opens}
use Rattle.watching.proofs.no_watcher.NoWatcherWatcher.opens.Given as goal

abbrev pub ghost-after : goal.ghost-after
ghost-after g a = Opens (g.D.Disk.state a._first.now).seen (g.D.Disk.state a._second.now).seen
