use Rattle.watching.specs.Acts.{Creates}
use Rattle.watching.proofs.no_watcher.NoWatcherWatcher.creates.Given as goal

abbrev pub ghost-after : goal.ghost-after
ghost-after g a = Creates (g.D.Disk.state a._first.now).seen (g.D.Disk.state a._second.now).seen a._third.now
