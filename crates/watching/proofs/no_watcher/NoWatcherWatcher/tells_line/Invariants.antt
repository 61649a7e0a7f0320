use Rattle.watching.specs.Acts.{Told}
use Rattle.botcore.specs.declared.event.BotEvent.TheVariants.{Line}
use Rattle.watching.proofs.no_watcher.NoWatcherWatcher.tells_line.Given as goal

abbrev pub ghost-after : goal.ghost-after
ghost-after g a = Told a._first.now (Line a._second.now)
