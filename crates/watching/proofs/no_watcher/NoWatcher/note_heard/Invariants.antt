use Rattle.watching.specs.Acts.{Hears}
use Rattle.watching.proofs.no_watcher.NoWatcher.note_heard.Given as goal

abbrev pub ghost-after : goal.ghost-after
ghost-after a = Hears a._first.now.items
