use borrow.Author.Rules.{lives}
use Rattle.watching.proofs.no_watcher.NoWatcherWatcher.forgets.Goals as goal

-- whatever outlives the disk outlives the bot
pub after-requires : goal.after-requires
after-requires g c κs within = search (lives, within.0, within.1.0, within.1.1) depth 80 fits 100000
