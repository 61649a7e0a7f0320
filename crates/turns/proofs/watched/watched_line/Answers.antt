use Rattle.watching.proofs.StepLemmas.{may_tell, may_make, step_follows, step_watched, acts_of_step}
use Rattle.botcore.specs.declared.event.BotEvent.TheVariants.{Line}
use Rattle.turns.proofs.watched.watched_line.Goals as goal

pub tells_line-requires : goal.tells_line-requires
tells_line-requires g c =
    may_tell g.P.Promise.promised c.args.store.now g.W.Watcher.may (g.W.Watcher.past c.args.watcher.now) c.args.bot.now (Line c.args.line.now)
    c.requires.watched tt

pub made-requires : goal.made-requires
made-requires g c =
    may_make g.P.Promise.promised c.args.store.now g.W.Watcher.may (g.W.Watcher.past c.args.watcher.now) c.args.bot.now (Line c.args.line.now)
    c.requires.watched tt (g.W.Watcher.past c.tells_line.new.self) c.take_line-report.result c.take_line-report.new.self
    c.tells_line.ensures c.take_line-report.ensures.takes c.know_disks.ensures.left

pub returns-clause-follows : goal.returns-clause-follows
returns-clause-follows g c =
    step_follows g.P.Promise.promised c.args.store.now g.W.Watcher.may (g.W.Watcher.past c.args.watcher.now) c.args.bot.now (Line c.args.line.now)
    c.requires.watched tt (g.W.Watcher.past c.tells_line.new.self) c.take_line-report.result c.take_line-report.new.self
    c.tells_line.ensures c.take_line-report.ensures.takes c.know_disks.ensures.left (g.W.Watcher.past c.made.new.self) c.made.ensures

pub returns-clause-watched : goal.returns-clause-watched
returns-clause-watched g c =
    step_watched g.P.Promise.promised c.args.store.now g.W.Watcher.may (g.W.Watcher.past c.args.watcher.now) c.args.bot.now (Line c.args.line.now)
    c.requires.watched tt (g.W.Watcher.past c.tells_line.new.self) c.take_line-report.result c.take_line-report.new.self
    c.tells_line.ensures c.take_line-report.ensures.takes c.know_disks.ensures.left (g.W.Watcher.past c.made.new.self) c.made.ensures

pub returns-clause-past : goal.returns-clause-past
returns-clause-past g c =
    acts_of_step g.P.Promise.promised c.args.store.now g.W.Watcher.may (g.W.Watcher.past c.args.watcher.now) c.args.bot.now (Line c.args.line.now)
    c.requires.watched tt (g.W.Watcher.past c.tells_line.new.self) c.take_line-report.result c.take_line-report.new.self
    c.tells_line.ensures c.take_line-report.ensures.takes c.know_disks.ensures.left (g.W.Watcher.past c.made.new.self) c.made.ensures
