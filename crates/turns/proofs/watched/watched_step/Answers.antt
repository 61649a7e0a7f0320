use Rattle.watching.proofs.StepLemmas.{may_tell, may_make, step_follows, step_watched, acts_of_step}
use Rattle.turns.proofs.watched.watched_step.Goals as goal

pub tells-requires : goal.tells-requires
tells-requires g c =
    may_tell g.P.Promise.promised c.args.store.now g.W.Watcher.may (g.W.Watcher.past c.args.watcher.now) c.args.bot.now c.args.event
    c.requires.watched c.requires.takes

pub made-requires : goal.made-requires
made-requires g c =
    may_make g.P.Promise.promised c.args.store.now g.W.Watcher.may (g.W.Watcher.past c.args.watcher.now) c.args.bot.now c.args.event
    c.requires.watched c.requires.takes (g.W.Watcher.past c.tells.new.self) c.step-report.result c.step-report.new.self
    c.tells.ensures c.step-report.ensures.takes c.know_disks.ensures.left

pub returns-clause-follows : goal.returns-clause-follows
returns-clause-follows g c =
    step_follows g.P.Promise.promised c.args.store.now g.W.Watcher.may (g.W.Watcher.past c.args.watcher.now) c.args.bot.now c.args.event
    c.requires.watched c.requires.takes (g.W.Watcher.past c.tells.new.self) c.step-report.result c.step-report.new.self
    c.tells.ensures c.step-report.ensures.takes c.know_disks.ensures.left (g.W.Watcher.past c.made.new.self) c.made.ensures

pub returns-clause-watched : goal.returns-clause-watched
returns-clause-watched g c =
    step_watched g.P.Promise.promised c.args.store.now g.W.Watcher.may (g.W.Watcher.past c.args.watcher.now) c.args.bot.now c.args.event
    c.requires.watched c.requires.takes (g.W.Watcher.past c.tells.new.self) c.step-report.result c.step-report.new.self
    c.tells.ensures c.step-report.ensures.takes c.know_disks.ensures.left (g.W.Watcher.past c.made.new.self) c.made.ensures

pub returns-clause-past : goal.returns-clause-past
returns-clause-past g c =
    acts_of_step g.P.Promise.promised c.args.store.now g.W.Watcher.may (g.W.Watcher.past c.args.watcher.now) c.args.bot.now c.args.event
    c.requires.watched c.requires.takes (g.W.Watcher.past c.tells.new.self) c.step-report.result c.step-report.new.self
    c.tells.ensures c.step-report.ensures.takes c.know_disks.ensures.left (g.W.Watcher.past c.made.new.self) c.made.ensures
