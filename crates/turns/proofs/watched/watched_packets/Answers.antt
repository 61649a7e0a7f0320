use Rattle.std.proofs.Common.{List, subst, sym}
use Rattle.watching.specs.Acts.{Act, MayStep}
use Rattle.watching.specs.Following.{Follows}
use Rattle.watching.specs.Following.Follows.{so_far}
use Rattle.watching.proofs.HearingLemmas.{all_heard, may_hear, hears_follows, hears_watched}
use Rattle.watching.proofs.SendingLemmas.{quiet_heard, quiet_same}
use Rattle.turns.proofs.watched.watched_packets.Goals as goal

pub hears-requires-clause-may : goal.hears-requires-clause-may
hears-requires-clause-may g c =
    may_hear g.P.Promise.promised c.args._store.now g.W.Watcher.may (g.W.Watcher.past c.args.watcher.now) c.args._bot.now
    c.requires.watched

pub returns-in_err-packets-clause-follows : goal.returns-in_err-packets-clause-follows
returns-in_err-packets-clause-follows g c =
    subst (λ (past : List Act). Follows (MayStep g.P.Promise.promised c.args._store.now) (g.W.Watcher.past c.args.watcher.now) past)
    (sym c.in_err-packets.ensures.same) so_far

pub returns-clause-heard : goal.returns-clause-heard
returns-clause-heard g c =
    all_heard (g.W.Watcher.past c.args.watcher.now) (g.W.Watcher.past c.hears.new.self) c.in_ok-packets.packets.items
    c.in_ok-packets.ensures.past

pub returns-clause-follows : goal.returns-clause-follows
returns-clause-follows g c =
    hears_follows g.P.Promise.promised c.args._store.now g.W.Watcher.may (g.W.Watcher.past c.args.watcher.now) c.args._bot.now
    c.requires.watched (g.W.Watcher.past c.hears.new.self) c.in_ok-packets.packets.items c.in_ok-packets.ensures.past

pub returns-clause-watched : goal.returns-clause-watched
returns-clause-watched g c =
    hears_watched g.P.Promise.promised c.args._store.now g.W.Watcher.may (g.W.Watcher.past c.args.watcher.now) c.args._bot.now
    c.requires.watched (g.W.Watcher.past c.hears.new.self) c.in_ok-packets.packets.items c.in_ok-packets.ensures.past

pub returns-in_err-packets-clause-quiet : goal.returns-in_err-packets-clause-quiet
returns-in_err-packets-clause-quiet g c = quiet_same _ _ c.in_err-packets.ensures.same

pub returns-clause-quiet : goal.returns-clause-quiet
returns-clause-quiet g c = quiet_heard _ _ _ c.in_ok-packets.ensures.past
