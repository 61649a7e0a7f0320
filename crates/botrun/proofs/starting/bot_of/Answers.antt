use Rattle.std.proofs.Common.{sym, subst}
use Rattle.std.proofs.lemmas.Result.{IfOk-weaker}
use Rattle.watching.specs.Acts.{Station, MayBegin}
use Rattle.watching.specs.Following.{Lets, HasBegun}
use Rattle.watching.proofs.FollowingLemmas.{numbers_begin}
use Rattle.botrun.proofs.starting.bot_of.Goals as goal

pub found-requires-clause-lets : goal.found-requires-clause-lets
found-requires-clause-lets g c =
    subst (λ (s : Station). Lets (MayBegin s) g.W.Watcher.may (g.W.Watcher.past c.args.watcher.now)) (sym c.in_ok-config.ensures.station) c.requires.lets

pub found-requires-clause-before : goal.found-requires-clause-before
found-requires-clause-before g c = numbers_begin (g.W.Watcher.past c.args.watcher.now) c.args.last c.requires.numbers

pub made-requires-clause-lets : goal.made-requires-clause-lets
made-requires-clause-lets g c =
    subst (λ (s : Station). Lets (MayBegin s) g.W.Watcher.may (g.W.Watcher.past c.args.watcher.now)) (sym c.in_ok-config.ensures.station) c.requires.lets

pub returns-in-Ok-Found : goal.returns-in-Ok-Found
returns-in-Ok-Found g c =
    IfOk-weaker c.found.result _ _ (λ bot begun.
    subst (λ (s : Station). HasBegun s (g.W.Watcher.past c.args.watcher.now) (g.W.Watcher.past c.found.new.watcher) bot)
    c.in_ok-config.ensures.station begun) c.found.ensures

pub returns-in_ok-begin_net-in-Ok-Empty : goal.returns-in_ok-begin_net-in-Ok-Empty
returns-in_ok-begin_net-in-Ok-Empty g c =
    IfOk-weaker c.made.result _ _ (λ bot begun.
    subst (λ (s : Station). HasBegun s (g.W.Watcher.past c.args.watcher.now) (g.W.Watcher.past c.made.new.watcher) bot)
    c.in_ok-config.ensures.station begun) c.made.ensures
