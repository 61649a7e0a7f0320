use Rattle.watching.proofs.SendingLemmas.{quietly_on, quietly_stays}
use Rattle.botrun.proofs.starting.bind_listed.Goals as goal

pub loop-bind-init : goal.loop-bind-init
loop-bind-init g c = quietly_stays _ _ _ _ _ c.requires.watched

pub bind_one-requires : goal.bind_one-requires
bind_one-requires g c = record { watched = c.loop-bind.invariant.watched }

pub loop-bind-preserved : goal.loop-bind-preserved
loop-bind-preserved g c = quietly_on _ _ _ _ _ _ _ _ c.loop-bind.invariant c.bind_one.ensures

pub returns-in_err-bind_one : goal.returns-in_err-bind_one
returns-in_err-bind_one g c = quietly_on _ _ _ _ _ _ _ _ c.loop-bind.invariant c.bind_one.ensures
