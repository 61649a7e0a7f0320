use Rattle.std.proofs.Common.{drop}
use Rattle.botcore.proofs.AskLemmas.{IsActing}
use Rattle.botcore.proofs.acting.Doing.act_all.Given as goal

-- the actions so far are done
abbrev pub invariant-loop-action : goal.invariant-loop-action
invariant-loop-action g l = IsActing l.fn.link l.fn.self l.fn.actions l.link l.self (drop l.action-index l.fn.actions)
