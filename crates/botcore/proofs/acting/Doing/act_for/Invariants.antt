use Rattle.std.proofs.Common.{drop}
use Rattle.botcore.specs.Acting.{actions_of}
use Rattle.botcore.proofs.AskLemmas.{IsActing}
use Rattle.botcore.proofs.acting.Doing.act_for.Given as goal

-- the actions of the calls so far are done
abbrev pub invariant-loop-call : goal.invariant-loop-call
invariant-loop-call g l = IsActing l.fn.link l.fn.self (actions_of l.fn.calls) l.link l.self (actions_of (drop l.call-index l.fn.calls))
