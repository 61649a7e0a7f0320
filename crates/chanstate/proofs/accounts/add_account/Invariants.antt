use Rattle.std.proofs.Common.{◌≡◌, ◌++◌, take, drop, map}
use Rattle.chanstate.specs.EventShape.{with_account}
use Rattle.chanstate.proofs.accounts.add_account.Given as goal

-- the events so far have the account
abbrev pub invariant-loop-event : goal.invariant-loop-event
invariant-loop-event l =
    l.event-items ≡ map (with_account l.account) (take l.event-index l.initial.event-items) ++ drop l.event-index l.initial.event-items
