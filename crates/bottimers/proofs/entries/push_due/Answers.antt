use Rattle.std.proofs.Common.{◌≡◌, true, get_or}
use Rattle.bottimers.specs.declared.entry.Entry.{Entry}
use Rattle.bottimers.specs.Occurrences.{is_due_of}
use Rattle.bottimers.specs.Held.{call_of}
use Rattle.bottimers.proofs.EntryLists.{some_kept}
use Rattle.bottimers.proofs.entries.push_due.Goals as goal

-- memory is asked for only where some timer is due
pub returns-in_err-call-clause-needs_none : goal.returns-in_err-call-clause-needs_none
returns-in_err-call-clause-needs_none c = λ none.
    let entries = c.args.entries.now in
    let at = c.loop-entry.entry-index in
    let passes : is_due_of c.args.kind c.args.to (get_or entries at c.entry-item.result).timer ≡ true = cc in
    absurd (some_kept (λ (e : Entry). is_due_of c.args.kind c.args.to e.timer) (λ (e : Entry). call_of e.timer)
    entries at c.entry-item.result c.loop-entry-test.true passes none)

pub returns-in_err-push-clause-needs_none : goal.returns-in_err-push-clause-needs_none
returns-in_err-push-clause-needs_none c = λ none.
    let entries = c.args.entries.now in
    let at = c.loop-entry.entry-index in
    let passes : is_due_of c.args.kind c.args.to (get_or entries at c.entry-item.result).timer ≡ true = cc in
    absurd (some_kept (λ (e : Entry). is_due_of c.args.kind c.args.to e.timer) (λ (e : Entry). call_of e.timer)
    entries at c.entry-item.result c.loop-entry-test.true passes none)
