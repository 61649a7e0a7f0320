use Rattle.std.proofs.Common.{◌≡◌, length}
use Rattle.wildmask.specs.WideSignatures.{wide_text_signature}
use Rattle.procs.specs.Calls.{called, seen}
use Rattle.procs.specs.Behind.{AreKnown, HaveRisen, behind}
use Rattle.procs.proofs.called.Called.next.Given as goal

-- none of the entries so far was called, so those behind the rest are all that are left
abbrev pub invariant-loop-entry : goal.invariant-loop-entry
invariant-loop-entry l =
    let self = l.self-inside in
    HaveRisen self.held.now × AreKnown self.held.now self.entries.now × (self.pairs ≡ wide_text_signature self.event.subject.now)
    × (called (seen self.event) (behind self.held.now self.entries.now) ≡ l.fn.self)

abbrev pub decreases-loop-entry : goal.decreases-loop-entry
decreases-loop-entry l = length l.self-inside.entries.now
