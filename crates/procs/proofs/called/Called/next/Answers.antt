use Rattle.std.proofs.Common.{None, ◌∙◌, sym}
use Rattle.procs.specs.Calls.{seen}
use Rattle.procs.proofs.BehindLemmas.{behind-next, known-next}
use Rattle.procs.proofs.called.Called.next.Goals as goal

pub if_called-requires-clause-told : goal.if_called-requires-clause-told
if_called-requires-clause-told c =
    let self = c.loop-entry.self-inside in
    (known-next self.held.now self.entries.now c.in-Some.rest.now c.in-Some.entry.now c.in-Some.ensures.cases.0 c.loop-entry.invariant.1).0

pub loop-entry-preserved : goal.loop-entry-preserved
loop-entry-preserved c =
    let self = c.loop-entry.self-inside in (
      c.loop-entry.invariant.0,
      (known-next self.held.now self.entries.now c.in-Some.rest.now c.in-Some.entry.now c.in-Some.ensures.cases.0 c.loop-entry.invariant.1).1,
      c.loop-entry.invariant.2,
      sym (behind-next (seen self.event) self.held.now self.entries.now c.in-Some.rest.now c.in-Some.entry.now None c.in-Some.ensures.cases.0 c.in_default-if_called.ensures)
          ∙ c.loop-entry.invariant.3,
    )
