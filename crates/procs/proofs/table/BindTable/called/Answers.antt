use Rattle.std.proofs.Common.{List, get_or, sym, subst, ap, ◌∙◌, arith}
use Rattle.procs.specs.declared.bind.Bind.{Bind}
use Rattle.procs.specs.Calls.{called, seen}
use Rattle.procs.specs.Tables.{Table}
use Rattle.procs.specs.Behind.{AreKnown, behind}
use Rattle.procs.proofs.IndexLemmas.{index-at}
use Rattle.procs.proofs.CandidateLemmas.{are_words, candidates-call, called-means}
use Rattle.procs.proofs.table.BindTable.called.Goals as goal

pub candidates-entries-requires : goal.candidates-entries-requires
candidates-entries-requires c single =
    let held : List Bind = c.self.inside.held.items in
    let index = get_or c.self.inside.indexes c.place_of.result c.index-self-place_of.result in
    are_words c.args.event.now.kind held index
    (index-at held c.self.inside.indexes c.args.event.now.kind c.place_of.result c.index-self-place_of.result c.self.invariant.1
    c.place_of.ensures.place (omega arith))
    c.self.invariant.0.good single

pub of-requires-clause-known : goal.of-requires-clause-known
of-requires-clause-known c =
    let held : List Bind = c.self.inside.held.items in
    let index = get_or c.self.inside.indexes c.place_of.result c.index-self-place_of.result in
    subst (λ (bs : List Bind). AreKnown bs c.candidates-entries.result.now) (sym c.deref.ensures.value)
    (candidates-call (seen c.args.event.now) held index c.candidates-entries.result.now (c.self.inside.last, c.self.invariant.0.rising) c.self.invariant.0.apart
    (index-at held c.self.inside.indexes c.args.event.now.kind c.place_of.result c.index-self-place_of.result c.self.invariant.1
    c.place_of.ensures.place (omega arith))
    c.candidates-entries.ensures).0

pub returns-clause-meaning : goal.returns-clause-meaning
returns-clause-meaning c = called-means (seen c.args.event.now)

pub returns-clause-binds : goal.returns-clause-binds
returns-clause-binds c =
    let held : List Bind = c.self.inside.held.items in
    let index = get_or c.self.inside.indexes c.place_of.result c.index-self-place_of.result in
    c.of.ensures ∙ ap (λ (bs : List Bind). called (seen c.args.event.now) (behind bs c.candidates-entries.result.now)) c.deref.ensures.value
    ∙ (candidates-call (seen c.args.event.now) held index c.candidates-entries.result.now (c.self.inside.last, c.self.invariant.0.rising)
    c.self.invariant.0.apart
    (index-at held c.self.inside.indexes c.args.event.now.kind c.place_of.result c.index-self-place_of.result c.self.invariant.1
    c.place_of.ensures.place (omega arith))
    c.candidates-entries.ensures).1
    ∙ ap (λ (t : Table). called (seen c.args.event.now) t.binds) c.self.view_is
