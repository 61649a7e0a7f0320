use Rattle.std.proofs.Common.{List, get_or, sym, ap, ◌∙◌, arith}
use Rattle.std.proofs.lemmas.Bool.{not-true}
use Rattle.procs.specs.declared.bind.Bind.{Bind}
use Rattle.procs.specs.Calls.{called}
use Rattle.procs.specs.Tables.{Table}
use Rattle.procs.proofs.IndexLemmas.{index-at}
use Rattle.procs.proofs.CandidateLemmas.{are_words, takes-none}
use Rattle.procs.proofs.table.BindTable.takes_none.Goals as goal

pub candidates-requires : goal.candidates-requires
candidates-requires c single =
    let held : List Bind = c.self.inside.held.items in
    let index = get_or c.self.inside.indexes c.place_of.result c.index-self-place_of.result in
    are_words c.args.kind held index
    (index-at held c.self.inside.indexes c.args.kind c.place_of.result c.index-self-place_of.result c.self.invariant.1 c.place_of.ensures.place (omega arith))
    c.self.invariant.0.good single

pub returns : goal.returns
returns c taken event of_kind of_subject =
    let held : List Bind = c.self.inside.held.items in
    let index = get_or c.self.inside.indexes c.place_of.result c.index-self-place_of.result in
    let none = sym c.has_needed.ensures ∙ not-true c.has_needed.result taken in
    sym (ap (λ (t : Table). called event t.binds) c.self.view_is)
    ∙ takes-none c.args.kind c.args.subject.now held index c.candidates.result.now (c.self.inside.last, c.self.invariant.0.rising) c.self.invariant.0.apart
    (index-at held c.self.inside.indexes c.args.kind c.place_of.result c.index-self-place_of.result c.self.invariant.1 c.place_of.ensures.place (omega arith))
    c.candidates.ensures none event of_kind of_subject
