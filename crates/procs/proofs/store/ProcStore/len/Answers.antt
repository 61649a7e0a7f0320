use Rattle.std.proofs.Common.{◌∙◌, ◌≡◌, ap, sym, arith, length}
use Rattle.std.proofs.lemmas.List.{length-map}
use Rattle.procs.specs.Named.{names_of}
use Rattle.procs.proofs.store.ProcStore.len.Goals as goal

pub returns-clause-count : goal.returns-clause-count
returns-clause-count g c = c.len.ensures.len ∙ sym (length-map c.self.inside.procs.entries (λ e. e.0.items)) ∙ ap length c.self.view_is

pub returns-clause-few : goal.returns-clause-few
returns-clause-few g c =
    let entries = c.self.inside.procs.entries in
    let same : c.len.result ≡ length (names_of entries) = c.len.ensures.len ∙ sym (length-map entries (λ e. e.0.items)) in
    let few = c.self.invariant.1 in
    omega arith
