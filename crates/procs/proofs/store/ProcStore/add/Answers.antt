use Rattle.std.proofs.Common.{◌∙◌, ◌++◌, ◌∷◌, [], ap, sym}
use Rattle.procs.specs.Calling.{refusal}
use Rattle.procs.proofs.StoreLemmas.{added-last, added-whole, added-names}
use Rattle.procs.proofs.store.ProcStore.add.Goals as goal

pub invariant_of-self : goal.invariant_of-self
invariant_of-self g c =
    let es = c.self.inside.procs.entries in
    let own = c.in-Ok.ensures.items ∙ c.name-2.ensures in
    let none = ap (λ names. refusal names c.args.proc.name) c.self.view_is ∙ ap (refusal c.args.self.now) (sym c.name.ensures)
    ∙ sym c.refusal_of.ensures ∙ c.in_default.is in
    let last = added-last es c.insert.new.self.entries c.in-Ok.name c.args.proc own none c.in-Ok-insert.ensures.entries in
    added-whole es c.insert.new.self.entries c.in-Ok.name c.args.proc c.self.invariant.0 own none last

pub returns-in-Ok-insert-clause-added : goal.returns-in-Ok-insert-clause-added
returns-in-Ok-insert-clause-added g c =
    let es = c.self.inside.procs.entries in
    let own = c.in-Ok.ensures.items ∙ c.name-2.ensures in
    let none = ap (λ names. refusal names c.args.proc.name) c.self.view_is ∙ ap (refusal c.args.self.now) (sym c.name.ensures)
    ∙ sym c.refusal_of.ensures ∙ c.in_default.is in
    let last = added-last es c.insert.new.self.entries c.in-Ok.name c.args.proc own none c.in-Ok-insert.ensures.entries in
    added-names es c.insert.new.self.entries c.in-Ok.name c.args.proc own last
    ∙ ap (λ names. names ++ c.args.proc.name ∷ []) c.self.view_is
