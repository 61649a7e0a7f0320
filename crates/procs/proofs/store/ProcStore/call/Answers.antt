use Rattle.std.proofs.Common.{◌∙◌, ap, sym, subst, is_some}
use Rattle.procs.specs.Calling.{holds, IsCalled}
use Rattle.procs.proofs.StoreLemmas.{holds-lookup, lookup-named, IsCalled-found}
use Rattle.procs.proofs.store.ProcStore.call.Goals as goal

pub returns-in-Some : goal.returns-in-Some
returns-in-Some g c =
    let name = c.args.name.now in
    let entries = c.self.inside.procs.entries in
    let found = sym c.in-Some.ensures.value in
    let held = ap (λ names. holds names name) (sym c.self.view_is) ∙ holds-lookup name entries ∙ ap is_some found in
    let own = ap (λ p. p.name) c.proc.view_is ∙ lookup-named name entries c.in-Some.proc.now c.self.invariant.0 found in
    subst (λ answer. IsCalled g.P.Promise.promised c.args.self.now name c.args.call.now c.args.view.now answer)
    (sym c.as_called.ensures)
    (IsCalled-found g.P.Promise.promised c.args.self.now c.proc.inside.name name c.args.call.now c.args.view.now c.run.result
    held own (c.proc.invariant.1 c.args.call.now c.args.view.now c.run.result c.run.ensures))

pub returns-in-None : goal.returns-in-None
returns-in-None g c =
    ap (λ names. holds names c.args.name.now) (sym c.self.view_is) ∙ holds-lookup c.args.name.now c.self.inside.procs.entries
    ∙ ap is_some (sym c.in-None.ensures.value)
