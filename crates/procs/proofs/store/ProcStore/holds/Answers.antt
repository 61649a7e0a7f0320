use Rattle.std.proofs.Common.{◌∙◌, ap, sym}
use Rattle.procs.specs.Calling.{holds}
use Rattle.procs.proofs.StoreLemmas.{holds-lookup}
use Rattle.procs.proofs.store.ProcStore.holds.Goals as goal

pub returns : goal.returns
returns g c = c.contains_key.ensures ∙ sym (holds-lookup c.args.name.now c.self.inside.procs.entries)
    ∙ ap (λ names. holds names c.args.name.now) c.self.view_is
