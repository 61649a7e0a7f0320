use Rattle.std.proofs.Common.{◌∙◌, ap, sym, subst, ℕ, List}
use Rattle.procs.specs.Promises.{KeepsPromise}
use Rattle.eggprocs.specs.Procs.{name_of, answers_by, ours}
use Rattle.eggprocs.proofs.Names.{keeps}
use Rattle.eggprocs.proofs.full_store.add.Goals as goal

pub new-proc-requires-clause-keeps : goal.new-proc-requires-clause-keeps
new-proc-requires-clause-keeps c =
    subst (λ (name : List ℕ). KeepsPromise ours name (answers_by c.new.result.which))
    (ap name_of c.new.ensures ∙ sym c.name.ensures ∙ sym c.in_ok-name.ensures)
    (keeps c.new.result.which)
