use Rattle.std.proofs.Common.{List, sym, subst}
use Rattle.procs.specs.declared.bind.Bind.{Bind}
use Rattle.procs.specs.Index.{AreIndexed}
use Rattle.procs.specs.Sound.{IsSound}
use Rattle.procs.proofs.SoundLemmas.{sound-none}
use Rattle.procs.proofs.table.BindTable.new.Goals as goal

pub invariant_of-result : goal.invariant_of-result
invariant_of-result c = (
  subst (λ (bs : List Bind). IsSound (record { binds = bs; last = 0 })) (sym c.new.ensures.items) sound-none,
  subst (λ (bs : List Bind). AreIndexed bs c.no_indexes.result) (sym c.new.ensures.items) c.no_indexes.ensures,
)
