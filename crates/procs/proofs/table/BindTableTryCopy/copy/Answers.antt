use Rattle.std.proofs.Common.{◌≡◌, List, sym, subst, ◌∙◌}
use Rattle.procs.specs.declared.bind.Bind.{Bind}
use Rattle.procs.specs.Index.{AreIndexed}
use Rattle.procs.specs.Sound.{IsSound}
use Rattle.procs.proofs.table.BindTableTryCopy.copy.Goals as goal

pub invariant_of-result : goal.invariant_of-result
invariant_of-result c =
    let same : c.in_ok-held.held.items ≡ c.deref.result.now = c.in_ok-held.ensures.0 in (
      subst (λ (bs : List Bind). IsSound (record { binds = bs; last = c.self.inside.last })) (sym (same ∙ c.deref.ensures.value)) c.self.invariant.0,
      subst (λ (bs : List Bind). AreIndexed bs c.in_ok-held.indexes) (sym same) c.in_ok-held.ensures.1,
    )
