-- An heir whose own first change reaches its leaf: the premises of the laws can be met.
use Rattle.std.specs.Prelude.{◌≡◌, List, [], ◌∷◌, Some}
use Rattle.procs.specs.Promises.{Promised}
use Rattle.processes.specs.Deeds.{Net, Deed, Run, net_after, shown_version}
use Rattle.heirs.specs.Descents.{Ancestor, Descends}

-- A hub accepted a change, and its leaf applied it and was promoted. The heir's hub accepted another change. Its leaf, which
-- began at version 0, has caught up.
pub record CatchesUp (promised : Promised) : Type 0 where
  pub parent : Ancestor
  pub net : Net
  pub deeds : List Deed
  pub descends : Descends promised (parent ∷ []) net
  pub run : Run promised net deeds
  pub promoted : parent.version ≡ 1
  pub began : shown_version net 1 ≡ Some 0
  pub hub : shown_version (net_after net deeds) 0 ≡ Some 2
  pub leaf : shown_version (net_after net deeds) 1 ≡ Some 2
