-- Where the binds of a kind stand.
use Rattle.std.specs.Prelude.{◌≡◌, List, [], map, filter, slice_get, Some, if◌then◌else◌}
use Rattle.procs.specs.declared.bind_kind.BindKind.{BindKind}
use Rattle.procs.specs.declared.bind.Bind.{Bind}
use Rattle.procs.specs.declared.index.KindIndex.{KindIndex}
use Rattle.procs.specs.Kinds.{is_kind, is_single, place_of}
use Rattle.procs.specs.Masks.{entry_of, key_of}
use Rattle.procs.specs.Words.{words_of}

-- the binds of a kind
abbrev pub of_kind : BindKind → List Bind → List Bind
of_kind kind binds = filter (λ b. is_kind kind b.kind) binds

-- an index has an entry for each bind of its kind, and for a single kind its keyword at the same place
pub record IsIndexOf (kind : BindKind) (binds : List Bind) (index : KindIndex) : Type 0 where
  pub entries : index.entries.items ≡ map entry_of (of_kind kind binds)
  pub words : words_of index ≡ (if is_single kind then map key_of (of_kind kind binds) else [])

-- the index of each kind stands at its number
abbrev pub AreIndexed : List Bind → List KindIndex → Type 0
AreIndexed binds indexes = (kind : BindKind) (index : KindIndex) → slice_get indexes (place_of kind) ≡ Some index → IsIndexOf kind binds index
