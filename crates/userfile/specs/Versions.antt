-- The userfile at a version: the empty one after the first accepted changes, as many as the version says.
use Rattle.std.specs.Prelude.{ℕ, List, [], ◌∷◌, take}
use Rattle.userfile.specs.Records.{Records, no_records}
use Rattle.userfile.specs.Apply.{changed}
use Rattle.userfile.specs.declared.change.Change.{Change}

-- the records after these changes, applied in order
abbrev pub after_changes : Records → List Change → Records
after_changes old [] = old
after_changes old (change ∷ changes) = after_changes (changed old change) changes

-- the records after the first v of these changes
abbrev pub records_at : List Change → ℕ → Records
records_at changes v = after_changes no_records (take v changes)
