-- An answer.
use Rattle.std.specs.Prelude.{◌≡◌, ℕ, List, ◌++◌}

-- these bytes begin with those
abbrev pub BeginsWith : List ℕ → List ℕ → Type 0
BeginsWith front bytes = (rest : List ℕ) × (bytes ≡ front ++ rest)
