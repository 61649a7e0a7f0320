-- What is left of a `create` on empty disks that was stopped.
use Rattle.std.specs.Prelude.{ℕ, ◌==◌, Bool, true, false, if◌then◌else◌, List, [], ◌∷◌, length, take, nat_le}
use Rattle.std.specs.Str.{bytes_eq}
use Rattle.bytejournal.specs.Meaning.{letters}

-- the first disk has at most one byte, or begins with a closed gate that is 0 or stands before the letters
abbrev pub is_unmade_front : List ℕ → Bool
is_unmade_front [] = true
is_unmade_front (gate ∷ []) = true
is_unmade_front (gate ∷ next ∷ rest) = if gate == 1 then false else if gate == 0 then true else bytes_eq (take 4 (next ∷ rest)) letters

-- no journal was ever created on disks with these bytes
abbrev pub is_unmade : List ℕ → List ℕ → Bool
is_unmade first second = if nat_le (length second) 1 then is_unmade_front first else false
