-- The lines of one queue, and the room for more.
use Rattle.std.specs.Prelude.{ℕ, ◌-◌, List, [], ◌∷◌, ◌++◌, Option, Some, None}

-- the lines, from the one that goes first, and how many more can be put without an allocation
pub record Filled : Type 0 where
  pub lines : List (List ℕ)
  pub room : ℕ

-- the line is last, and uses one place of the room, if any
abbrev pub with_last : Filled → List ℕ → Filled
with_last f line = record { lines = f.lines ++ line ∷ []; room = f.room - 1 }

abbrev pub first_of : List (List ℕ) → Option (List ℕ)
first_of [] = None
first_of (line ∷ lines) = Some line
