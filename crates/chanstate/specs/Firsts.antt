-- Edits of the first element of a list that passes a test.
use Rattle.std.specs.Prelude.{Bool, List, [], ◌∷◌, if◌then◌else◌}

-- the list without the first element that passes
abbrev pub first_removed : {X : Type 0} → (X → Bool) → List X → List X
first_removed test [] = []
first_removed test (x ∷ xs) = if test x then xs else x ∷ first_removed test xs

-- the list with the first element that passes changed in its place
abbrev pub first_changed : {X : Type 0} → (X → Bool) → (X → X) → List X → List X
first_changed test change [] = []
first_changed test change (x ∷ xs) = if test x then change x ∷ xs else x ∷ first_changed test change xs
