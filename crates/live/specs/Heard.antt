-- What a guest received, line by line.
use Rattle.std.specs.Prelude.{ℕ, List, [], ◌∷◌, ◌++◌}
use Rattle.std.specs.List.{flat_map}

-- NICK LINE
abbrev pub heard_line : List ℕ → List ℕ → List ℕ
heard_line nick line = nick ++ 32 ∷ [] ++ line ++ 10 ∷ []

abbrev pub heard_text : List ℕ → List (List ℕ) → List ℕ
heard_text nick lines = flat_map (heard_line nick) lines
