-- The parts of a text before and after a byte.
use Rattle.std.specs.Prelude.{ℕ, Bool, List, [], ◌∷◌, ◌==◌, drop, if◌then◌else◌}
use Rattle.std.specs.List.{list_any}

-- the bytes before the first that passes the test; all if none does
abbrev pub up_to : (ℕ → Bool) → List ℕ → List ℕ
up_to test [] = []
up_to test (b ∷ bs) = if test b then [] else b ∷ up_to test bs

-- the bytes from the first that passes the test on; nothing if none does
abbrev pub from_first : (ℕ → Bool) → List ℕ → List ℕ
from_first test [] = []
from_first test (b ∷ bs) = if test b then b ∷ bs else from_first test bs

-- whether the text holds this byte
abbrev pub holds : ℕ → List ℕ → Bool
holds byte text = list_any (λ b. b == byte) text

-- the bytes before the first such byte; all if there is none
abbrev pub before : ℕ → List ℕ → List ℕ
before byte text = up_to (λ b. b == byte) text

-- the bytes after the first such byte; nothing if there is none
abbrev pub behind : ℕ → List ℕ → List ℕ
behind byte text = drop 1 (from_first (λ b. b == byte) text)
