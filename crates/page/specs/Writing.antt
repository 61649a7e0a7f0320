-- The body or the head of an answer that is being written.
use Rattle.std.specs.Prelude.{◌≡◌, ℕ, ◌+◌, ◌≤◌, ◌==◌, Bool, true, List, [], ◌∷◌, ◌++◌, length, if◌then◌else◌}

pub record Written : Type 0 where
  pub bytes : List ℕ
  -- all is there that was to be written
  pub is_whole : Bool

abbrev pub nothing : Written
nothing = record { bytes = []; is_whole = true }

-- what is whole after more was to be written was whole before, and has that at its end
abbrev pub Adds : Written → List ℕ → Written → Type 0
Adds old more new = new.is_whole ≡ true → (old.is_whole ≡ true) × (new.bytes ≡ old.bytes ++ more)

-- and likewise for at most so many bytes that are not told
abbrev pub AddsSome : Written → ℕ → Written → Type 0
AddsSome old most new = new.is_whole ≡ true
    → (old.is_whole ≡ true) × ((more : List ℕ) × ((new.bytes ≡ old.bytes ++ more) × (length more ≤ most)))

-- how many values a form takes: one for each $
abbrev pub holes : List ℕ → ℕ
holes [] = 0
holes (b ∷ form) = if b == 36 then holes form + 1 else holes form
