-- A gate is one byte, open when it is 1. What stands after a closed gate doesn't count, so a text is written after a
-- closed gate and is on the disk before the gate is opened.
use Rattle.std.specs.Prelude.{◌≡◌, ◌⊎◌, Bool, true, if◌then◌else◌, ℕ, ◌+◌, List, ◌∷◌, ◌++◌, length, take, drop}

-- the file with this byte as the gate at this offset, and this text after it
abbrev pub with_gate : List ℕ → ℕ → List ℕ → ℕ → List ℕ
with_gate file at text gate = take at file ++ (gate ∷ (text ++ drop (at + 1 + length text) file))

-- what a crash may leave while a text is written after a gate and the gate is opened: either the gate and what is
-- before it as they were, or the whole text after any gate
abbrev pub IsHalfWritten : List ℕ → ℕ → List ℕ → List ℕ → Type 0
IsHalfWritten file at text image = (take (at + 1) image ≡ take (at + 1) file) ⊎ ((gate : ℕ) × (image ≡ with_gate file at text gate))

-- the file with another first byte
abbrev pub with_first : List ℕ → ℕ → List ℕ
with_first file gate = gate ∷ drop 1 file

-- the file with its first gate closed, if it is to be
abbrev pub closed_first : Bool → List ℕ → List ℕ
closed_first closes file = if closes then with_first file 0 else file

-- what a crash may leave while the first gate is closed, if it is to be: the file, or the file with another first gate
abbrev pub IsHalfClosed : Bool → List ℕ → List ℕ → Type 0
IsHalfClosed closes file image = (image ≡ file) ⊎ ((gate : ℕ) × (closes ≡ true) × (image ≡ with_first file gate))

-- what a crash may leave while a file is replaced: either the old file with another first gate, if the gate was open,
-- or the file with that gate closed and the text half written
abbrev pub IsHalfReplaced : Bool → List ℕ → List ℕ → List ℕ → Type 0
IsHalfReplaced is_open file text image = ((gate : ℕ) × (is_open ≡ true) × (image ≡ with_first file gate))
    ⊎ IsHalfWritten (closed_first is_open file) 0 text image
