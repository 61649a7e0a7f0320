-- The line of the file `parent`, in which an heir's hub names the net that it goes on from.
use Rattle.std.specs.Prelude.{◌≡◌, ◌++◌, ◌-◌, ◌==◌, ◌&&◌, not, ℕ, Bool, true, false, List, codes, decimal, length, take, slice_index, Option, None, is_some, if◌then◌else◌}
use Rattle.handshake.specs.Digits.{digits_in}
use Rattle.handshake.specs.Numbers.{wide_in}
use Rattle.handshake.specs.Reading.{word_of, rest_of}

-- the number of the net before, and the version of the leaf that was promoted
abbrev pub parent_line : List ℕ → ℕ → List ℕ
parent_line net version = net ++ (codes " " ++ (decimal version ++ codes "\n"))

-- this is such a line
pub record IsParentLine (net line : List ℕ) : Type 0 where
  pub version : ℕ
  pub is : line ≡ parent_line net version

-- ---- how it is read

-- the number of the net that a line names, without its line feed
abbrev pub parent_named : List ℕ → Option (List ℕ)
parent_named front = if is_some (wide_in (rest_of front)) then digits_in 16 (word_of front) else None

abbrev pub ends_line : List ℕ → Bool
ends_line bytes = not (length bytes == 0) && slice_index bytes (length bytes - 1) == 10

-- the number of the net that a whole line names
abbrev pub parent_in : List ℕ → Option (List ℕ)
parent_in bytes = if ends_line bytes then parent_named (take (length bytes - 1) bytes) else None
