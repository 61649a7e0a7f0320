-- Sets of letters, a to z and A to Z, as numbers: a to z are bits 0 to 25, A to Z are bits 26 to 51. The letters are
-- Eggdrop's flags; its documents on users and flags leave the capitals free for use. The bits are our own choice.
use Rattle.std.specs.Prelude.{ℕ, ◌-◌, ◌^◌, ◌==◌, nat_le, Bool, true, ◌&&◌, List, [], ◌∷◌, codes, filter, fold, if◌then◌else◌}
use Rattle.std.specs.List.{list_all, list_any}
use Rattle.std.specs.Char.{is_ascii_alphabetic}
use Rattle.std.specs.Int.{bit_at}
use Rattle.std.specs.Int.RustNames.{bit_or}

-- the bit of a letter
abbrev pub place_of : ℕ → ℕ
place_of letter = if nat_le 97 letter then letter - 97 else letter - 39

-- whether a byte is a letter that is in the set
unfoldable pub has_letter : ℕ → ℕ → Bool
has_letter flags letter = is_ascii_alphabetic letter && (bit_at flags (place_of letter) == 1)

-- the set with this byte too, if it is a letter
unfoldable pub with_letter : ℕ → ℕ → ℕ
with_letter flags byte = if is_ascii_alphabetic byte then bit_or flags (2 ^ place_of byte) else flags

-- the set of the letters among some bytes
abbrev pub set_of : List ℕ → ℕ
set_of bytes = fold with_letter 0 bytes

-- every letter, in the order in which flags are printed
unfoldable pub letters : List ℕ
letters = codes "abcdefghijklmnopqrstuvwxyzABCDEFGHIJKLMNOPQRSTUVWXYZ"

-- whether any letter is in both sets
unfoldable pub shares : ℕ → ℕ → Bool
shares flags others = list_any (λ letter. has_letter flags letter && has_letter others letter) letters

-- whether each letter of the first set is in the second
unfoldable pub is_within : ℕ → ℕ → Bool
is_within flags others = list_all (λ letter. if has_letter flags letter then has_letter others letter else true) letters

-- the letters of a set in order, or `-` if there are none, as Eggdrop prints them
abbrev pub dash_for_none : List ℕ → List ℕ
dash_for_none [] = codes "-"
dash_for_none (letter ∷ more) = letter ∷ more

unfoldable pub spelling : ℕ → List ℕ
spelling flags = dash_for_none (filter (has_letter flags) letters)
