-- The form of an answer: lines, and then a line with a full stop alone.
use Rattle.std.specs.Prelude.{ℕ, ◌-◌, Bool, List, [], ◌∷◌, ◌||◌, length, take, drop, nat_le, Option, None, Some, if◌then◌else◌, codes, ◌&&◌}
use Rattle.std.specs.Str.{bytes_eq}

-- a line feed, and the last line
abbrev pub last_line : List ℕ
last_line = 10 ∷ 46 ∷ 10 ∷ []

-- the lines before the last one, if the answer ends with it
abbrev pub body_of : List ℕ → Option (List ℕ)
body_of bytes =
    if bytes_eq bytes (46 ∷ 10 ∷ []) then Some []
    else if nat_le 3 (length bytes) && bytes_eq (drop (length bytes - 3) bytes) last_line then Some (take (length bytes - 2) bytes)
    else None

-- an answer that begins so refuses the command
abbrev pub begins_with : List ℕ → List ℕ → Bool
begins_with word bytes = bytes_eq (take (length word) bytes) word

abbrev pub is_refusal : List ℕ → Bool
is_refusal body = begins_with (codes "refused ") body || begins_with (codes "fault ") body
