-- Values whose spelling takes up all of some bytes.
use Rattle.std.specs.Prelude.{ℕ, List, [], ◌∷◌, Option, Some, None, Ok, Err}
use Rattle.usercodec.specs.Fields.{Reading}

-- this value, if no byte is left
abbrev pub if_done : {A : Type 0} → A → List ℕ → Option A
if_done x [] = Some x
if_done x (byte ∷ bytes) = None

-- the value that was read, if it took all bytes
abbrev pub whole : {A : Type 0} → Reading A → Option A
whole (Ok x) = if_done x.0 x.1
whole (Err fault) = None
