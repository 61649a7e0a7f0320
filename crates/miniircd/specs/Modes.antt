-- The single modes of a MODE (RFC 2812 section 3.2.3).
use Rattle.std.specs.Prelude.{ℕ, Bool, true, false, ◌||◌, ◌&&◌, not, ◌==◌, List, [], ◌∷◌, ◌++◌, drop, if◌then◌else◌}
use Rattle.miniircd.specs.declared.modes.Single.{Single}
use Rattle.miniircd.specs.People.{word_at}

-- o v b e I k h have an argument with both signs, l with plus alone, and no other letter has one
abbrev pub has_argument : Bool → ℕ → Bool
has_argument on b = b == 111 || (b == 118 || (b == 98 || (b == 101 || (b == 73 || (b == 107 || (b == 104 || (on && b == 108)))))))

-- + and - are signs, and each holds until the next one
abbrev pub sign_after : Bool → ℕ → Bool
sign_after on b = if b == 43 then true else (if b == 45 then false else on)

abbrev pub is_letter : ℕ → Bool
is_letter b = not (b == 43 || b == 45)

abbrev pub takes_argument : Bool → ℕ → Bool
takes_argument on b = is_letter b && has_argument on b

-- the argument of a letter, or the empty text if it is missing
abbrev pub argument_of : Bool → ℕ → List (List ℕ) → List ℕ
argument_of on b arguments = if takes_argument on b then word_at 0 arguments else []

abbrev pub arguments_after : Bool → ℕ → List (List ℕ) → List (List ℕ)
arguments_after on b arguments = if takes_argument on b then drop 1 arguments else arguments

-- the single mode of a byte; a sign has none
abbrev pub single_at : Bool → ℕ → List (List ℕ) → List Single
single_at on b arguments = if is_letter b then record { on = on; letter = b; argument = argument_of on b arguments } ∷ [] else []

-- the single modes of a mode string; the sign is plus at first
unfoldable pub singles : Bool → List ℕ → List (List ℕ) → List Single
singles on [] arguments = []
singles on (b ∷ bs) arguments = single_at on b arguments ++ singles (sign_after on b) bs (arguments_after on b arguments)
