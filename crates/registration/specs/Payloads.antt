-- The messages of a login as lines (IRCv3 SASL 3.1): Base64 in pieces of 400 bytes, of which the last is shorter. An
-- empty piece is written "+".
use Rattle.std.specs.Prelude.{ℕ, zero, suc, ◌+◌, ◌/◌, nat_lt, List, [], ◌∷◌, ◌++◌, length, take, drop, codes, if◌then◌else◌}
use Rattle.std.specs.Str.{bytes_eq}
use Rattle.registration.specs.declared.limits.TheConstants.{MAX_CHALLENGE, PIECE}
use Rattle.registration.specs.declared.payload.Collected.{Collected}
use Rattle.registration.specs.declared.payload.Collected.TheVariants.{More, Whole, Bad}

-- ---- what a client says

abbrev pub piece_line : List ℕ → List ℕ
piece_line piece = codes "AUTHENTICATE " ++ piece

abbrev pub or_plus : List ℕ → List ℕ
or_plus [] = codes "+"
or_plus (b ∷ bs) = b ∷ bs

-- so many whole pieces, and the last one
abbrev pub lines_from : ℕ → List ℕ → List (List ℕ)
lines_from zero text = piece_line (or_plus text) ∷ []
lines_from (suc n) text = piece_line (take PIECE text) ∷ lines_from n (drop PIECE text)

abbrev pub payload_lines : List ℕ → List (List ℕ)
payload_lines text = lines_from (length text / PIECE) text

-- ---- what a client hears

-- what is known of a message after one more piece: it goes on, it is whole, or it is too long
abbrev pub with_piece : List ℕ → List ℕ → Collected
with_piece held piece =
    if bytes_eq piece (codes "+") then Whole held
    else if nat_lt PIECE (length piece) then Bad
    else if nat_lt MAX_CHALLENGE (length held + length piece) then Bad
    else if nat_lt (length piece) PIECE then Whole (held ++ piece)
    else More (held ++ piece)
