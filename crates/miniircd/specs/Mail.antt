-- What the server sends: lines that the protocol allows, to connected clients.
use Rattle.std.specs.Prelude.{◌≡◌, ℕ, map, Bool, true, false, not, ◌==◌, ◌&&◌, List, [], ◌∷◌, ◌++◌, Option, Some, None, is_some, filter, take, length, nat_le, if◌then◌else◌}
use Rattle.std.specs.List.{list_all}
use Rattle.ircline.specs.Classes.{filled, octet}
use Rattle.ircline.specs.Reading.{line_of}
use Rattle.ircline.specs.declared.line.Line.{Line}
use Rattle.ircline.specs.declared.line.Line.TheVariants as line
use Rattle.miniircd.specs.declared.client_identity.ClientIdentity.{ClientIdentity}
use Rattle.miniircd.specs.declared.client.SentLine.{SentLine}
use Rattle.miniircd.specs.People.{held_at}

-- the clients, which of them is about to leave, and the lines that the server sends
pub record Mail : Type 0 where
  pub clients : List (Option ClientIdentity)
  pub leaver : Option ℕ
  pub lines : List SentLine

-- who gets lines
abbrev pub readers : Mail → List (Option ClientIdentity) × Option ℕ
readers mail = (mail.clients, mail.leaver)

-- a line has at most 510 bytes before CR and LF, and no NUL, CR or LF (RFC 2812 section 2.3)
abbrev pub sealed : List ℕ → List ℕ
sealed text = take 510 (filter octet text)

abbrev pub is_leaver : Option ℕ → ℕ → Bool
is_leaver None client = false
is_leaver (Some leaver) client = client == leaver

-- a client gets lines if it is connected and not about to leave
abbrev pub serves : List (Option ClientIdentity) → Option ℕ → ℕ → Bool
serves clients leaver client = is_some (held_at clients client) && not (is_leaver leaver client)

-- a text for a client
pub record Letter : Type 0 where
  pub to : ℕ
  pub text : List ℕ

-- a letter as it is
abbrev pub sent : Letter → SentLine
sent letter = record { to = record { 0 = letter.to }; line = letter.text }

-- the lines that are sent for a letter
abbrev pub delivery : List (Option ClientIdentity) → Option ℕ → Letter → List SentLine
delivery clients leaver letter =
    if filled (sealed letter.text) && serves clients leaver letter.to
    then record { to = record { 0 = letter.to }; line = sealed letter.text } ∷ []
    else []

abbrev pub deliveries : List (Option ClientIdentity) → Option ℕ → List Letter → List SentLine
deliveries clients leaver [] = []
deliveries clients leaver (letter ∷ letters) = delivery clients leaver letter ++ deliveries clients leaver letters

-- the mail after these letters, in their order
abbrev pub posted : List Letter → Mail → Mail
posted letters mail = record mail { lines = mail.lines ++ deliveries mail.clients mail.leaver letters }

-- a line as the protocol allows it
abbrev pub is_line : List ℕ → Bool
is_line text = filled text && (nat_le (length text) 510 && list_all octet text)

-- whether a text reads as a message
abbrev pub is_message : Line → Bool
is_message (line.Message m) = true
is_message (line.Bad fault) = false

abbrev pub is_readable : List ℕ → Bool
is_readable text = is_message (line_of text)

-- a line that a client may get
abbrev pub is_sound : List (Option ClientIdentity) → Option ℕ → SentLine → Bool
is_sound clients leaver sent = serves clients leaver sent.to.0 && is_line sent.line

abbrev pub are_sound : List (Option ClientIdentity) → Option ℕ → List SentLine → Bool
are_sound clients leaver lines = list_all (is_sound clients leaver) lines

-- the lines are these letters, none left out and none changed, and each reads as a message
pub record IsTold (letters : List Letter) (lines : List SentLine) : Type 0 where
  pub as_they_are : lines ≡ map sent letters
  pub readable : list_all (λ s. is_readable s.line) lines ≡ true
