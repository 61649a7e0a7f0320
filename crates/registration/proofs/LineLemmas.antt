-- How long the lines are that a client says.
use Rattle.std.proofs.Common.{◌≡◌, ℕ, zero, suc, ◌+◌, ◌*◌, ◌/◌, ◌<◌, ◌≤◌, Bool, true, false, List, [], ◌∷◌, length, take, drop, Option, Some, None, sym, subst, arith}
use Rattle.std.proofs.Common.{length-append, length-drop, length-take-le}
use Rattle.std.specs.Prelude.{codes}
use Rattle.std.specs.List.{concat}
use Rattle.registration.specs.declared.credentials.Credentials.{Credentials}
use Rattle.registration.specs.declared.capabilities.Capabilities.{Capabilities}
use Rattle.registration.specs.declared.registration_event.Say.{Say}
use Rattle.registration.specs.declared.registration_event.Say.TheVariants.{Request, RequestSasl, Name, First, Final, Plain, Empty, End}
use Rattle.registration.specs.declared.hearing.Work.{Work}
use Rattle.registration.specs.declared.hearing.Work.TheVariants as work
use Rattle.registration.specs.declared.mechanism.Mechanism.{Mechanism}
use Rattle.registration.specs.declared.mechanism.Mechanism.TheVariants as mechanism
use Rattle.registration.specs.declared.registration.ScramNonces.{ScramNonces}
use Rattle.registration.specs.Payloads.{lines_from, or_plus, payload_lines, piece_line}
use Rattle.registration.specs.Registrations.{AreShort, final_lines, first_lines, lines_by, lines_of, name_line, names_of, plain_lines, request_line, word}
use Rattle.registration.specs.Sets.{mechanism_name}

-- ---- the lines of a message

plus_short : (text : List ℕ) → length text < 400 → length (or_plus text) < 400
plus_short [] less = omega arith
plus_short (b ∷ bs) less = less

piece_short : (piece : List ℕ) → length piece ≤ 400 → length (piece_line piece) ≤ 510
piece_short piece few = omega (arith, length-append (codes "AUTHENTICATE ") piece)

take_short : (text : List ℕ) → 400 ≤ length text → length (take 400 text) ≤ 400
take_short text more = omega (arith, length-take-le 400 text more)

pieces_short : (n : ℕ) (text : List ℕ) → 400 * n ≤ length text → length text < 400 * suc n → AreShort (lines_from n text)
pieces_short zero text more less = (piece_short (or_plus text) (omega (arith, plus_short text (omega arith))), tt)
pieces_short (suc n) text more less = (
  piece_short (take 400 text) (take_short text (omega arith)),
  pieces_short n (drop 400 text) (omega (arith, length-drop 400 text)) (omega (arith, length-drop 400 text)),
)

payload_short : (text : List ℕ) → AreShort (payload_lines text)
payload_short text = pieces_short (length text / 400) text (omega arith) (omega arith)

-- ---- the other lines

word_short : (is_said : Bool) (name : List ℕ) → length (word is_said name) ≤ length name
word_short true name = omega arith
word_short false name = omega arith

drop_short : (text : List ℕ) → length (drop 1 text) ≤ length text
drop_short text = omega (arith, length-drop 1 text)

concat_len : (x : List ℕ) (xs : List (List ℕ)) → length (concat (x ∷ xs)) ≡ length x + length (concat xs)
concat_len x xs = length-append x (concat xs)

seven_short : (a b c d e f g : List ℕ)
    → length (concat (a ∷ b ∷ c ∷ d ∷ e ∷ f ∷ g ∷ [])) ≡ length a + length b + length c + length d + length e + length f + length g
seven_short a b c d e f g =
    omega (
      arith,
      concat_len a (b ∷ c ∷ d ∷ e ∷ f ∷ g ∷ []),
      concat_len b (c ∷ d ∷ e ∷ f ∷ g ∷ []),
      concat_len c (d ∷ e ∷ f ∷ g ∷ []),
      concat_len d (e ∷ f ∷ g ∷ []),
      concat_len e (f ∷ g ∷ []),
      concat_len f (g ∷ []),
      concat_len g [],
    )

names_short : (set : Capabilities) → length (names_of set) ≤ 200
names_short set =
    omega (
      arith,
      seven_short (word set.account_notify (codes " account-notify")) (word set.extended_join (codes " extended-join"))
          (word set.multi_prefix (codes " multi-prefix")) (word set.userhost_in_names (codes " userhost-in-names"))
          (word set.chghost (codes " chghost")) (word set.away_notify (codes " away-notify")) (word set.invite_notify (codes " invite-notify")),
      word_short set.account_notify (codes " account-notify"),
      word_short set.extended_join (codes " extended-join"),
      word_short set.multi_prefix (codes " multi-prefix"),
      word_short set.userhost_in_names (codes " userhost-in-names"),
      word_short set.chghost (codes " chghost"),
      word_short set.away_notify (codes " away-notify"),
      word_short set.invite_notify (codes " invite-notify"),
    )

request_short : (set : Capabilities) → length (request_line set) ≤ 510
request_short set =
    omega (
      arith,
      concat_len (codes "CAP REQ :") (drop 1 (names_of set) ∷ []),
      concat_len (drop 1 (names_of set)) [],
      drop_short (names_of set),
      names_short set,
    )

name_short : (named : Mechanism) → length (name_line (mechanism_name named)) ≤ 510
name_short mechanism.ScramSha512 = omega arith
name_short mechanism.ScramSha256 = omega arith
name_short mechanism.External = omega arith
name_short mechanism.Plain = omega arith

-- ---- all lines

first_short : (account : Option Credentials) (nonce : List ℕ) → AreShort (first_lines account nonce)
first_short None nonce = tt
first_short (Some account) nonce = payload_short _

plain_short : (account : Option Credentials) → AreShort (plain_lines account)
plain_short None = tt
plain_short (Some account) = payload_short _

final_short : (kept : Work) → AreShort (final_lines kept)
final_short work.Nothing = tt
final_short (work.Salting salting) = tt
final_short (work.Final own) = payload_short _

of_say : (account : Option Credentials) (nonces : ScramNonces) (kept : Work) (say : Say) → AreShort (lines_of account nonces kept say)
of_say account nonces kept (Request set) = (request_short set, tt)
of_say account nonces kept RequestSasl = (omega arith, tt)
of_say account nonces kept (Name named) = (name_short named, tt)
of_say account nonces kept (First hash) = first_short account _
of_say account nonces kept Final = final_short kept
of_say account nonces kept Plain = plain_short account
of_say account nonces kept Empty = (omega arith, tt)
of_say account nonces kept End = (omega arith, tt)

by_say : (account : Option Credentials) (nonces : ScramNonces) (kept : Work) (say : Option Say) → AreShort (lines_by account nonces kept say)
by_say account nonces kept None = tt
by_say account nonces kept (Some say) = of_say account nonces kept say

pub are_short : (lines : List (List ℕ)) (account : Option Credentials) (nonces : ScramNonces) (kept : Work) (say : Option Say)
    → lines ≡ lines_by account nonces kept say → AreShort lines
are_short lines account nonces kept say same = subst (λ (l : List (List ℕ)). AreShort l) (sym same) (by_say account nonces kept say)
