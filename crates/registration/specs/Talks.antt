-- A registration from its beginning on, whatever the server says and whenever the iterations are done.
use Rattle.std.specs.Prelude.{◌≡◌, ℕ, Bool, false, List, [], ◌∷◌, ◌++◌, codes, Some, None}
use Rattle.std.specs.Str.{bytes_eq}
use Rattle.ircline.specs.declared.line.Line.{Line}
use Rattle.ircline.specs.declared.line.Line.TheVariants.{Message as a_message, Bad as a_bad_line}
use Rattle.ircline.specs.Numeric.{is_command}
use Rattle.registration.specs.declared.credentials.Credentials.{Credentials}
use Rattle.registration.specs.declared.registration.Registration.{Registration}
use Rattle.registration.specs.declared.scram_hash.ScramHash.{ScramHash}
use Rattle.registration.specs.Hearings.{finished, hearing_of, nonce_of, worked}
use Rattle.registration.specs.Messages.{auth_message, first_refusal, iterations_of, part_of, salt_of, verifier}
use Rattle.registration.specs.Pbkdf2.{hi}
use Rattle.registration.specs.Proofs.{server_signature}
use Rattle.registration.specs.Registrations.{applied, said}

-- it hears a line, does so many iterations, or ends a derivation
pub data Turn : Type 0 where
  Hear : Line → Turn
  Derive : ℕ → Turn
  Finish : Turn

abbrev pub turned : Registration → Turn → Registration
turned r (Hear line) = applied r (hearing_of r line)
turned r (Derive rounds) = record r { work = worked r.work rounds }
turned r Finish = applied r (finished r.work)

abbrev pub after : Registration → List Turn → Registration
after r [] = r
after r (turn ∷ turns) = after (turned r turn) turns

-- ServerSignature of an exchange with this account, nonce and server-first-message
abbrev pub signature_for : ScramHash → Credentials → List ℕ → List ℕ → List ℕ
signature_for hash account nonce first =
    server_signature hash (hi hash account.password (salt_of first) (iterations_of first)) (auth_message account.name nonce first)

-- A server has shown that it knows the password: it sent a first message that is not refused, so its nonce begins with
-- the client's and its iterations are within the limits, and a final message with the whole signature.
pub record IsShown (r : Registration) : Type 0 where
  pub account : Credentials
  pub of : r.account ≡ Some account
  pub hash : ScramHash
  pub first : List ℕ
  pub taken : first_refusal (nonce_of r.nonces hash) first ≡ None
  pub final : List ℕ
  pub signature : part_of final ≡ verifier (signature_for hash account (nonce_of r.nonces hash) first)

-- ---- all that is said and heard

abbrev pub said_in : Registration → Turn → List (List ℕ)
said_in r (Hear line) = said r (hearing_of r line)
said_in r (Derive rounds) = []
said_in r Finish = said r (finished r.work)

abbrev pub all_said : Registration → List Turn → List (List ℕ)
all_said r [] = []
all_said r (turn ∷ turns) = said_in r turn ++ all_said (turned r turn) turns

-- CAP END
abbrev pub is_end_line : List ℕ → Bool
is_end_line line = bytes_eq line (codes "CAP END")

-- whether a line says that the login succeeded, and whether a turn brings one
abbrev pub says_success : Line → Bool
says_success (a_message message) = is_command (codes "903") message.command
says_success (a_bad_line why) = false

abbrev pub brings_success : Turn → Bool
brings_success (Hear line) = says_success line
brings_success (Derive rounds) = false
brings_success Finish = false
