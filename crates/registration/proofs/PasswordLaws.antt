-- Which lines the password is in.
use Rattle.std.proofs.Common.{◌≡◌, ℕ, false, List, Some, refl, ap}
use Rattle.registration.specs.declared.credentials.Credentials.{Credentials}
use Rattle.registration.specs.declared.registration_event.Say.{Say}
use Rattle.registration.specs.declared.registration_event.Say.TheVariants.{Request, RequestSasl, Name, First, Final, Plain, Empty, End}
use Rattle.registration.specs.declared.hearing.Work.{Work}
use Rattle.registration.specs.declared.registration.ScramNonces.{ScramNonces}
use Rattle.registration.specs.Hearings.{nonce_of}
use Rattle.registration.specs.Messages.{client_first}
use Rattle.registration.specs.Registrations.{lines_of, message_lines}
use Rattle.registration.specs.Runs.{is_plain}

-- no line but those of PLAIN depends on the password, for the same work
pub password_apart : (a b : Credentials) (nonces : ScramNonces) (kept : Work) (said : Say) → a.name ≡ b.name → is_plain said ≡ false
    → lines_of (Some a) nonces kept said ≡ lines_of (Some b) nonces kept said
password_apart a b nonces kept (Request set) names other = refl
password_apart a b nonces kept RequestSasl names other = refl
password_apart a b nonces kept (Name mechanism) names other = refl
password_apart a b nonces kept (First hash) names other =
    ap (λ (name : List ℕ). message_lines (client_first name (nonce_of nonces hash))) names
password_apart a b nonces kept Final names other = refl
password_apart a b nonces kept Plain names other = cc
password_apart a b nonces kept Empty names other = refl
password_apart a b nonces kept End names other = refl
