-- What a line means for a registration, with the messages of its login.
use Rattle.std.specs.Prelude.{◌≡◌, ℕ, ◌+◌, ◌==◌, not, min, Bool, false, List, [], codes, Option, Some, None, if◌then◌else◌}
use Rattle.std.specs.Str.{bytes_eq}
use Rattle.ircline.specs.declared.line.Line.{Line}
use Rattle.ircline.specs.declared.line.Line.TheVariants.{Message as a_message, Bad as a_bad_line}
use Rattle.ircline.specs.declared.message.Message.{Message}
use Rattle.registration.specs.declared.credentials.Credentials.{Credentials}
use Rattle.registration.specs.declared.registration_event.RegistrationEvent.{RegistrationEvent}
use Rattle.registration.specs.declared.registration_event.RegistrationEvent.TheVariants.{Go, FirstTaken, Derived, FinalTaken, Broken, Nothing}
use Rattle.registration.specs.declared.hearing.Hearing.{Hearing}
use Rattle.registration.specs.declared.hearing.Work.{Work}
use Rattle.registration.specs.declared.hearing.Work.TheVariants as work
use Rattle.registration.specs.declared.negotiation.LoginStage.{LoginStage}
use Rattle.registration.specs.declared.negotiation.LoginStage.TheVariants.{AwaitsGo, AwaitsFirst, Derives, AwaitsFinal, AwaitsResult}
use Rattle.registration.specs.declared.payload.Collected.{Collected}
use Rattle.registration.specs.declared.payload.Collected.TheVariants.{More, Whole, Bad}
use Rattle.registration.specs.declared.registration.Registration.{Registration}
use Rattle.registration.specs.declared.registration.ScramNonces.{ScramNonces}
use Rattle.registration.specs.declared.registration_fault.RegistrationFault.{RegistrationFault}
use Rattle.registration.specs.declared.registration_fault.RegistrationFault.TheVariants.{BadChallenge, Scram as in_scram}
use Rattle.registration.specs.declared.scram.ClientFinal.{ClientFinal}
use Rattle.registration.specs.declared.scram.Salting.{Salting}
use Rattle.registration.specs.declared.scram.Scram.{Scram}
use Rattle.registration.specs.declared.scram_fault.ScramFault.{ScramFault}
use Rattle.registration.specs.declared.scram_hash.ScramHash.{ScramHash}
use Rattle.registration.specs.declared.scram_hash.ScramHash.TheVariants.{Sha256, Sha512}
use Rattle.registration.specs.Cues.{heard_of, piece_of}
use Rattle.registration.specs.Exchange.{final_of, salting_of}
use Rattle.registration.specs.Messages.{final_fault, first_refusal, unbase64}
use Rattle.registration.specs.Payloads.{with_piece}
use Rattle.registration.specs.Steps.{login_of}

-- ---- kinds of hearings

abbrev pub changes_nothing : RegistrationEvent → Hearing
changes_nothing heard = record { heard = heard; held = None; work = None }

abbrev pub broken : RegistrationFault → Hearing
broken why = changes_nothing (Broken why)

abbrev pub holds : List ℕ → Hearing
holds text = record { heard = Nothing; held = Some text; work = None }

-- ---- the server asks for the client's first message

abbrev pub go_heard : List ℕ → Hearing
go_heard piece =
    if bytes_eq piece (codes "+") then record { heard = Go; held = Some []; work = None } else broken BadChallenge

-- ---- the server's first message of a SCRAM exchange

-- each exchange has a nonce of its own
abbrev pub nonce_of : ScramNonces → ScramHash → List ℕ
nonce_of nonces Sha512 = nonces.sha_512
nonce_of nonces Sha256 = nonces.sha_256

abbrev pub scram_of : ScramNonces → ScramHash → Scram
scram_of nonces hash = record { hash = hash; nonce = nonce_of nonces hash }

abbrev pub first_by : Option ScramFault → Salting → Hearing
first_by (Some why) salting = broken (in_scram why)
first_by None salting = record { heard = FirstTaken; held = Some []; work = Some (work.Salting salting) }

abbrev pub first_heard : Registration → ScramHash → Credentials → List ℕ → Hearing
first_heard r hash account message =
    first_by (first_refusal (nonce_of r.nonces hash) message) (salting_of (scram_of r.nonces hash) account message)

abbrev pub first_for : Option Credentials → Registration → ScramHash → List ℕ → Hearing
first_for (Some account) r hash message = first_heard r hash account message
first_for None r hash message = changes_nothing Nothing

abbrev pub first_message : Registration → ScramHash → List ℕ → Hearing
first_message r hash message = first_for r.account r hash message

abbrev pub first_decoded : Option (List ℕ) → Registration → ScramHash → Hearing
first_decoded (Some message) r hash = first_message r hash message
first_decoded None r hash = broken BadChallenge

abbrev pub first_collected : Registration → ScramHash → Collected → Hearing
first_collected r hash (More text) = holds text
first_collected r hash (Whole text) = first_decoded (unbase64 text) r hash
first_collected r hash Bad = broken BadChallenge

-- ---- the server's final message

abbrev pub final_by : Option ScramFault → Hearing
final_by (Some why) = broken (in_scram why)
final_by None = record { heard = FinalTaken; held = Some []; work = None }

abbrev pub final_heard : ClientFinal → List ℕ → Hearing
final_heard own message = final_by (final_fault own.signature message)

abbrev pub final_at : Work → List ℕ → Hearing
final_at work.Nothing message = changes_nothing Nothing
final_at (work.Salting salting) message = changes_nothing Nothing
final_at (work.Final own) message = final_heard own message

abbrev pub final_message : Registration → List ℕ → Hearing
final_message r message = final_at r.work message

abbrev pub final_decoded : Option (List ℕ) → Registration → Hearing
final_decoded (Some message) r = final_message r message
final_decoded None r = broken BadChallenge

abbrev pub final_collected : Registration → Collected → Hearing
final_collected r (More text) = holds text
final_collected r (Whole text) = final_decoded (unbase64 text) r
final_collected r Bad = broken BadChallenge

-- ---- every line

abbrev pub on_login : Registration → LoginStage → List ℕ → Hearing
on_login r (AwaitsGo mechanism) piece = go_heard piece
on_login r (AwaitsFirst hash) piece = first_collected r hash (with_piece r.held piece)
on_login r AwaitsFinal piece = final_collected r (with_piece r.held piece)
on_login r Derives piece = changes_nothing Nothing
on_login r AwaitsResult piece = changes_nothing Nothing

abbrev pub on_piece_in : Option LoginStage → Registration → List ℕ → Hearing
on_piece_in (Some login) r piece = on_login r login piece
on_piece_in None r piece = changes_nothing Nothing

abbrev pub on_piece : Registration → List ℕ → Hearing
on_piece r piece = on_piece_in (login_of r.negotiation.stage) r piece

abbrev pub on_message : Option (List ℕ) → Registration → Message → Hearing
on_message (Some piece) r message = on_piece r piece
on_message None r message = changes_nothing (heard_of message)

abbrev pub hearing_of : Registration → Line → Hearing
hearing_of r (a_message message) = on_message (piece_of message) r message
hearing_of r (a_bad_line why) = changes_nothing Nothing

-- a line that means nothing for any registration
abbrev pub IsQuiet : Line → Type 0
IsQuiet (a_message message) = (piece_of message ≡ None) × (heard_of message ≡ Nothing)
IsQuiet (a_bad_line why) = Unit {0}

-- ---- the salted password

abbrev pub is_salted : Salting → Bool
is_salted salting = salting.derivation.done == salting.derivation.iterations

abbrev pub stretched : Salting → ℕ → Salting
stretched salting rounds = record salting {
  derivation = record salting.derivation { done = min (salting.derivation.done + rounds) salting.derivation.iterations };
}

abbrev pub worked : Work → ℕ → Work
worked work.Nothing rounds = work.Nothing
worked (work.Salting salting) rounds = work.Salting (stretched salting rounds)
worked (work.Final own) rounds = work.Final own

abbrev pub is_deriving : Work → Bool
is_deriving work.Nothing = false
is_deriving (work.Salting salting) = not (is_salted salting)
is_deriving (work.Final own) = false

-- whether a salted password is derived, and not used yet
abbrev pub is_derived : Work → Bool
is_derived work.Nothing = false
is_derived (work.Salting salting) = is_salted salting
is_derived (work.Final own) = false

abbrev pub end_salting : Salting → Hearing
end_salting salting =
    if is_salted salting then record { heard = Derived; held = None; work = Some (work.Final (final_of salting)) }
    else changes_nothing Nothing

abbrev pub finished : Work → Hearing
finished work.Nothing = changes_nothing Nothing
finished (work.Salting salting) = end_salting salting
finished (work.Final own) = changes_nothing Nothing
