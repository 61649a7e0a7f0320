-- What a registration works at comes of messages that were not refused.
use Rattle.std.proofs.Common.{◌≡◌, ℕ, ◌+◌, Bool, true, false, List, [], ◌∷◌, Option, Some, None, refl, sym, ap, subst, ◌∙◌, cond, eqb-true}
use Rattle.std.specs.Prelude.{codes, min, unwrap_or}
use Rattle.std.specs.Str.{bytes_eq}
use Rattle.ircline.specs.Numeric.{is_command}
use Rattle.ircline.specs.declared.line.Line.{Line}
use Rattle.ircline.specs.declared.line.Line.TheVariants.{Message as a_message, Bad as a_bad_line}
use Rattle.ircline.specs.declared.message.Message.{Message}
use Rattle.registration.specs.declared.credentials.Credentials.{Credentials}
use Rattle.registration.specs.declared.registration_event.RegistrationEvent.{RegistrationEvent}
use Rattle.registration.specs.declared.registration_event.RegistrationEvent.TheVariants.{Listed, Acknowledged, Denied, UnknownCommand, Welcomed, Go, FirstTaken, Derived}
use Rattle.registration.specs.declared.registration_event.RegistrationEvent.TheVariants.{FinalTaken, Broken, Narrowed, LoggedIn, LoginFailed, Nothing}
use Rattle.registration.specs.declared.hearing.Hearing.{Hearing}
use Rattle.registration.specs.declared.hearing.Work.{Work}
use Rattle.registration.specs.declared.hearing.Work.TheVariants as work
use Rattle.registration.specs.declared.negotiation.LoginStage.{LoginStage}
use Rattle.registration.specs.declared.negotiation.LoginStage.TheVariants.{AwaitsGo, AwaitsFirst, Derives, AwaitsFinal, AwaitsResult}
use Rattle.registration.specs.declared.payload.Collected.{Collected}
use Rattle.registration.specs.declared.payload.Collected.TheVariants.{More, Whole, Bad}
use Rattle.registration.specs.declared.registration.Registration.{Registration}
use Rattle.registration.specs.declared.registration.ScramNonces.{ScramNonces}
use Rattle.registration.specs.declared.registration.Wish.{Wish}
use Rattle.registration.specs.declared.scram.ClientFinal.{ClientFinal}
use Rattle.registration.specs.declared.scram.Salting.{Salting}
use Rattle.registration.specs.declared.scram_fault.ScramFault.{ScramFault}
use Rattle.registration.specs.declared.scram_fault.ScramFault.TheVariants.{ServerError, WrongSignature}
use Rattle.registration.specs.declared.scram_hash.ScramHash.{ScramHash}
use Rattle.registration.specs.Cues.{cap_heard, goes_on, heard_of, is_failure, list_heard, param, piece_of}
use Rattle.registration.specs.Exchange.{final_of, salting_of}
use Rattle.registration.specs.Hearings.{changes_nothing, final_at, final_by, final_collected, final_decoded, finished, first_by, first_collected, first_decoded, first_for}
use Rattle.registration.specs.Hearings.{hearing_of, is_salted, nonce_of, on_login, on_message, on_piece_in, scram_of, worked}
use Rattle.registration.specs.Messages.{final_fault, first_refusal, is_named, iterations_of, part_of, unbase64, verifier}
use Rattle.registration.specs.Payloads.{with_piece}
use Rattle.registration.specs.Registrations.{begun_by}
use Rattle.registration.specs.Steps.{login_of}
use Rattle.registration.specs.Talks.{Derive, Finish, Hear, IsShown, Turn, after, signature_for, turned}
use Rattle.std.proofs.lemmas.Slice.Eq.{bytes_eq-Decides}

-- a derivation after a first message that is not refused, of which this many iterations are done
abbrev salted_at : ScramNonces → ScramHash → Credentials → List ℕ → ℕ → Salting
salted_at nonces hash account first done =
    let s = salting_of (scram_of nonces hash) account first in record s { derivation = record s.derivation { done = done } }

record Salts (wanted : Option Credentials) (nonces : ScramNonces) (salting : Salting) : Type 0 where
  pub account : Credentials
  pub of : wanted ≡ Some account
  pub hash : ScramHash
  pub first : List ℕ
  pub taken : first_refusal (nonce_of nonces hash) first ≡ None
  pub done : ℕ
  pub is : salting ≡ salted_at nonces hash account first done

record Shows (wanted : Option Credentials) (nonces : ScramNonces) (own : ClientFinal) : Type 0 where
  pub account : Credentials
  pub of : wanted ≡ Some account
  pub hash : ScramHash
  pub first : List ℕ
  pub taken : first_refusal (nonce_of nonces hash) first ≡ None
  pub is : own.signature ≡ signature_for hash account (nonce_of nonces hash) first

abbrev Works : Option Credentials → ScramNonces → Work → Type 0
Works wanted nonces work.Nothing = Unit {0}
Works wanted nonces (work.Salting salting) = Salts wanted nonces salting
Works wanted nonces (work.Final own) = Shows wanted nonces own

abbrev WorksIf : Option Credentials → ScramNonces → Option Work → Type 0
WorksIf wanted nonces None = Unit {0}
WorksIf wanted nonces (Some work) = Works wanted nonces work

keeps : (wanted : Option Credentials) (nonces : ScramNonces) (old : Work) (new : Option Work)
    → Works wanted nonces old → WorksIf wanted nonces new → Works wanted nonces (unwrap_or new old)
keeps wanted nonces old None before now = before
keeps wanted nonces old (Some work) before now = now

-- a final message is taken only if it shows the signature
abbrev ShownIf : Registration → RegistrationEvent → Type 0
ShownIf r FinalTaken = IsShown r
ShownIf r (Listed offer is_last) = Unit {0}
ShownIf r (Acknowledged offer) = Unit {0}
ShownIf r (Denied offer) = Unit {0}
ShownIf r UnknownCommand = Unit {0}
ShownIf r Welcomed = Unit {0}
ShownIf r Go = Unit {0}
ShownIf r FirstTaken = Unit {0}
ShownIf r Derived = Unit {0}
ShownIf r (Broken why) = Unit {0}
ShownIf r (Narrowed mechanisms) = Unit {0}
ShownIf r LoggedIn = Unit {0}
ShownIf r LoginFailed = Unit {0}
ShownIf r Nothing = Unit {0}

abbrev Holds : Registration → Hearing → Type 0
Holds r hearing = WorksIf r.account r.nonces hearing.work × ShownIf r hearing.heard

-- ---- the server's first message

first_by_true : (r : Registration) (hash : ScramHash) (account : Credentials) (message : List ℕ) (refusal : Option ScramFault)
    → r.account ≡ Some account → first_refusal (nonce_of r.nonces hash) message ≡ refusal
    → Holds r (first_by refusal (salting_of (scram_of r.nonces hash) account message))
first_by_true r hash account message None of taken =
    (record { account = account; of = of; hash = hash; first = message; taken = taken; done = 1; is = refl }, tt)
first_by_true r hash account message (Some why) of taken = (tt, tt)

first_for_true : (r : Registration) (hash : ScramHash) (message : List ℕ) (wanted : Option Credentials) → r.account ≡ wanted
    → Holds r (first_for wanted r hash message)
first_for_true r hash message None of = (tt, tt)
first_for_true r hash message (Some account) of =
    first_by_true r hash account message (first_refusal (nonce_of r.nonces hash) message) of refl

first_decoded_true : (r : Registration) (hash : ScramHash) (message : Option (List ℕ)) → Holds r (first_decoded message r hash)
first_decoded_true r hash None = (tt, tt)
first_decoded_true r hash (Some message) = first_for_true r hash message r.account refl

first_collected_true : (r : Registration) (hash : ScramHash) (collected : Collected) → Holds r (first_collected r hash collected)
first_collected_true r hash (More text) = (tt, tt)
first_collected_true r hash (Whole text) = first_decoded_true r hash (unbase64 text)
first_collected_true r hash Bad = (tt, tt)

-- ---- its final message

some_fault : (is_error : Bool) → cond is_error (Some ServerError) (Some WrongSignature) ≡ None → ⊥
some_fault true e = cc
some_fault false e = cc

-- a message without a fault has the whole verifier
verified : (shown message : List ℕ) (same : Bool) → bytes_eq (part_of message) shown ≡ same
    → cond same None (cond (is_named (codes "e=") (part_of message)) (Some ServerError) (Some WrongSignature)) ≡ None
    → part_of message ≡ shown
verified shown message true same none = (bytes_eq-Decides (part_of message) shown).0 same
verified shown message false same none = absurd (some_fault (is_named (codes "e=") (part_of message)) none)

final_by_true : (r : Registration) (own : ClientFinal) (message : List ℕ) (refusal : Option ScramFault)
    → Shows r.account r.nonces own → final_fault own.signature message ≡ refusal → Holds r (final_by refusal)
final_by_true r own message None shows none = (
  tt,
  record {
    account = shows.account;
    of = shows.of;
    hash = shows.hash;
    first = shows.first;
    taken = shows.taken;
    final = message;
    signature = verified (verifier own.signature) message (bytes_eq (part_of message) (verifier own.signature)) refl none ∙ ap verifier shows.is;
  },
)
final_by_true r own message (Some why) shows none = (tt, tt)

final_at_true : (r : Registration) (kept : Work) (message : List ℕ) → Works r.account r.nonces kept → Holds r (final_at kept message)
final_at_true r work.Nothing message works = (tt, tt)
final_at_true r (work.Salting salting) message works = (tt, tt)
final_at_true r (work.Final own) message works = final_by_true r own message (final_fault own.signature message) works refl

final_decoded_true : (r : Registration) (message : Option (List ℕ)) → Works r.account r.nonces r.work → Holds r (final_decoded message r)
final_decoded_true r None works = (tt, tt)
final_decoded_true r (Some message) works = final_at_true r r.work message works

final_collected_true : (r : Registration) (collected : Collected) → Works r.account r.nonces r.work → Holds r (final_collected r collected)
final_collected_true r (More text) works = (tt, tt)
final_collected_true r (Whole text) works = final_decoded_true r (unbase64 text) works
final_collected_true r Bad works = (tt, tt)

-- ---- every line

either_true : (r : Registration) (b : Bool) (x y : Hearing) → Holds r x → Holds r y → Holds r (cond b x y)
either_true r true x y one other = one
either_true r false x y one other = other

either_shown : (r : Registration) (b : Bool) (x y : RegistrationEvent) → ShownIf r x → ShownIf r y → ShownIf r (cond b x y)
either_shown r true x y one other = one
either_shown r false x y one other = other

login_true : (r : Registration) (login : LoginStage) (piece : List ℕ) → Works r.account r.nonces r.work → Holds r (on_login r login piece)
login_true r (AwaitsGo mechanism) piece works = either_true r (bytes_eq piece (codes "+")) _ _ (tt, tt) (tt, tt)
login_true r (AwaitsFirst hash) piece works = first_collected_true r hash (with_piece r.held piece)
login_true r AwaitsFinal piece works = final_collected_true r (with_piece r.held piece) works
login_true r Derives piece works = (tt, tt)
login_true r AwaitsResult piece works = (tt, tt)

piece_true : (r : Registration) (login : Option LoginStage) (piece : List ℕ) → Works r.account r.nonces r.work → Holds r (on_piece_in login r piece)
piece_true r None piece works = (tt, tt)
piece_true r (Some login) piece works = login_true r login piece works

list_shown : (r : Registration) (message : Message) → ShownIf r (list_heard message)
list_shown r message = either_shown r (goes_on message) _ _ tt tt

cap_shown : (r : Registration) (message : Message) (word : List ℕ) → ShownIf r (cap_heard message word)
cap_shown r message word = either_shown r (is_command (codes "LS") word) _ _ (list_shown r message)
    (either_shown r (is_command (codes "ACK") word) _ _ tt (either_shown r (is_command (codes "NAK") word) _ _ tt tt))

heard_shown : (r : Registration) (message : Message) → ShownIf r (heard_of message)
heard_shown r message = either_shown r (is_command (codes "CAP") message.command) _ _ (cap_shown r message (param message 1))
    (either_shown r (is_command (codes "001") message.command) _ _ tt
    (either_shown r (is_command (codes "421") message.command) _ _ (either_shown r (bytes_eq (param message 1) (codes "CAP")) _ _ tt tt)
    (either_shown r (is_command (codes "903") message.command) _ _ tt
    (either_shown r (is_command (codes "908") message.command) _ _ tt
    (either_shown r (is_failure message.command) _ _ tt tt)))))

message_true : (r : Registration) (piece : Option (List ℕ)) (message : Message) → Works r.account r.nonces r.work
    → Holds r (on_message piece r message)
message_true r None message works = (tt, heard_shown r message)
message_true r (Some piece) message works = piece_true r (login_of r.negotiation.stage) piece works

line_true : (r : Registration) (line : Line) → Works r.account r.nonces r.work → Holds r (hearing_of r line)
line_true r (a_message message) works = message_true r (piece_of message) message works
line_true r (a_bad_line why) works = (tt, tt)

-- ---- what is done

derive_works : (wanted : Option Credentials) (nonces : ScramNonces) (kept : Work) (rounds : ℕ)
    → Works wanted nonces kept → Works wanted nonces (worked kept rounds)
derive_works wanted nonces work.Nothing rounds before = tt
derive_works wanted nonces (work.Salting salting) rounds before = record {
  account = before.account;
  of = before.of;
  hash = before.hash;
  first = before.first;
  taken = before.taken;
  done = min (before.done + rounds) (iterations_of before.first);
  is = ap (λ (s : Salting). record s { derivation = record s.derivation { done = min (s.derivation.done + rounds) s.derivation.iterations } }) before.is;
}
derive_works wanted nonces (work.Final own) rounds before = before

end_works : (wanted : Option Credentials) (nonces : ScramNonces) (salting : Salting) (over : Bool) → is_salted salting ≡ over
    → Salts wanted nonces salting → WorksIf wanted nonces (cond over (record { heard = Derived; held = None; work = Some (work.Final (final_of salting)) }) (changes_nothing Nothing)).work
end_works wanted nonces salting false at before = tt
end_works wanted nonces salting true at before =
    let whole : before.done ≡ iterations_of before.first =
    eqb-true before.done (iterations_of before.first) (sym (ap is_salted before.is) ∙ at) in record {
      account = before.account;
      of = before.of;
      hash = before.hash;
      first = before.first;
      taken = before.taken;
      is = ap (λ (s : Salting). (final_of s).signature) before.is
          ∙ ap (λ d. (final_of (salted_at nonces before.hash before.account before.first d)).signature) whole;
    }

finish_works : (wanted : Option Credentials) (nonces : ScramNonces) (kept : Work) → Works wanted nonces kept
    → WorksIf wanted nonces (finished kept).work
finish_works wanted nonces work.Nothing before = tt
finish_works wanted nonces (work.Salting salting) before = end_works wanted nonces salting (is_salted salting) refl before
finish_works wanted nonces (work.Final own) before = tt

-- ---- whole registrations

turn_works : (r : Registration) (turn : Turn) → Works r.account r.nonces r.work
    → Works (turned r turn).account (turned r turn).nonces (turned r turn).work
turn_works r (Hear line) before = keeps r.account r.nonces r.work (hearing_of r line).work before (line_true r line before).0
turn_works r (Derive rounds) before = derive_works r.account r.nonces r.work rounds before
turn_works r Finish before = keeps r.account r.nonces r.work (finished r.work).work before (finish_works r.account r.nonces r.work before)

after_works : (r : Registration) (turns : List Turn) → Works r.account r.nonces r.work
    → Works (after r turns).account (after r turns).nonces (after r turns).work
after_works r [] before = before
after_works r (turn ∷ turns) before = after_works (turned r turn) turns (turn_works r turn before)

shown_if : (r : Registration) (heard : RegistrationEvent) → heard ≡ FinalTaken → ShownIf r heard → IsShown r
shown_if r heard final shown = subst (λ (h : RegistrationEvent). ShownIf r h) final shown

-- whatever a client has heard, it takes a server's final message only if the server has shown that it knows the password
pub taken_is_shown : (wish : Wish) (nonces : ScramNonces) (turns : List Turn) (line : Line)
    → (hearing_of (after (begun_by wish nonces) turns) line).heard ≡ FinalTaken → IsShown (after (begun_by wish nonces) turns)
taken_is_shown wish nonces turns line final =
    let r = after (begun_by wish nonces) turns in
    shown_if r (hearing_of r line).heard final (line_true r line (after_works (begun_by wish nonces) turns tt)).1
