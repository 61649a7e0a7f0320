-- What holds of the lines of whole registrations.
use Rattle.std.proofs.Common.{◌≡◌, ℕ, zero, suc, ◌+◌, ◌≤◌, Bool, true, false, List, [], ◌∷◌, ◌++◌, drop, Option, Some, None, refl, ◌∙◌, cond, arith}
use Rattle.std.specs.Prelude.{codes, is_some, unwrap_or}
use Rattle.std.specs.Str.{bytes_eq}
use Rattle.ircline.specs.declared.line.Line.{Line}
use Rattle.ircline.specs.declared.line.Line.TheVariants.{Message as a_message, Bad as a_bad_line}
use Rattle.ircline.specs.declared.message.Message.{Message}
use Rattle.ircline.specs.Numeric.{is_command}
use Rattle.registration.specs.declared.credentials.Credentials.{Credentials}
use Rattle.registration.specs.declared.hearing.Hearing.{Hearing}
use Rattle.registration.specs.declared.hearing.Work.{Work}
use Rattle.registration.specs.declared.hearing.Work.TheVariants as work
use Rattle.registration.specs.declared.negotiation.LoginStage.{LoginStage}
use Rattle.registration.specs.declared.negotiation.LoginStage.TheVariants.{AwaitsGo, AwaitsFirst, Derives, AwaitsFinal, AwaitsResult}
use Rattle.registration.specs.declared.payload.Collected.{Collected}
use Rattle.registration.specs.declared.payload.Collected.TheVariants.{More, Whole, Bad}
use Rattle.registration.specs.declared.registration.Registration.{Registration}
use Rattle.registration.specs.declared.registration.ScramNonces.{ScramNonces}
use Rattle.registration.specs.declared.registration.Wish.{Wish}
use Rattle.registration.specs.declared.registration_event.RegistrationEvent.{RegistrationEvent}
use Rattle.registration.specs.declared.registration_event.RegistrationEvent.TheVariants.{LoggedIn, LoginFailed, Narrowed, Nothing}
use Rattle.registration.specs.declared.registration_event.Say.{Say}
use Rattle.registration.specs.declared.registration_event.Say.TheVariants.{Request, RequestSasl, Name, First, Final, Plain, Empty, End}
use Rattle.registration.specs.declared.scram.Salting.{Salting}
use Rattle.registration.specs.declared.scram_fault.ScramFault.{ScramFault}
use Rattle.registration.specs.declared.scram_hash.ScramHash.{ScramHash}
use Rattle.registration.specs.Cues.{cap_heard, goes_on, heard_of, is_failure, list_heard, param, piece_of, unknown_heard}
use Rattle.registration.specs.Exchange.{salting_of}
use Rattle.registration.specs.Hearings.{final_at, final_by, final_collected, final_decoded, finished, first_by, first_collected, first_decoded, first_for, hearing_of}
use Rattle.registration.specs.Hearings.{is_salted, nonce_of, on_login, on_message, on_piece_in, scram_of}
use Rattle.registration.specs.Messages.{final_fault, first_refusal, unbase64}
use Rattle.registration.specs.Payloads.{lines_from, with_piece}
use Rattle.registration.specs.Registrations.{begun_by, final_lines, first_lines, lines_by, lines_of, plain_lines, said}
use Rattle.registration.specs.Runs.{count_of, if_so, is_end, is_logged_in, run}
use Rattle.registration.specs.Sets.{mechanisms_in}
use Rattle.registration.specs.Steps.{login_of, step}
use Rattle.registration.specs.Talks.{Derive, Finish, Hear, Turn, all_said, brings_success, is_end_line, says_success, turned}
use Rattle.registration.proofs.RunLaws.{count_said, ends_once, no_end_before, said_weight}

-- ---- which lines are CAP END

count_append : {A : Type 0} (test : A → Bool) (xs ys : List A) → count_of test (xs ++ ys) ≡ count_of test xs + count_of test ys
count_append test [] ys = omega arith
count_append test (x ∷ xs) ys = omega (arith, count_append test xs ys)

pieces_end : (n : ℕ) (text : List ℕ) → count_of is_end_line (lines_from n text) ≡ 0
pieces_end zero text = refl
pieces_end (suc n) text = omega (arith, pieces_end n (drop 400 text))

first_end : (account : Option Credentials) (nonce : List ℕ) → count_of is_end_line (first_lines account nonce) ≡ 0
first_end None nonce = refl
first_end (Some account) nonce = pieces_end _ _

plain_end : (account : Option Credentials) → count_of is_end_line (plain_lines account) ≡ 0
plain_end None = refl
plain_end (Some account) = pieces_end _ _

final_end : (kept : Work) → count_of is_end_line (final_lines kept) ≡ 0
final_end work.Nothing = refl
final_end (work.Salting salting) = refl
final_end (work.Final own) = pieces_end _ _

say_end : (account : Option Credentials) (nonces : ScramNonces) (kept : Work) (say : Say)
    → count_of is_end_line (lines_of account nonces kept say) ≡ if_so (is_end say)
say_end account nonces kept (Request set) = refl
say_end account nonces kept RequestSasl = refl
say_end account nonces kept (Name named) = refl
say_end account nonces kept (First hash) = first_end account _
say_end account nonces kept Final = final_end kept
say_end account nonces kept Plain = plain_end account
say_end account nonces kept Empty = refl
say_end account nonces kept End = refl

if_say_end : (account : Option Credentials) (nonces : ScramNonces) (kept : Work) (say : Option Say)
    → count_of is_end_line (lines_by account nonces kept say) ≡ said_weight is_end say
if_say_end account nonces kept None = refl
if_say_end account nonces kept (Some say) = say_end account nonces kept say

said_end : (r : Registration) (hearing : Hearing)
    → count_of is_end_line (said r hearing) ≡ said_weight is_end (step r.negotiation hearing.heard).say
said_end r hearing = if_say_end r.account r.nonces (unwrap_or hearing.work r.work) (step r.negotiation hearing.heard).say

-- ---- the events of a registration's turns

abbrev events : Registration → List Turn → List RegistrationEvent
events r [] = []
events r (Hear line ∷ turns) = (hearing_of r line).heard ∷ events (turned r (Hear line)) turns
events r (Derive rounds ∷ turns) = events (turned r (Derive rounds)) turns
events r (Finish ∷ turns) = (finished r.work).heard ∷ events (turned r Finish) turns

lines_are_said : (r : Registration) (turns : List Turn)
    → count_of is_end_line (all_said r turns) ≡ count_of is_end (run r.negotiation (events r turns))
lines_are_said r [] = refl
lines_are_said r (Hear line ∷ turns) =
    let s = step r.negotiation (hearing_of r line).heard in
    let r' = turned r (Hear line) in
    omega (
      arith,
      count_append is_end_line (said r (hearing_of r line)) (all_said r' turns),
      said_end r (hearing_of r line),
      lines_are_said r' turns,
      count_said is_end s.say (run s.negotiation (events r' turns)),
    )
lines_are_said r (Derive rounds ∷ turns) = lines_are_said (turned r (Derive rounds)) turns
lines_are_said r (Finish ∷ turns) =
    let s = step r.negotiation (finished r.work).heard in
    let r' = turned r Finish in
    omega (
      arith,
      count_append is_end_line (said r (finished r.work)) (all_said r' turns),
      said_end r (finished r.work),
      lines_are_said r' turns,
      count_said is_end s.say (run s.negotiation (events r' turns)),
    )

-- ---- which events are a success

abbrev succeeds : RegistrationEvent → ℕ
succeeds heard = if_so (is_logged_in heard)

choice : (b : Bool) (x y : RegistrationEvent) (most : ℕ) → succeeds x ≤ most → succeeds y ≤ most → succeeds (cond b x y) ≤ most
choice true x y most one other = one
choice false x y most one other = other

choose : (b : Bool) (x y : Hearing) → succeeds x.heard ≡ 0 → succeeds y.heard ≡ 0 → succeeds (cond b x y).heard ≡ 0
choose true x y one other = one
choose false x y one other = other

success_here : (b : Bool) (x y : RegistrationEvent) → succeeds x ≤ 1 → succeeds y ≡ 0 → succeeds (cond b x y) ≤ if_so b
success_here true x y one other = one
success_here false x y one other = omega (arith, other)

list_none : (message : Message) → succeeds (list_heard message) ≤ 0
list_none message = choice (goes_on message) _ _ 0 (omega arith) (omega arith)

cap_none : (message : Message) (word : List ℕ) (most : ℕ) → succeeds (cap_heard message word) ≤ most
cap_none message word most = choice (is_command (codes "LS") word) _ _ most (omega (arith, list_none message))
    (choice (is_command (codes "ACK") word) _ _ most (omega arith) (choice (is_command (codes "NAK") word) _ _ most (omega arith) (omega arith)))

unknown_none : (message : Message) (most : ℕ) → succeeds (unknown_heard message) ≤ most
unknown_none message most = choice (bytes_eq (param message 1) (codes "CAP")) _ _ most (omega arith) (omega arith)

after_success : (message : Message) → succeeds (cond (is_command (codes "908") message.command) (Narrowed (mechanisms_in (param message 1)))
    (cond (is_failure message.command) LoginFailed Nothing)) ≡ 0
after_success message = none (is_command (codes "908") message.command) (is_failure message.command)
  where
    none : (b c : Bool) → succeeds (cond b (Narrowed (mechanisms_in (param message 1))) (cond c LoginFailed Nothing)) ≡ 0
    none true c = refl
    none false true = refl
    none false false = refl

heard_success : (message : Message) → succeeds (heard_of message) ≤ if_so (is_command (codes "903") message.command)
heard_success message = choice (is_command (codes "CAP") message.command) _ _ _ (cap_none message (param message 1) _)
    (choice (is_command (codes "001") message.command) _ _ _ (omega arith)
    (choice (is_command (codes "421") message.command) _ _ _ (unknown_none message _)
    (success_here (is_command (codes "903") message.command) LoggedIn _ (omega arith) (after_success message))))

-- ---- no piece of a login is one

first_by_none : (refusal : Option ScramFault) (salting : Salting) → succeeds (first_by refusal salting).heard ≡ 0
first_by_none None salting = refl
first_by_none (Some why) salting = refl

first_for_none : (wanted : Option Credentials) (r : Registration) (hash : ScramHash) (message : List ℕ)
    → succeeds (first_for wanted r hash message).heard ≡ 0
first_for_none None r hash message = refl
first_for_none (Some account) r hash message =
    first_by_none (first_refusal (nonce_of r.nonces hash) message) (salting_of (scram_of r.nonces hash) account message)

first_decoded_none : (message : Option (List ℕ)) (r : Registration) (hash : ScramHash) → succeeds (first_decoded message r hash).heard ≡ 0
first_decoded_none None r hash = refl
first_decoded_none (Some message) r hash = first_for_none r.account r hash message

first_none : (r : Registration) (hash : ScramHash) (collected : Collected) → succeeds (first_collected r hash collected).heard ≡ 0
first_none r hash (More text) = refl
first_none r hash (Whole text) = first_decoded_none (unbase64 text) r hash
first_none r hash Bad = refl

final_by_none : (refusal : Option ScramFault) → succeeds (final_by refusal).heard ≡ 0
final_by_none None = refl
final_by_none (Some why) = refl

final_at_none : (kept : Work) (message : List ℕ) → succeeds (final_at kept message).heard ≡ 0
final_at_none work.Nothing message = refl
final_at_none (work.Salting salting) message = refl
final_at_none (work.Final own) message = final_by_none (final_fault own.signature message)

final_decoded_none : (message : Option (List ℕ)) (r : Registration) → succeeds (final_decoded message r).heard ≡ 0
final_decoded_none None r = refl
final_decoded_none (Some message) r = final_at_none r.work message

final_none : (r : Registration) (collected : Collected) → succeeds (final_collected r collected).heard ≡ 0
final_none r (More text) = refl
final_none r (Whole text) = final_decoded_none (unbase64 text) r
final_none r Bad = refl

login_none : (r : Registration) (login : LoginStage) (piece : List ℕ) → succeeds (on_login r login piece).heard ≡ 0
login_none r (AwaitsGo mechanism) piece = choose (bytes_eq piece (codes "+")) _ _ refl refl
login_none r (AwaitsFirst hash) piece = first_none r hash (with_piece r.held piece)
login_none r AwaitsFinal piece = final_none r (with_piece r.held piece)
login_none r Derives piece = refl
login_none r AwaitsResult piece = refl

piece_none : (r : Registration) (login : Option LoginStage) (piece : List ℕ) → succeeds (on_piece_in login r piece).heard ≡ 0
piece_none r None piece = refl
piece_none r (Some login) piece = login_none r login piece

message_success : (r : Registration) (piece : Option (List ℕ)) (message : Message)
    → succeeds (on_message piece r message).heard ≤ if_so (is_command (codes "903") message.command)
message_success r None message = heard_success message
message_success r (Some piece) message = omega (arith, piece_none r (login_of r.negotiation.stage) piece)

line_success : (r : Registration) (line : Line) → succeeds (hearing_of r line).heard ≤ if_so (says_success line)
line_success r (a_message message) = message_success r (piece_of message) message
line_success r (a_bad_line why) = omega arith

finish_none : (kept : Work) → succeeds (finished kept).heard ≡ 0
finish_none work.Nothing = refl
finish_none (work.Salting salting) = choose (is_salted salting) _ _ refl refl
finish_none (work.Final own) = refl

events_success : (r : Registration) (turns : List Turn) → count_of is_logged_in (events r turns) ≤ count_of brings_success turns
events_success r [] = omega arith
events_success r (Hear line ∷ turns) = omega (arith, line_success r line, events_success (turned r (Hear line)) turns)
events_success r (Derive rounds ∷ turns) = omega (arith, events_success (turned r (Derive rounds)) turns)
events_success r (Finish ∷ turns) = omega (arith, finish_none r.work, events_success (turned r Finish) turns)

-- ---- the laws

pub end_line_once : (wish : Wish) (nonces : ScramNonces) (turns : List Turn)
    → count_of is_end_line (all_said (begun_by wish nonces) turns) ≤ 1
end_line_once wish nonces turns =
    let r = begun_by wish nonces in
    omega (arith, lines_are_said r turns, ends_once r.negotiation (events r turns))

pub end_line_after : (wish : Wish) (nonces : ScramNonces) (turns : List Turn) → is_some wish.account ≡ true
    → count_of brings_success turns ≡ 0 → count_of is_end_line (all_said (begun_by wish nonces) turns) ≡ 0
end_line_after wish nonces turns wants none =
    let r = begun_by wish nonces in
    lines_are_said r turns ∙ no_end_before r.negotiation (events r turns) wants (omega (arith, events_success r turns, none))
