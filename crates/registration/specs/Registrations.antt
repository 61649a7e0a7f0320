-- A registration with its messages: the lines that a client says, and what it is after each line of the server.
use Rattle.std.specs.Prelude.{◌≡◌, ◌≤◌, ℕ, Bool, true, false, List, [], ◌∷◌, drop, length, codes, Option, Some, None, is_some, unwrap_or, Result, Ok, Err}
use Rattle.std.specs.List.{AllByRecursion, concat}
use Rattle.bytetext.specs.declared.failure.Failure.{Failure}
use Rattle.bytetext.specs.declared.failure.Failure.TheVariants.{Refused, NoMemory}
use Rattle.registration.specs.declared.credentials.Credentials.{Credentials}
use Rattle.registration.specs.declared.capabilities.Capabilities.{Capabilities}
use Rattle.registration.specs.declared.registration_event.Say.{Say}
use Rattle.registration.specs.declared.registration_event.Say.TheVariants.{Request, RequestSasl, Name, First, Final, Plain, Empty, End}
use Rattle.registration.specs.declared.hearing.Hearing.{Hearing}
use Rattle.registration.specs.declared.hearing.Work.{Work}
use Rattle.registration.specs.declared.hearing.Work.TheVariants as work
use Rattle.registration.specs.declared.negotiation.Stage.{Stage}
use Rattle.registration.specs.declared.negotiation.Stage.TheVariants.{AwaitsList, AwaitsAnswer, AwaitsSasl, Tries, Over, Failed}
use Rattle.registration.specs.declared.registration.Registration.{Registration}
use Rattle.registration.specs.declared.registration.ScramNonces.{ScramNonces}
use Rattle.registration.specs.declared.registration.Wish.{Wish}
use Rattle.registration.specs.declared.registration_fault.RegistrationFault.{RegistrationFault}
use Rattle.registration.specs.declared.limits.TheConstants.{MAX_LINE}
use Rattle.registration.specs.Hearings.{nonce_of}
use Rattle.registration.specs.Messages.{base64, client_first}
use Rattle.registration.specs.Payloads.{payload_lines}
use Rattle.registration.specs.Sets.{mechanism_name}
use Rattle.registration.specs.Steps.{begun_with, step}

abbrev pub begun_by : Wish → ScramNonces → Registration
begun_by wish nonces = record {
  account = wish.account;
  nonces = nonces;
  negotiation = begun_with (is_some wish.account) wish.allowed wish.is_private wish.wanted;
  held = [];
  work = work.Nothing;
}

-- ---- what a client says, as lines

abbrev pub word : Bool → List ℕ → List ℕ
word true name = name
word false name = []

-- a space before each name
abbrev pub names_of : Capabilities → List ℕ
names_of set = concat (
    word set.account_notify (codes " account-notify") ∷ word set.extended_join (codes " extended-join")
    ∷ word set.multi_prefix (codes " multi-prefix") ∷ word set.userhost_in_names (codes " userhost-in-names")
    ∷ word set.chghost (codes " chghost") ∷ word set.away_notify (codes " away-notify")
    ∷ word set.invite_notify (codes " invite-notify") ∷ [])

abbrev pub request_line : Capabilities → List ℕ
request_line set = concat (codes "CAP REQ :" ∷ drop 1 (names_of set) ∷ [])

abbrev pub name_line : List ℕ → List ℕ
name_line name = concat (codes "AUTHENTICATE " ∷ name ∷ [])

-- message of PLAIN (RFC 4616 section 2): [authzid] NUL authcid NUL passwd
abbrev pub nul : List ℕ
nul = 0 ∷ []

abbrev pub plain_message : Credentials → List ℕ
plain_message account = concat (nul ∷ account.name ∷ nul ∷ account.password ∷ [])

abbrev pub message_lines : List ℕ → List (List ℕ)
message_lines message = payload_lines (base64 message)

abbrev pub first_lines : Option Credentials → List ℕ → List (List ℕ)
first_lines None nonce = []
first_lines (Some account) nonce = message_lines (client_first account.name nonce)

abbrev pub plain_lines : Option Credentials → List (List ℕ)
plain_lines None = []
plain_lines (Some account) = message_lines (plain_message account)

abbrev pub final_lines : Work → List (List ℕ)
final_lines work.Nothing = []
final_lines (work.Salting salting) = []
final_lines (work.Final own) = message_lines own.message

abbrev pub lines_of : Option Credentials → ScramNonces → Work → Say → List (List ℕ)
lines_of account nonces kept (Request set) = request_line set ∷ []
lines_of account nonces kept RequestSasl = codes "CAP REQ :sasl" ∷ []
lines_of account nonces kept (Name mechanism) = name_line (mechanism_name mechanism) ∷ []
lines_of account nonces kept (First hash) = first_lines account (nonce_of nonces hash)
lines_of account nonces kept Final = final_lines kept
lines_of account nonces kept Plain = plain_lines account
lines_of account nonces kept Empty = codes "AUTHENTICATE +" ∷ []
lines_of account nonces kept End = codes "CAP END" ∷ []

abbrev pub lines_by : Option Credentials → ScramNonces → Work → Option Say → List (List ℕ)
lines_by account nonces kept None = []
lines_by account nonces kept (Some say) = lines_of account nonces kept say

-- ---- how long a line may be (RFC 2812 section 2.3)

abbrev pub AreShort : List (List ℕ) → Type 0
AreShort lines = AllByRecursion (λ line. length line ≤ MAX_LINE) lines

-- ---- a step

abbrev pub applied : Registration → Hearing → Registration
applied r hearing = record r {
  negotiation = (step r.negotiation hearing.heard).negotiation;
  held = unwrap_or hearing.held r.held;
  work = unwrap_or hearing.work r.work;
}

abbrev pub said : Registration → Hearing → List (List ℕ)
said r hearing = lines_by r.account r.nonces (unwrap_or hearing.work r.work) (step r.negotiation hearing.heard).say

abbrev pub fault_of : Stage → Option RegistrationFault
fault_of (Failed why) = Some why
fault_of AwaitsList = None
fault_of AwaitsAnswer = None
fault_of AwaitsSasl = None
fault_of (Tries login) = None
fault_of Over = None

abbrev pub is_over : Stage → Bool
is_over Over = true
is_over AwaitsList = false
is_over AwaitsAnswer = false
is_over AwaitsSasl = false
is_over (Tries login) = false
is_over (Failed why) = false

-- what comes of a hearing: the lines to say, or the fault if the registration has failed
abbrev pub Hears : Registration → Hearing → Result (List (List ℕ)) (Failure RegistrationFault) → Registration → Type 0
Hears old hearing (Ok lines) new =
    (new ≡ applied old hearing) × (lines ≡ said old hearing) × (fault_of new.negotiation.stage ≡ None)
Hears old hearing (Err (Refused why)) new = (new ≡ applied old hearing) × (fault_of new.negotiation.stage ≡ Some why)
Hears old hearing (Err NoMemory) new = new ≡ old
