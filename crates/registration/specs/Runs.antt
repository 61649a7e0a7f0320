-- Whole registrations: what a client says, whatever it hears.
use Rattle.std.specs.Prelude.{ℕ, ◌+◌, Bool, true, false, List, [], ◌∷◌, Option, Some, None}
use Rattle.registration.specs.declared.registration_event.RegistrationEvent.{RegistrationEvent}
use Rattle.registration.specs.declared.registration_event.RegistrationEvent.TheVariants.{Listed, Acknowledged, Denied, UnknownCommand, Welcomed, Go, FirstTaken, Derived}
use Rattle.registration.specs.declared.registration_event.RegistrationEvent.TheVariants.{FinalTaken, Broken, Narrowed, LoggedIn, LoginFailed, Nothing}
use Rattle.registration.specs.declared.registration_event.Say.{Say}
use Rattle.registration.specs.declared.registration_event.Say.TheVariants as say
use Rattle.registration.specs.declared.mechanism.Mechanism.{Mechanism}
use Rattle.registration.specs.declared.mechanism.Mechanism.TheVariants.{ScramSha512, ScramSha256, External, Plain}
use Rattle.registration.specs.declared.negotiation.Negotiation.{Negotiation}
use Rattle.registration.specs.declared.scram_hash.ScramHash.{ScramHash}
use Rattle.registration.specs.declared.scram_hash.ScramHash.TheVariants.{Sha256, Sha512}
use Rattle.registration.specs.Steps.{step}

-- what is said, before what is said later
abbrev pub said_before : Option Say → List Say → List Say
said_before None later = later
said_before (Some now) later = now ∷ later

-- what a client says while it hears these, one after the other
abbrev pub run : Negotiation → List RegistrationEvent → List Say
run n [] = []
run n (heard ∷ later) = said_before (step n heard).say (run (step n heard).negotiation later)

-- ---- what is said

-- CAP END
abbrev pub is_end : Say → Bool
is_end (say.Request set) = false
is_end say.RequestSasl = false
is_end (say.Name mechanism) = false
is_end (say.First hash) = false
is_end say.Final = false
is_end say.Plain = false
is_end say.Empty = false
is_end say.End = true

-- the password
abbrev pub is_plain : Say → Bool
is_plain (say.Request set) = false
is_plain say.RequestSasl = false
is_plain (say.Name mechanism) = false
is_plain (say.First hash) = false
is_plain say.Final = false
is_plain say.Plain = true
is_plain say.Empty = false
is_plain say.End = false

abbrev pub same_mechanism : Mechanism → Mechanism → Bool
same_mechanism ScramSha512 ScramSha512 = true
same_mechanism ScramSha512 ScramSha256 = false
same_mechanism ScramSha512 External = false
same_mechanism ScramSha512 Plain = false
same_mechanism ScramSha256 ScramSha512 = false
same_mechanism ScramSha256 ScramSha256 = true
same_mechanism ScramSha256 External = false
same_mechanism ScramSha256 Plain = false
same_mechanism External ScramSha512 = false
same_mechanism External ScramSha256 = false
same_mechanism External External = true
same_mechanism External Plain = false
same_mechanism Plain ScramSha512 = false
same_mechanism Plain ScramSha256 = false
same_mechanism Plain External = false
same_mechanism Plain Plain = true

-- the name of this mechanism
abbrev pub is_name_of : Mechanism → Say → Bool
is_name_of mechanism (say.Request set) = false
is_name_of mechanism say.RequestSasl = false
is_name_of mechanism (say.Name named) = same_mechanism mechanism named
is_name_of mechanism (say.First hash) = false
is_name_of mechanism say.Final = false
is_name_of mechanism say.Plain = false
is_name_of mechanism say.Empty = false
is_name_of mechanism say.End = false

abbrev pub same_hash : ScramHash → ScramHash → Bool
same_hash Sha512 Sha512 = true
same_hash Sha512 Sha256 = false
same_hash Sha256 Sha512 = false
same_hash Sha256 Sha256 = true

-- the first message of the SCRAM exchange with this hash function, which has its nonce
abbrev pub is_first : ScramHash → Say → Bool
is_first hash (say.Request set) = false
is_first hash say.RequestSasl = false
is_first hash (say.Name mechanism) = false
is_first hash (say.First begun) = same_hash hash begun
is_first hash say.Final = false
is_first hash say.Plain = false
is_first hash say.Empty = false
is_first hash say.End = false

-- ---- what is heard

-- 903
abbrev pub is_logged_in : RegistrationEvent → Bool
is_logged_in (Listed offer is_last) = false
is_logged_in (Acknowledged offer) = false
is_logged_in (Denied offer) = false
is_logged_in UnknownCommand = false
is_logged_in Welcomed = false
is_logged_in Go = false
is_logged_in FirstTaken = false
is_logged_in Derived = false
is_logged_in FinalTaken = false
is_logged_in (Broken why) = false
is_logged_in (Narrowed mechanisms) = false
is_logged_in LoggedIn = true
is_logged_in LoginFailed = false
is_logged_in Nothing = false

-- a server's final message that shows that it knows the password
abbrev pub is_final_taken : RegistrationEvent → Bool
is_final_taken (Listed offer is_last) = false
is_final_taken (Acknowledged offer) = false
is_final_taken (Denied offer) = false
is_final_taken UnknownCommand = false
is_final_taken Welcomed = false
is_final_taken Go = false
is_final_taken FirstTaken = false
is_final_taken Derived = false
is_final_taken FinalTaken = true
is_final_taken (Broken why) = false
is_final_taken (Narrowed mechanisms) = false
is_final_taken LoggedIn = false
is_final_taken LoginFailed = false
is_final_taken Nothing = false

-- ---- how often

abbrev pub if_so : Bool → ℕ
if_so true = 1
if_so false = 0

-- how many of these pass the test
abbrev pub count_of : {A : Type 0} → (A → Bool) → List A → ℕ
count_of test [] = 0
count_of test (x ∷ xs) = if_so (test x) + count_of test xs
