-- What a process asks of its server while a connection begins, a login to an account among it: what is told of it, and
-- what it leaves.
use Rattle.std.specs.Prelude.{◌≡◌, ◌++◌, if◌then◌else◌, ℕ, Bool, true, false, List, [], ◌∷◌, codes, Option, Some, None, Result, Ok, Err}
use Rattle.bytetext.specs.declared.failure.Failure.{Failure}
use Rattle.bytetext.specs.declared.failure.Failure.TheVariants.{Refused, NoMemory}
use Rattle.ircline.specs.declared.line.Line.{Line}
use Rattle.net.specs.Connections.{Talk}
use Rattle.registration.specs.declared.capabilities.Capabilities.{Capabilities}
use Rattle.registration.specs.declared.credentials.Credentials.{Credentials}
use Rattle.registration.specs.declared.registration.Registration.{Registration}
use Rattle.registration.specs.declared.registration.ScramNonces.{ScramNonces}
use Rattle.registration.specs.declared.registration.TheConstants.{FIRST_LINE}
use Rattle.registration.specs.declared.registration.Wish.{Wish}
use Rattle.registration.specs.declared.registration_fault.RegistrationFault.{RegistrationFault}
use Rattle.registration.specs.Hearings.{is_deriving}
use Rattle.registration.specs.Registrations.{begun_by, fault_of, is_over}
use Rattle.registration.specs.Talks.{Turn, Hear, Derive, Finish, turned, said_in}
use Rattle.settings.specs.declared.settings.Server.{Server}
use Rattle.serverlink.specs.Questions.{Questions, notified}
use Rattle.serverlink.specs.Talks.{told}
use Rattle.serverlink.specs.declared.login.TheConstants.{ROUNDS}
use Rattle.serverlink.specs.declared.session.Session.{Session}

-- ---- how a login begins

-- who is logged in, all modes of a member, and each person's user and host; nothing in a bot goes by who is away, or by
-- who is invited
abbrev pub wanted : Capabilities
wanted = record {
  account_notify = true;
  extended_join = true;
  multi_prefix = true;
  userhost_in_names = true;
  chghost = true;
  away_notify = false;
  invite_notify = false;
}

-- EXTERNAL shows no secret, and SCRAM shows no password. PLAIN shows the password to whoever reads the connection, so it
-- may be tried only on a connection whose address has a plus: it goes through a tunnel.
abbrev pub wish_of : Option Credentials → Bool → Wish
wish_of account has_plus = record {
  account = account;
  allowed = record { scram_sha_512 = true; scram_sha_256 = true; external = true; plain = has_plus };
  is_private = has_plus;
  wanted = wanted;
}

-- each connection begins with a registration, with or without an account
abbrev pub BeginsLogin : Option Credentials → Bool → Option Registration → Type 0
BeginsLogin account has_plus login = (nonces : ScramNonces) × (login ≡ Some (begun_by (wish_of account has_plus) nonces))

-- a server's PASS, if it has one
abbrev pub with_pass : Option (List ℕ) → Talk → Talk
with_pass None talk = talk
with_pass (Some pass) talk = told (codes "PASS :" ++ pass) talk

-- the first lines of a connection: CAP LS 302, and the server's PASS, if it has one
abbrev pub BeginsTalk : Option (List ℕ) → Talk → Type 0
BeginsTalk pass talk = (fresh : Talk) × (fresh.unsent ≡ []) × (talk ≡ with_pass pass (told FIRST_LINE.now fresh))

-- what is told of a connection to a server, if one begins
abbrev pub BeginsIn : Bool → Option Credentials → Option Server → Option Session → Type 0
BeginsIn false account server session = Unit {0}
BeginsIn true account None session = ⊥
BeginsIn true account (Some server) None = ⊥
BeginsIn true account (Some server) (Some session) =
    BeginsLogin account server.address.tls session.login × BeginsTalk server.pass session.wire

-- ---- a turn of a login: it hears a line, or ends a derivation

-- these lines are queued, one after another
abbrev pub all_told : List (List ℕ) → Talk → Talk
all_told [] talk = talk
all_told (line ∷ lines) talk = all_told lines (told line talk)

-- a login that is over is dropped
abbrev pub kept_login : Registration → Option Registration
kept_login login = if is_over login.negotiation.stage then None else Some login

-- once a registration is over, it is known whether the server says when somebody logs in or out (account-notify)
abbrev pub registered : Registration → Questions → Questions
registered login questions =
    if is_over login.negotiation.stage then notified login.negotiation.enabled.account_notify questions else questions

-- a fault ends the connection; else the lines of the turn are queued, in order, and nothing else
abbrev pub with_turn : Option RegistrationFault → Turn → Registration → Session → Option Session
with_turn (Some why) turn login session = None
with_turn None turn login session =
    Some (record session {
      wire = all_told (said_in login turn) session.wire;
      login = kept_login (turned login turn);
      questions = registered (turned login turn) session.questions;
    })

abbrev pub after_turn : Turn → Registration → Session → Option Session
after_turn turn login session = with_turn (fault_of (turned login turn).negotiation.stage) turn login session

-- ---- a line of the server

-- without a login nothing is heard for it, and nothing is told of it
abbrev pub line_for : Option Registration → Line → Session → Option Session
line_for None line session = Some session
line_for (Some login) line session = after_turn (Hear line) login session

abbrev pub line_heard : Line → Option Session → Option Session
line_heard line None = None
line_heard line (Some session) = line_for session.login line session

-- ---- iterations of a salted password

-- the iterations of a turn; then the login goes on if the password is derived
abbrev pub derived_by : Bool → Registration → Session → Option Session
derived_by false login session = Some session
derived_by true login session = after_turn Finish (turned login (Derive ROUNDS)) session

abbrev pub derived_for : Option Registration → Session → Option Session
derived_for None session = Some session
derived_for (Some login) session = derived_by (is_deriving login.work) login session

abbrev pub derived : Option Session → Option Session
derived None = None
derived (Some session) = derived_for session.login session

-- whether there are iterations to do
abbrev pub login_derives : Option Registration → Bool
login_derives None = false
login_derives (Some login) = is_deriving login.work

abbrev pub derives : Option Session → Bool
derives None = false
derives (Some session) = login_derives session.login

-- ---- what a call leaves

-- a fault of the login is returned where the connection is to end
abbrev pub Leaves : Option Session → Result (Unit {0}) (Failure RegistrationFault) → Session → Type 0
Leaves after (Ok _) new = after ≡ Some new
Leaves after (Err (Refused why)) new = after ≡ None
Leaves after (Err NoMemory) new = Unit {0}
