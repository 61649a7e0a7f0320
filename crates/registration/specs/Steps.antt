-- The steps of a registration: what it is after something was heard, and what the client says (IRCv3 capability
-- negotiation 302, and SASL 3.2).
use Rattle.std.specs.Prelude.{◌&&◌, not, Bool, true, false, Option, Some, None, if◌then◌else◌}
use Rattle.registration.specs.declared.capabilities.Capabilities.{Capabilities}
use Rattle.registration.specs.declared.capabilities.Offer.{Offer}
use Rattle.registration.specs.declared.registration_event.RegistrationEvent.{RegistrationEvent}
use Rattle.registration.specs.declared.registration_event.RegistrationEvent.TheVariants.{Listed, Acknowledged, Denied, UnknownCommand, Welcomed, Go, FirstTaken, Derived}
use Rattle.registration.specs.declared.registration_event.RegistrationEvent.TheVariants.{FinalTaken, Broken, Narrowed, LoggedIn, LoginFailed, Nothing}
use Rattle.registration.specs.declared.registration_event.Say.{Say}
use Rattle.registration.specs.declared.registration_event.Say.TheVariants as say
use Rattle.registration.specs.declared.mechanism.Mechanism.{Mechanism}
use Rattle.registration.specs.declared.mechanism.Mechanism.TheVariants.{ScramSha512, ScramSha256, External, Plain}
use Rattle.registration.specs.declared.mechanism.Mechanisms.{Mechanisms}
use Rattle.registration.specs.declared.negotiation.LoginStage.{LoginStage}
use Rattle.registration.specs.declared.negotiation.LoginStage.TheVariants.{AwaitsGo, AwaitsFirst, Derives, AwaitsFinal, AwaitsResult}
use Rattle.registration.specs.declared.negotiation.Negotiation.{Negotiation}
use Rattle.registration.specs.declared.negotiation.Stage.{Stage}
use Rattle.registration.specs.declared.negotiation.Stage.TheVariants.{AwaitsList, AwaitsAnswer, AwaitsSasl, Tries, Over, Failed}
use Rattle.registration.specs.declared.negotiation.NegotiationStep.{NegotiationStep}
use Rattle.registration.specs.declared.registration_fault.RegistrationFault.{RegistrationFault}
use Rattle.registration.specs.declared.registration_fault.RegistrationFault.TheVariants as fault
use Rattle.registration.specs.declared.scram_hash.ScramHash.{ScramHash}
use Rattle.registration.specs.declared.scram_hash.ScramHash.TheVariants.{Sha256, Sha512}
use Rattle.registration.specs.Sets.{both_capabilities, both_mechanisms, both_offers, first_mechanism, is_empty, no_capabilities, no_offer, without_mechanism, without_stale_accounts}

-- ---- kinds of steps

abbrev pub stays : Negotiation → NegotiationStep
stays n = record { negotiation = n; say = None }

abbrev pub turns : Negotiation → Stage → NegotiationStep
turns n stage = stays (record n { stage = stage })

abbrev pub fails : Negotiation → RegistrationFault → NegotiationStep
fails n why = turns n (Failed why)

abbrev pub says : Negotiation → Stage → Say → NegotiationStep
says n stage said = record { negotiation = record n { stage = stage }; say = Some said }

-- ---- the beginning

-- PLAIN may be tried only on a private connection
abbrev pub allowed_on : Bool → Mechanisms → Mechanisms
allowed_on is_private allowed = record allowed { plain = allowed.plain && is_private }

abbrev pub begun_with : Bool → Mechanisms → Bool → Capabilities → Negotiation
begun_with wants_account allowed is_private wanted = record {
  wants_account = wants_account;
  wanted = wanted;
  untried = allowed_on is_private allowed;
  offer = no_offer;
  enabled = no_capabilities;
  stage = AwaitsList;
}

-- ---- capabilities

abbrev pub is_listing : Stage → Bool
is_listing AwaitsList = true
is_listing AwaitsAnswer = false
is_listing AwaitsSasl = false
is_listing (Tries login) = false
is_listing Over = false
is_listing (Failed why) = false

-- once no other capability is to be asked for, the client asks for sasl if it is to log in, and ends the negotiation
-- otherwise
abbrev pub capabilities_end : Negotiation → NegotiationStep
capabilities_end n = if n.wants_account then says n AwaitsSasl say.RequestSasl else says n Over say.End

-- the client asks for what it wants and the server offers, but for extended-join only together with account-notify
abbrev pub request_of : Negotiation → Capabilities
request_of n = without_stale_accounts (both_capabilities n.wanted n.offer.others)

abbrev pub list_ends : Negotiation → NegotiationStep
list_ends n =
    if n.wants_account && not n.offer.sasl then fails n fault.NoSasl
    else if is_empty (request_of n) then capabilities_end n
    else says n AwaitsAnswer (say.Request (request_of n))

abbrev pub offered : Negotiation → Offer → Negotiation
offered n offer = record n { offer = both_offers n.offer offer }

abbrev pub listed : Negotiation → Offer → Bool → NegotiationStep
listed n offer is_last =
    if not (is_listing n.stage) then stays n
    else if is_last then list_ends (offered n offer)
    else stays (offered n offer)

abbrev pub unknown : Negotiation → NegotiationStep
unknown n =
    if not (is_listing n.stage) then stays n
    else if n.wants_account then fails n fault.NoCapabilities
    else turns n Over

-- ---- mechanisms

abbrev pub narrowed : Negotiation → Mechanisms → Negotiation
narrowed n mechanisms = record n { untried = both_mechanisms n.untried mechanisms }

-- the client names a mechanism, which is tried no more after that
abbrev pub names : Negotiation → RegistrationFault → Option Mechanism → NegotiationStep
names n why None = fails n why
names n why (Some mechanism) =
    says (record n { untried = without_mechanism n.untried mechanism }) (Tries (AwaitsGo mechanism)) (say.Name mechanism)

abbrev pub next : Negotiation → RegistrationFault → NegotiationStep
next n why = names n why (first_mechanism n.untried)

-- ---- the answers to requests

abbrev pub sasl_acknowledged : Negotiation → Bool → NegotiationStep
sasl_acknowledged n names_sasl = if names_sasl then next (narrowed n n.offer.mechanisms) fault.NoMechanism else stays n

abbrev pub acknowledged_at : Stage → Negotiation → Offer → NegotiationStep
acknowledged_at AwaitsAnswer n offer = capabilities_end (record n { enabled = both_capabilities n.wanted offer.others })
acknowledged_at AwaitsSasl n offer = sasl_acknowledged n offer.sasl
acknowledged_at AwaitsList n offer = stays n
acknowledged_at (Tries login) n offer = stays n
acknowledged_at Over n offer = stays n
acknowledged_at (Failed why) n offer = stays n

abbrev pub acknowledged : Negotiation → Offer → NegotiationStep
acknowledged n offer = acknowledged_at n.stage n offer

abbrev pub sasl_denied : Negotiation → Bool → NegotiationStep
sasl_denied n names_sasl = if names_sasl then fails n fault.NoSasl else stays n

abbrev pub denied_at : Stage → Negotiation → Offer → NegotiationStep
denied_at AwaitsAnswer n offer = capabilities_end n
denied_at AwaitsSasl n offer = sasl_denied n offer.sasl
denied_at AwaitsList n offer = stays n
denied_at (Tries login) n offer = stays n
denied_at Over n offer = stays n
denied_at (Failed why) n offer = stays n

abbrev pub denied : Negotiation → Offer → NegotiationStep
denied n offer = denied_at n.stage n offer

-- ---- the welcome

-- a server that welcomes the client ends the registration, which fails if the client was to log in
abbrev pub let_in : Negotiation → NegotiationStep
let_in n = if n.wants_account then fails n fault.Welcomed else turns n Over

abbrev pub welcomed_at : Stage → Negotiation → NegotiationStep
welcomed_at AwaitsList n = let_in n
welcomed_at AwaitsAnswer n = let_in n
welcomed_at AwaitsSasl n = let_in n
welcomed_at (Tries login) n = let_in n
welcomed_at Over n = stays n
welcomed_at (Failed why) n = stays n

abbrev pub welcomed : Negotiation → NegotiationStep
welcomed n = welcomed_at n.stage n

-- ---- a login

abbrev pub begin_scram : Negotiation → ScramHash → NegotiationStep
begin_scram n hash = says n (Tries (AwaitsFirst hash)) (say.First hash)

abbrev pub answer : Negotiation → Mechanism → NegotiationStep
answer n ScramSha512 = begin_scram n Sha512
answer n ScramSha256 = begin_scram n Sha256
answer n External = says n (Tries AwaitsResult) say.Empty
answer n Plain = says n (Tries AwaitsResult) say.Plain

abbrev pub go_step : Negotiation → LoginStage → NegotiationStep
go_step n (AwaitsGo mechanism) = answer n mechanism
go_step n (AwaitsFirst hash) = stays n
go_step n Derives = stays n
go_step n AwaitsFinal = stays n
go_step n AwaitsResult = stays n

abbrev pub first_step : Negotiation → LoginStage → NegotiationStep
first_step n (AwaitsGo mechanism) = stays n
first_step n (AwaitsFirst hash) = turns n (Tries Derives)
first_step n Derives = stays n
first_step n AwaitsFinal = stays n
first_step n AwaitsResult = stays n

abbrev pub derived_step : Negotiation → LoginStage → NegotiationStep
derived_step n (AwaitsGo mechanism) = stays n
derived_step n (AwaitsFirst hash) = stays n
derived_step n Derives = says n (Tries AwaitsFinal) say.Final
derived_step n AwaitsFinal = stays n
derived_step n AwaitsResult = stays n

abbrev pub final_step : Negotiation → LoginStage → NegotiationStep
final_step n (AwaitsGo mechanism) = stays n
final_step n (AwaitsFirst hash) = stays n
final_step n Derives = stays n
final_step n AwaitsFinal = says n (Tries AwaitsResult) say.Empty
final_step n AwaitsResult = stays n

-- a server that says that the login succeeded before the exchange is over has not shown that it knows the password
abbrev pub success_step : Negotiation → LoginStage → NegotiationStep
success_step n (AwaitsGo mechanism) = fails n fault.Unproven
success_step n (AwaitsFirst hash) = fails n fault.Unproven
success_step n Derives = fails n fault.Unproven
success_step n AwaitsFinal = fails n fault.Unproven
success_step n AwaitsResult = says n Over say.End

abbrev pub login_step : Negotiation → LoginStage → RegistrationEvent → NegotiationStep
login_step n login Go = go_step n login
login_step n login FirstTaken = first_step n login
login_step n login Derived = derived_step n login
login_step n login FinalTaken = final_step n login
login_step n login (Broken why) = fails n why
login_step n login (Narrowed mechanisms) = stays (narrowed n mechanisms)
login_step n login LoggedIn = success_step n login
login_step n login LoginFailed = next n fault.Rejected
login_step n login (Listed offer is_last) = stays n
login_step n login (Acknowledged offer) = stays n
login_step n login (Denied offer) = stays n
login_step n login UnknownCommand = stays n
login_step n login Welcomed = stays n
login_step n login Nothing = stays n

abbrev pub login_of : Stage → Option LoginStage
login_of (Tries login) = Some login
login_of AwaitsList = None
login_of AwaitsAnswer = None
login_of AwaitsSasl = None
login_of Over = None
login_of (Failed why) = None

abbrev pub in_login : Option LoginStage → Negotiation → RegistrationEvent → NegotiationStep
in_login (Some login) n heard = login_step n login heard
in_login None n heard = stays n

-- ---- every step

abbrev pub step : Negotiation → RegistrationEvent → NegotiationStep
step n (Listed offer is_last) = listed n offer is_last
step n (Acknowledged offer) = acknowledged n offer
step n (Denied offer) = denied n offer
step n UnknownCommand = unknown n
step n Welcomed = welcomed n
step n Nothing = stays n
step n Go = in_login (login_of n.stage) n Go
step n FirstTaken = in_login (login_of n.stage) n FirstTaken
step n Derived = in_login (login_of n.stage) n Derived
step n FinalTaken = in_login (login_of n.stage) n FinalTaken
step n (Broken why) = in_login (login_of n.stage) n (Broken why)
step n (Narrowed mechanisms) = in_login (login_of n.stage) n (Narrowed mechanisms)
step n LoggedIn = in_login (login_of n.stage) n LoggedIn
step n LoginFailed = in_login (login_of n.stage) n LoginFailed
