-- The shapes that the steps of a registration have.
use Rattle.std.proofs.Common.{◌≡◌, ◌+◌, ℕ, ◌≤◌, Bool, true, false, Option, Some, None, ◌⊎◌, inl, inr, refl, sym, ap, ◌∙◌, cond, arith}
use Rattle.std.specs.Prelude.{◌&&◌, not}
use Rattle.registration.specs.declared.capabilities.Offer.{Offer}
use Rattle.registration.specs.declared.registration_event.RegistrationEvent.{RegistrationEvent}
use Rattle.registration.specs.declared.registration_event.RegistrationEvent.TheVariants.{Listed, Acknowledged, Denied, UnknownCommand, Welcomed, Go, FirstTaken, Derived}
use Rattle.registration.specs.declared.registration_event.RegistrationEvent.TheVariants.{FinalTaken, Broken, Narrowed, LoggedIn, LoginFailed, Nothing}
use Rattle.registration.specs.declared.registration_event.Say.{Say}
use Rattle.registration.specs.declared.registration_event.Say.TheVariants as say
use Rattle.registration.specs.declared.mechanism.Mechanism.{Mechanism}
use Rattle.registration.specs.declared.mechanism.Mechanism.TheVariants.{ScramSha512, ScramSha256, External, Plain}
use Rattle.registration.specs.declared.mechanism.Mechanisms.{Mechanisms}
use Rattle.registration.specs.declared.negotiation.LoginStage.{LoginStage}
use Rattle.registration.specs.declared.negotiation.LoginStage.TheVariants.{AwaitsGo, AwaitsFirst, Derives, AwaitsFinal, AwaitsResult}
use Rattle.registration.specs.declared.negotiation.Negotiation.{Negotiation}
use Rattle.registration.specs.declared.negotiation.Stage.{Stage}
use Rattle.registration.specs.declared.negotiation.Stage.TheVariants.{AwaitsList, AwaitsAnswer, AwaitsSasl, Tries, Over, Failed}
use Rattle.registration.specs.declared.negotiation.NegotiationStep.{NegotiationStep}
use Rattle.registration.specs.declared.registration_fault.RegistrationFault.{RegistrationFault}
use Rattle.registration.specs.declared.registration_fault.RegistrationFault.TheVariants as fault
use Rattle.registration.specs.declared.scram_hash.ScramHash.{ScramHash}
use Rattle.registration.specs.declared.scram_hash.ScramHash.TheVariants.{Sha256, Sha512}
use Rattle.registration.specs.Runs.{if_so, is_final_taken, is_logged_in}
use Rattle.registration.specs.Sets.{both_capabilities, both_mechanisms, first_mechanism, holds_mechanism, is_empty, without_mechanism}
use Rattle.registration.specs.Steps.{acknowledged_at, answer, capabilities_end, denied_at, derived_step, fails, final_step, first_step, go_step, in_login, is_listing}
use Rattle.registration.specs.Steps.{let_in, list_ends, listed, login_of, login_step, names, narrowed, next, offered, request_of, says, stays, step, success_step, turns, unknown, welcomed_at}

-- whether a mechanism may still be tried, as a number
abbrev pub weight : Mechanism → Negotiation → ℕ
weight mechanism n = if_so (holds_mechanism n.untried mechanism)

-- the mechanism whose turn it is to be answered
abbrev pub asked : Stage → Option Mechanism
asked (Tries (AwaitsGo mechanism)) = Some mechanism
asked (Tries (AwaitsFirst hash)) = None
asked (Tries Derives) = None
asked (Tries AwaitsFinal) = None
asked (Tries AwaitsResult) = None
asked AwaitsList = None
asked AwaitsAnswer = None
asked AwaitsSasl = None
asked Over = None
asked (Failed why) = None

-- whether a login can end without a SCRAM exchange, or a SCRAM exchange is over, as a number
abbrev pub open_of : Stage → ℕ
open_of (Tries (AwaitsGo ScramSha512)) = 0
open_of (Tries (AwaitsGo ScramSha256)) = 0
open_of (Tries (AwaitsGo External)) = 1
open_of (Tries (AwaitsGo Plain)) = 1
open_of (Tries (AwaitsFirst hash)) = 0
open_of (Tries Derives) = 0
open_of (Tries AwaitsFinal) = 0
open_of (Tries AwaitsResult) = 1
open_of AwaitsList = 0
open_of AwaitsAnswer = 0
open_of AwaitsSasl = 0
open_of Over = 0
open_of (Failed why) = 0

-- the second stage is open only if the first is, or a server's final message was taken
abbrev pub OpensBy : RegistrationEvent → Stage → Stage → Type 0
OpensBy heard before stage = open_of stage ≤ open_of before + if_so (is_final_taken heard)

-- the mechanism of an exchange
abbrev pub scram_mechanism : ScramHash → Mechanism
scram_mechanism Sha512 = ScramSha512
scram_mechanism Sha256 = ScramSha256

-- the second wants the same as the first, and may try no more mechanisms
pub record IsLess (n m : Negotiation) : Type 0 where
  pub wants : m.wants_account ≡ n.wants_account
  pub fewer : (mechanism : Mechanism) → weight mechanism m ≤ weight mechanism n

-- something that is neither the end, nor a mechanism's name, nor a login's first message
abbrev pub is_other : Say → Bool
is_other (say.Request set) = true
is_other say.RequestSasl = true
is_other (say.Name mechanism) = false
is_other (say.First hash) = false
is_other say.Final = true
is_other say.Plain = false
is_other say.Empty = true
is_other say.End = false

pub data Shape (n : Negotiation) (heard : RegistrationEvent) (s : NegotiationStep) : Type 0 where
  -- nothing is said
  Silent : IsLess n s.negotiation → s.say ≡ None → (asked s.negotiation.stage ≡ None) ⊎ (s.negotiation.stage ≡ n.stage)
      → OpensBy heard n.stage s.negotiation.stage → Shape n heard s
  -- something else is said
  Speaks : (said : Say) → IsLess n s.negotiation → s.say ≡ Some said → is_other said ≡ true → asked s.negotiation.stage ≡ None
      → OpensBy heard n.stage s.negotiation.stage → Shape n heard s
  -- a mechanism is named, which could be tried, and can be no more
  Names : (mechanism : Mechanism) (m : Negotiation) → IsLess n m → holds_mechanism m.untried mechanism ≡ true
      → s ≡ says (record m { untried = without_mechanism m.untried mechanism }) (Tries (AwaitsGo mechanism)) (say.Name mechanism) → Shape n heard s
  -- a SCRAM exchange begins, after its mechanism was named
  Begins : (hash : ScramHash) → IsLess n s.negotiation → s.say ≡ Some (say.First hash) → asked n.stage ≡ Some (scram_mechanism hash)
      → s.negotiation.stage ≡ Tries (AwaitsFirst hash) → Shape n heard s
  -- the password is said, after PLAIN was named
  Tells : IsLess n s.negotiation → s.say ≡ Some say.Plain → asked n.stage ≡ Some Plain → asked s.negotiation.stage ≡ None → Shape n heard s
  -- the end is said
  Ends : IsLess n s.negotiation → s.say ≡ Some say.End → s.negotiation.stage ≡ Over → (n.wants_account ≡ false) ⊎ ((is_logged_in heard ≡ true) × (open_of n.stage ≡ 1))
      → Shape n heard s

-- ---- fewer mechanisms

same : (n m : Negotiation) → m.wants_account ≡ n.wants_account → m.untried ≡ n.untried → IsLess n m
same n m wants untried = record {
  wants = wants;
  fewer = λ mechanism. omega (arith, ap (λ (u : Mechanisms). if_so (holds_mechanism u mechanism)) untried);
}

and_less : (a b : Bool) → if_so (a && b) ≤ if_so a
and_less true true = omega arith
and_less true false = omega arith
and_less false b = omega arith

both_less : (a b : Mechanisms) (mechanism : Mechanism)
    → if_so (holds_mechanism (both_mechanisms a b) mechanism) ≤ if_so (holds_mechanism a mechanism)
both_less a b ScramSha512 = and_less a.scram_sha_512 b.scram_sha_512
both_less a b ScramSha256 = and_less a.scram_sha_256 b.scram_sha_256
both_less a b External = and_less a.external b.external
both_less a b Plain = and_less a.plain b.plain

narrow_less : (n : Negotiation) (mechanisms : Mechanisms) → IsLess n (narrowed n mechanisms)
narrow_less n mechanisms = record { wants = refl; fewer = λ mechanism. both_less n.untried mechanisms mechanism }

-- ---- shapes of the parts

itself : (n : Negotiation) (heard : RegistrationEvent) → Shape n heard (stays n)
itself n heard = Silent (same n n refl refl) refl (inr refl) (omega arith)

gives_up : (n : Negotiation) (heard : RegistrationEvent) (m : Negotiation) (why : RegistrationFault) → IsLess n m → Shape n heard (fails m why)
gives_up n heard m why less = Silent (record { wants = less.wants; fewer = less.fewer }) refl (inl refl) (omega arith)

-- one of two
either : (n : Negotiation) (heard : RegistrationEvent) (b : Bool) (x y : NegotiationStep) → Shape n heard x → Shape n heard y → Shape n heard (cond b x y)
either n heard true x y first second = first
either n heard false x y first second = second

-- one of two, each by what the test gave
by_test : (n : Negotiation) (heard : RegistrationEvent) (b : Bool) (x y : NegotiationStep) → (b ≡ true → Shape n heard x) → (b ≡ false → Shape n heard y)
    → Shape n heard (cond b x y)
by_test n heard true x y first second = first refl
by_test n heard false x y first second = second refl

of_capabilities_end : (n m : Negotiation) (heard : RegistrationEvent) → IsLess n m → Shape n heard (capabilities_end m)
of_capabilities_end n m heard less = by_test n heard m.wants_account _ _
    (λ wants. Speaks say.RequestSasl (record { wants = less.wants; fewer = less.fewer }) refl refl refl (omega arith))
    (λ none. Ends (record { wants = less.wants; fewer = less.fewer }) refl refl (inl (sym less.wants ∙ none)))

of_list_ends : (n m : Negotiation) (heard : RegistrationEvent) → IsLess n m → Shape n heard (list_ends m)
of_list_ends n m heard less = either n heard (m.wants_account && not m.offer.sasl) _ _
    (gives_up n heard m fault.NoSasl less)
    (either n heard (is_empty (request_of m)) _ _
    (of_capabilities_end n m heard less)
    (Speaks (say.Request (request_of m)) (record { wants = less.wants; fewer = less.fewer }) refl refl refl (omega arith)))

-- a mechanism that may be tried, or none
abbrev IsHeld : Mechanisms → Option Mechanism → Type 0
IsHeld set None = Unit {0}
IsHeld set (Some mechanism) = holds_mechanism set mechanism ≡ true

held_if : (set : Mechanisms) (b : Bool) (mechanism : Mechanism) (other : Option Mechanism)
    → (b ≡ true → holds_mechanism set mechanism ≡ true) → IsHeld set other → IsHeld set (cond b (Some mechanism) other)
held_if set true mechanism other held rest = held refl
held_if set false mechanism other held rest = rest

first_held : (set : Mechanisms) → IsHeld set (first_mechanism set)
first_held set =
    held_if set set.scram_sha_512 ScramSha512 _ (λ e. e)
    (held_if set set.scram_sha_256 ScramSha256 _ (λ e. e)
    (held_if set set.external External _ (λ e. e)
    (held_if set set.plain Plain None (λ e. e) tt)))

of_names : (n m : Negotiation) (heard : RegistrationEvent) (why : RegistrationFault) → IsLess n m
    → (mechanism : Option Mechanism) → IsHeld m.untried mechanism → Shape n heard (names m why mechanism)
of_names n m heard why less None held = gives_up n heard m why less
of_names n m heard why less (Some mechanism) held = Names mechanism m less held refl

of_next : (n m : Negotiation) (heard : RegistrationEvent) (why : RegistrationFault) → IsLess n m → Shape n heard (next m why)
of_next n m heard why less = of_names n m heard why less (first_mechanism m.untried) (first_held m.untried)

-- ---- shapes by what is heard

of_listed : (n : Negotiation) (heard : RegistrationEvent) (offer : Offer) (is_last : Bool) → Shape n heard (listed n offer is_last)
of_listed n heard offer is_last = either n heard (not (is_listing n.stage)) _ _ (itself n heard)
    (either n heard is_last _ _
    (of_list_ends n (offered n offer) heard (same n (offered n offer) refl refl))
    (Silent (same n (offered n offer) refl refl) refl (inr refl) (omega arith)))

of_acknowledged : (n : Negotiation) (heard : RegistrationEvent) (stage : Stage) (offer : Offer) → Shape n heard (acknowledged_at stage n offer)
of_acknowledged n heard AwaitsAnswer offer =
    let m = record n { enabled = both_capabilities n.wanted offer.others } in of_capabilities_end n m heard (same n m refl refl)
of_acknowledged n heard AwaitsSasl offer = either n heard offer.sasl _ _
    (of_next n (narrowed n n.offer.mechanisms) heard fault.NoMechanism (narrow_less n n.offer.mechanisms))
    (itself n heard)
of_acknowledged n heard AwaitsList offer = itself n heard
of_acknowledged n heard (Tries login) offer = itself n heard
of_acknowledged n heard Over offer = itself n heard
of_acknowledged n heard (Failed why) offer = itself n heard

of_denied : (n : Negotiation) (heard : RegistrationEvent) (stage : Stage) (offer : Offer) → Shape n heard (denied_at stage n offer)
of_denied n heard AwaitsAnswer offer = of_capabilities_end n n heard (same n n refl refl)
of_denied n heard AwaitsSasl offer = either n heard offer.sasl _ _
    (gives_up n heard n fault.NoSasl (same n n refl refl)) (itself n heard)
of_denied n heard AwaitsList offer = itself n heard
of_denied n heard (Tries login) offer = itself n heard
of_denied n heard Over offer = itself n heard
of_denied n heard (Failed why) offer = itself n heard

over : (n : Negotiation) (heard : RegistrationEvent) → Shape n heard (turns n Over)
over n heard = Silent (same n _ refl refl) refl (inl refl) (omega arith)

of_unknown : (n : Negotiation) (heard : RegistrationEvent) → Shape n heard (unknown n)
of_unknown n heard = either n heard (not (is_listing n.stage)) _ _ (itself n heard)
    (either n heard n.wants_account _ _ (gives_up n heard n fault.NoCapabilities (same n n refl refl)) (over n heard))

of_let_in : (n : Negotiation) (heard : RegistrationEvent) → Shape n heard (let_in n)
of_let_in n heard =
    either n heard n.wants_account _ _ (gives_up n heard n fault.Welcomed (same n n refl refl)) (over n heard)

of_welcomed : (n : Negotiation) (heard : RegistrationEvent) (stage : Stage) → Shape n heard (welcomed_at stage n)
of_welcomed n heard AwaitsList = of_let_in n heard
of_welcomed n heard AwaitsAnswer = of_let_in n heard
of_welcomed n heard AwaitsSasl = of_let_in n heard
of_welcomed n heard (Tries login) = of_let_in n heard
of_welcomed n heard Over = itself n heard
of_welcomed n heard (Failed why) = itself n heard

-- ---- shapes of a login

-- whether a login by a mechanism is one without a SCRAM exchange, as a number
abbrev pub opens : Mechanism → ℕ
opens ScramSha512 = 0
opens ScramSha256 = 0
opens External = 1
opens Plain = 1

abbrev opens_if : Option Mechanism → ℕ
opens_if None = 0
opens_if (Some mechanism) = opens mechanism

pub asked_open : (stage : Stage) (mechanism : Mechanism) → asked stage ≡ Some mechanism → open_of stage ≡ opens mechanism
asked_open (Tries (AwaitsGo ScramSha512)) mechanism turn = ap opens_if turn
asked_open (Tries (AwaitsGo ScramSha256)) mechanism turn = ap opens_if turn
asked_open (Tries (AwaitsGo External)) mechanism turn = ap opens_if turn
asked_open (Tries (AwaitsGo Plain)) mechanism turn = ap opens_if turn
asked_open (Tries (AwaitsFirst hash)) mechanism turn = cc
asked_open (Tries Derives) mechanism turn = cc
asked_open (Tries AwaitsFinal) mechanism turn = cc
asked_open (Tries AwaitsResult) mechanism turn = cc
asked_open AwaitsList mechanism turn = cc
asked_open AwaitsAnswer mechanism turn = cc
asked_open AwaitsSasl mechanism turn = cc
asked_open Over mechanism turn = cc
asked_open (Failed why) mechanism turn = cc

speaks : (n : Negotiation) (heard : RegistrationEvent) (stage : Stage) (said : Say) → is_other said ≡ true → asked stage ≡ None
    → OpensBy heard n.stage stage → Shape n heard (says n stage said)
speaks n heard stage said other none by = Speaks said (same n _ refl refl) refl other none by

of_answer : (n : Negotiation) (heard : RegistrationEvent) (mechanism : Mechanism) → asked n.stage ≡ Some mechanism
    → Shape n heard (answer n mechanism)
of_answer n heard ScramSha512 turn = Begins Sha512 (same n _ refl refl) refl turn refl
of_answer n heard ScramSha256 turn = Begins Sha256 (same n _ refl refl) refl turn refl
of_answer n heard External turn = speaks n heard _ _ refl refl (omega (arith, asked_open n.stage External turn))
of_answer n heard Plain turn = Tells (same n _ refl refl) refl turn refl

of_go : (n : Negotiation) (heard : RegistrationEvent) (login : LoginStage) → n.stage ≡ Tries login → Shape n heard (go_step n login)
of_go n heard (AwaitsGo mechanism) at = of_answer n heard mechanism (ap asked at)
of_go n heard (AwaitsFirst hash) at = itself n heard
of_go n heard Derives at = itself n heard
of_go n heard AwaitsFinal at = itself n heard
of_go n heard AwaitsResult at = itself n heard

of_first : (n : Negotiation) (heard : RegistrationEvent) (login : LoginStage) → Shape n heard (first_step n login)
of_first n heard (AwaitsGo mechanism) = itself n heard
of_first n heard (AwaitsFirst hash) = Silent (same n _ refl refl) refl (inl refl) (omega arith)
of_first n heard Derives = itself n heard
of_first n heard AwaitsFinal = itself n heard
of_first n heard AwaitsResult = itself n heard

of_derived : (n : Negotiation) (heard : RegistrationEvent) (login : LoginStage) → Shape n heard (derived_step n login)
of_derived n heard (AwaitsGo mechanism) = itself n heard
of_derived n heard (AwaitsFirst hash) = itself n heard
of_derived n heard Derives = speaks n heard _ _ refl refl (omega arith)
of_derived n heard AwaitsFinal = itself n heard
of_derived n heard AwaitsResult = itself n heard

of_final : (n : Negotiation) (login : LoginStage) → Shape n FinalTaken (final_step n login)
of_final n (AwaitsGo mechanism) = itself n FinalTaken
of_final n (AwaitsFirst hash) = itself n FinalTaken
of_final n Derives = itself n FinalTaken
of_final n AwaitsFinal = speaks n FinalTaken _ _ refl refl (omega arith)
of_final n AwaitsResult = itself n FinalTaken

unproven : (n : Negotiation) → Shape n LoggedIn (fails n fault.Unproven)
unproven n = gives_up n LoggedIn n fault.Unproven (same n n refl refl)

of_success : (n : Negotiation) (login : LoginStage) → n.stage ≡ Tries login → Shape n LoggedIn (success_step n login)
of_success n (AwaitsGo mechanism) at = unproven n
of_success n (AwaitsFirst hash) at = unproven n
of_success n Derives at = unproven n
of_success n AwaitsFinal at = unproven n
of_success n AwaitsResult at = Ends (same n _ refl refl) refl refl (inr (refl, ap open_of at))

of_login_step : (n : Negotiation) (login : LoginStage) (heard : RegistrationEvent) → n.stage ≡ Tries login → Shape n heard (login_step n login heard)
of_login_step n login Go at = of_go n Go login at
of_login_step n login FirstTaken at = of_first n FirstTaken login
of_login_step n login Derived at = of_derived n Derived login
of_login_step n login FinalTaken at = of_final n login
of_login_step n login (Broken why) at = gives_up n (Broken why) n why (same n n refl refl)
of_login_step n login (Narrowed mechanisms) at = Silent (narrow_less n mechanisms) refl (inr refl) (omega arith)
of_login_step n login LoggedIn at = of_success n login at
of_login_step n login LoginFailed at = of_next n n LoginFailed fault.Rejected (same n n refl refl)
of_login_step n login (Listed offer is_last) at = itself n (Listed offer is_last)
of_login_step n login (Acknowledged offer) at = itself n (Acknowledged offer)
of_login_step n login (Denied offer) at = itself n (Denied offer)
of_login_step n login UnknownCommand at = itself n UnknownCommand
of_login_step n login Welcomed at = itself n Welcomed
of_login_step n login Nothing at = itself n Nothing

of_login : (n : Negotiation) (stage : Stage) (heard : RegistrationEvent) → n.stage ≡ stage → Shape n heard (in_login (login_of stage) n heard)
of_login n (Tries login) heard at = of_login_step n login heard at
of_login n AwaitsList heard at = itself n heard
of_login n AwaitsAnswer heard at = itself n heard
of_login n AwaitsSasl heard at = itself n heard
of_login n Over heard at = itself n heard
of_login n (Failed why) heard at = itself n heard

-- ---- every step

pub shape_of : (n : Negotiation) (heard : RegistrationEvent) → Shape n heard (step n heard)
shape_of n (Listed offer is_last) = of_listed n (Listed offer is_last) offer is_last
shape_of n (Acknowledged offer) = of_acknowledged n (Acknowledged offer) n.stage offer
shape_of n (Denied offer) = of_denied n (Denied offer) n.stage offer
shape_of n UnknownCommand = of_unknown n UnknownCommand
shape_of n Welcomed = of_welcomed n Welcomed n.stage
shape_of n Nothing = itself n Nothing
shape_of n Go = of_login n n.stage Go refl
shape_of n FirstTaken = of_login n n.stage FirstTaken refl
shape_of n Derived = of_login n n.stage Derived refl
shape_of n FinalTaken = of_login n n.stage FinalTaken refl
shape_of n (Broken why) = of_login n n.stage (Broken why) refl
shape_of n (Narrowed mechanisms) = of_login n n.stage (Narrowed mechanisms) refl
shape_of n LoggedIn = of_login n n.stage LoggedIn refl
shape_of n LoginFailed = of_login n n.stage LoginFailed refl

-- once it is over, nothing more happens
pub over_stays : (n : Negotiation) (heard : RegistrationEvent) → n.stage ≡ Over → step n heard ≡ stays n
over_stays n (Listed offer is_last) at =
    ap (λ (s : Stage). cond (not (is_listing s)) (stays n) (cond is_last (list_ends (offered n offer)) (stays (offered n offer)))) at
over_stays n (Acknowledged offer) at = ap (λ (s : Stage). acknowledged_at s n offer) at
over_stays n (Denied offer) at = ap (λ (s : Stage). denied_at s n offer) at
over_stays n UnknownCommand at =
    ap (λ (s : Stage). cond (not (is_listing s)) (stays n) (cond n.wants_account (fails n fault.NoCapabilities) (turns n Over))) at
over_stays n Welcomed at = ap (λ (s : Stage). welcomed_at s n) at
over_stays n Nothing at = refl
over_stays n Go at = ap (λ (s : Stage). in_login (login_of s) n Go) at
over_stays n FirstTaken at = ap (λ (s : Stage). in_login (login_of s) n FirstTaken) at
over_stays n Derived at = ap (λ (s : Stage). in_login (login_of s) n Derived) at
over_stays n FinalTaken at = ap (λ (s : Stage). in_login (login_of s) n FinalTaken) at
over_stays n (Broken why) at = ap (λ (s : Stage). in_login (login_of s) n (Broken why)) at
over_stays n (Narrowed mechanisms) at = ap (λ (s : Stage). in_login (login_of s) n (Narrowed mechanisms)) at
over_stays n LoggedIn at = ap (λ (s : Stage). in_login (login_of s) n LoggedIn) at
over_stays n LoginFailed at = ap (λ (s : Stage). in_login (login_of s) n LoginFailed) at
