-- What holds of whole registrations.
use Rattle.std.proofs.Common.{◌≡◌, ℕ, ◌+◌, ◌≤◌, Bool, true, false, List, [], ◌∷◌, Option, Some, None, ◌⊎◌, inl, inr, refl, ap, ◌∙◌, arith}
use Rattle.registration.specs.declared.capabilities.Capabilities.{Capabilities}
use Rattle.registration.specs.declared.registration_event.RegistrationEvent.{RegistrationEvent}
use Rattle.registration.specs.declared.registration_event.Say.{Say}
use Rattle.registration.specs.declared.registration_event.Say.TheVariants as say
use Rattle.registration.specs.declared.mechanism.Mechanism.{Mechanism}
use Rattle.registration.specs.declared.mechanism.Mechanism.TheVariants.{ScramSha512, ScramSha256, External, Plain}
use Rattle.registration.specs.declared.mechanism.Mechanisms.{Mechanisms}
use Rattle.registration.specs.declared.negotiation.LoginStage.TheVariants.{AwaitsGo, AwaitsFirst, Derives, AwaitsFinal, AwaitsResult}
use Rattle.registration.specs.declared.negotiation.Negotiation.{Negotiation}
use Rattle.registration.specs.declared.negotiation.Stage.{Stage}
use Rattle.registration.specs.declared.negotiation.Stage.TheVariants.{AwaitsList, AwaitsAnswer, AwaitsSasl, Tries, Over, Failed}
use Rattle.registration.specs.declared.negotiation.NegotiationStep.{NegotiationStep}
use Rattle.registration.specs.declared.scram_hash.ScramHash.{ScramHash}
use Rattle.registration.specs.declared.scram_hash.ScramHash.TheVariants.{Sha256, Sha512}
use Rattle.std.specs.Prelude.{◌&&◌}
use Rattle.registration.specs.Runs.{count_of, if_so, is_end, is_final_taken, is_first, is_logged_in, is_name_of, is_plain, run, said_before, same_hash, same_mechanism}
use Rattle.registration.specs.Sets.{holds_mechanism, without_mechanism}
use Rattle.registration.specs.Steps.{allowed_on, begun_with, step}
use Rattle.registration.proofs.StepShapes.{Begins, Ends, Names, Shape, Silent, Speaks, Tells, asked, asked_open, is_other, open_of, opens, over_stays, scram_mechanism, shape_of, weight}

-- ---- counts

-- what passes the test of what is said in a step, as a number
abbrev pub said_weight : (Say → Bool) → Option Say → ℕ
said_weight test None = 0
said_weight test (Some said) = if_so (test said)

pub count_said : (test : Say → Bool) (said : Option Say) (later : List Say)
    → count_of test (said_before said later) ≡ said_weight test said + count_of test later
count_said test None later = omega arith
count_said test (Some said) later = refl

-- a number that falls with each thing that is said bounds how often it is said
counted : (test : Say → Bool) (left : Negotiation → ℕ)
    → ((n : Negotiation) (heard : RegistrationEvent) → said_weight test (step n heard).say + left (step n heard).negotiation ≤ left n)
    → (n : Negotiation) (heard : List RegistrationEvent) → count_of test (run n heard) ≤ left n
counted test left falls n [] = omega arith
counted test left falls n (heard ∷ later) =
    omega (
      arith,
      count_said test (step n heard).say (run (step n heard).negotiation later),
      falls n heard,
      counted test left falls (step n heard).negotiation later,
    )

-- ---- what is neither the end, nor a name, nor the password

other_end : (said : Say) → is_other said ≡ true → is_end said ≡ false
other_end (say.Request set) other = refl
other_end say.RequestSasl other = refl
other_end (say.Name mechanism) other = cc
other_end (say.First hash) other = cc
other_end say.Final other = refl
other_end say.Plain other = cc
other_end say.Empty other = refl
other_end say.End other = cc

other_plain : (said : Say) → is_other said ≡ true → is_plain said ≡ false
other_plain (say.Request set) other = refl
other_plain say.RequestSasl other = refl
other_plain (say.Name mechanism) other = cc
other_plain (say.First hash) other = cc
other_plain say.Final other = refl
other_plain say.Plain other = cc
other_plain say.Empty other = refl
other_plain say.End other = cc

other_name : (mechanism : Mechanism) (said : Say) → is_other said ≡ true → is_name_of mechanism said ≡ false
other_name mechanism (say.Request set) other = refl
other_name mechanism say.RequestSasl other = refl
other_name mechanism (say.Name named) other = cc
other_name mechanism (say.First hash) other = cc
other_name mechanism say.Final other = refl
other_name mechanism say.Plain other = cc
other_name mechanism say.Empty other = refl
other_name mechanism say.End other = cc

-- ---- each mechanism once

-- a mechanism that is named may be tried no more
pub named_once : (mechanism named : Mechanism) (set : Mechanisms) → holds_mechanism set named ≡ true
    → if_so (same_mechanism mechanism named) + if_so (holds_mechanism (without_mechanism set named) mechanism) ≤ if_so (holds_mechanism set mechanism)
named_once ScramSha512 ScramSha512 set held = omega (arith, ap if_so held)
named_once ScramSha512 ScramSha256 set held = omega arith
named_once ScramSha512 External set held = omega arith
named_once ScramSha512 Plain set held = omega arith
named_once ScramSha256 ScramSha512 set held = omega arith
named_once ScramSha256 ScramSha256 set held = omega (arith, ap if_so held)
named_once ScramSha256 External set held = omega arith
named_once ScramSha256 Plain set held = omega arith
named_once External ScramSha512 set held = omega arith
named_once External ScramSha256 set held = omega arith
named_once External External set held = omega (arith, ap if_so held)
named_once External Plain set held = omega arith
named_once Plain ScramSha512 set held = omega arith
named_once Plain ScramSha256 set held = omega arith
named_once Plain External set held = omega arith
named_once Plain Plain set held = omega (arith, ap if_so held)

name_falls : (mechanism : Mechanism) (n : Negotiation) (heard : RegistrationEvent) (s : NegotiationStep) → Shape n heard s
    → said_weight (is_name_of mechanism) s.say + weight mechanism s.negotiation ≤ weight mechanism n
name_falls mechanism n heard s (Silent less none stage by) =
    omega (arith, ap (said_weight (is_name_of mechanism)) none, less.fewer mechanism)
name_falls mechanism n heard s (Speaks said less some other turn by) =
    omega (arith, ap (said_weight (is_name_of mechanism)) some, ap if_so (other_name mechanism said other), less.fewer mechanism)
name_falls mechanism n heard s (Names named m less held is) =
    omega (
      arith,
      ap (λ (t : NegotiationStep). said_weight (is_name_of mechanism) t.say) is,
      ap (λ (t : NegotiationStep). weight mechanism t.negotiation) is,
      named_once mechanism named m.untried held,
      less.fewer mechanism,
    )
name_falls mechanism n heard s (Begins hash less begun turn at) =
    omega (arith, ap (said_weight (is_name_of mechanism)) begun, less.fewer mechanism)
name_falls mechanism n heard s (Tells less some turn none) =
    omega (arith, ap (said_weight (is_name_of mechanism)) some, less.fewer mechanism)
name_falls mechanism n heard s (Ends less some over allowed) =
    omega (arith, ap (said_weight (is_name_of mechanism)) some, less.fewer mechanism)

pub each_once : (mechanism : Mechanism) (n : Negotiation) (heard : List RegistrationEvent)
    → count_of (is_name_of mechanism) (run n heard) ≤ weight mechanism n
each_once mechanism n heard =
    counted (is_name_of mechanism) (weight mechanism) (λ m h. name_falls mechanism m h (step m h) (shape_of m h)) n heard

if_so_one : (b : Bool) → if_so b ≤ 1
if_so_one true = omega arith
if_so_one false = omega arith

pub at_most_once : (mechanism : Mechanism) (n : Negotiation) (heard : List RegistrationEvent)
    → count_of (is_name_of mechanism) (run n heard) ≤ 1
at_most_once mechanism n heard = omega (arith, each_once mechanism n heard, if_so_one (holds_mechanism n.untried mechanism))

-- ---- the password

-- whether PLAIN is to be answered, as a number
abbrev asks_plain : Option Mechanism → ℕ
asks_plain None = 0
asks_plain (Some ScramSha512) = 0
asks_plain (Some ScramSha256) = 0
asks_plain (Some External) = 0
asks_plain (Some Plain) = 1

abbrev plain_left : Negotiation → ℕ
plain_left n = weight Plain n + asks_plain (asked n.stage)

asks_named : (named : Mechanism) → asks_plain (Some named) ≡ if_so (same_mechanism Plain named)
asks_named ScramSha512 = refl
asks_named ScramSha256 = refl
asks_named External = refl
asks_named Plain = refl

asks_less : (n m : Negotiation) → (asked m.stage ≡ None) ⊎ (m.stage ≡ n.stage) → asks_plain (asked m.stage) ≤ asks_plain (asked n.stage)
asks_less n m (inl none) = omega (arith, ap asks_plain none)
asks_less n m (inr stage) = omega (arith, ap (λ (s : Stage). asks_plain (asked s)) stage)

plain_falls : (n : Negotiation) (heard : RegistrationEvent) (s : NegotiationStep) → Shape n heard s
    → said_weight is_plain s.say + plain_left s.negotiation ≤ plain_left n
plain_falls n heard s (Silent less none stage by) =
    omega (arith, ap (said_weight is_plain) none, less.fewer Plain, asks_less n s.negotiation stage)
plain_falls n heard s (Speaks said less some other turn by) =
    omega (arith, ap (said_weight is_plain) some, ap if_so (other_plain said other), less.fewer Plain, ap asks_plain turn)
plain_falls n heard s (Names named m less held is) =
    omega (
      arith,
      ap (λ (t : NegotiationStep). said_weight is_plain t.say) is,
      ap (λ (t : NegotiationStep). plain_left t.negotiation) is,
      asks_named named,
      named_once Plain named m.untried held,
      less.fewer Plain,
    )
plain_falls n heard s (Begins hash less begun turn at) =
    omega (arith, ap (said_weight is_plain) begun, less.fewer Plain, ap (λ (t : Stage). asks_plain (asked t)) at)
plain_falls n heard s (Tells less some turn none) =
    omega (arith, ap (said_weight is_plain) some, less.fewer Plain, ap asks_plain turn, ap asks_plain none)
plain_falls n heard s (Ends less some over allowed) =
    omega (arith, ap (said_weight is_plain) some, less.fewer Plain, ap (λ (t : Stage). asks_plain (asked t)) over)

pub plain_bound : (n : Negotiation) (heard : List RegistrationEvent) → count_of is_plain (run n heard) ≤ plain_left n
plain_bound n heard = counted is_plain plain_left (λ m h. plain_falls m h (step m h) (shape_of m h)) n heard

and_false : (b : Bool) → if_so (b && false) ≡ 0
and_false true = refl
and_false false = refl

pub never_plain : (wants : Bool) (allowed : Mechanisms) (wanted : Capabilities) (heard : List RegistrationEvent)
    → count_of is_plain (run (begun_with wants allowed false wanted) heard) ≡ 0
never_plain wants allowed wanted heard =
    omega (arith, plain_bound (begun_with wants allowed false wanted) heard, and_false allowed.plain)

pub never_named : (wants : Bool) (allowed : Mechanisms) (wanted : Capabilities) (heard : List RegistrationEvent)
    → count_of (is_name_of Plain) (run (begun_with wants allowed false wanted) heard) ≡ 0
never_named wants allowed wanted heard =
    omega (arith, each_once Plain (begun_with wants allowed false wanted) heard, and_false allowed.plain)

-- ---- the end

-- whether the end may still be said, as a number
abbrev end_left : Stage → ℕ
end_left Over = 0
end_left AwaitsList = 1
end_left AwaitsAnswer = 1
end_left AwaitsSasl = 1
end_left (Tries login) = 1
end_left (Failed why) = 1

end_left_one : (stage : Stage) → end_left stage ≤ 1
end_left_one Over = omega arith
end_left_one AwaitsList = omega arith
end_left_one AwaitsAnswer = omega arith
end_left_one AwaitsSasl = omega arith
end_left_one (Tries login) = omega arith
end_left_one (Failed why) = omega arith

end_shape : (n : Negotiation) (heard : RegistrationEvent) (s : NegotiationStep) → Shape n heard s → said_weight is_end s.say + end_left s.negotiation.stage ≤ 1
end_shape n heard s (Silent less none stage by) = omega (arith, ap (said_weight is_end) none, end_left_one s.negotiation.stage)
end_shape n heard s (Speaks said less some other turn by) =
    omega (arith, ap (said_weight is_end) some, ap if_so (other_end said other), end_left_one s.negotiation.stage)
end_shape n heard s (Names named m less held is) =
    omega (arith, ap (λ (t : NegotiationStep). said_weight is_end t.say) is, end_left_one s.negotiation.stage)
end_shape n heard s (Begins hash less begun turn at) = omega (arith, ap (said_weight is_end) begun, end_left_one s.negotiation.stage)
end_shape n heard s (Tells less some turn none) = omega (arith, ap (said_weight is_end) some, end_left_one s.negotiation.stage)
end_shape n heard s (Ends less some over allowed) = omega (arith, ap (said_weight is_end) some, ap end_left over)

end_falls : (n : Negotiation) (heard : RegistrationEvent) (stage : Stage) → n.stage ≡ stage
    → said_weight is_end (step n heard).say + end_left (step n heard).negotiation.stage ≤ end_left stage
end_falls n heard Over at =
    let stay = over_stays n heard at in
    omega (arith, ap (λ (t : NegotiationStep). said_weight is_end t.say) stay, ap (λ (t : NegotiationStep). end_left t.negotiation.stage) stay, ap end_left at)
end_falls n heard AwaitsList at = end_shape n heard (step n heard) (shape_of n heard)
end_falls n heard AwaitsAnswer at = end_shape n heard (step n heard) (shape_of n heard)
end_falls n heard AwaitsSasl at = end_shape n heard (step n heard) (shape_of n heard)
end_falls n heard (Tries login) at = end_shape n heard (step n heard) (shape_of n heard)
end_falls n heard (Failed why) at = end_shape n heard (step n heard) (shape_of n heard)

pub ends_once : (n : Negotiation) (heard : List RegistrationEvent) → count_of is_end (run n heard) ≤ 1
ends_once n heard =
    omega (arith, counted is_end (λ m. end_left m.stage) (λ m h. end_falls m h m.stage refl) n heard, end_left_one n.stage)

-- ---- the end after the login

no_end : (n : Negotiation) (heard : RegistrationEvent) (s : NegotiationStep) → Shape n heard s → n.wants_account ≡ true → if_so (is_logged_in heard) ≡ 0
    → said_weight is_end s.say ≡ 0
no_end n heard s (Silent less none stage by) wants not_in = ap (said_weight is_end) none
no_end n heard s (Speaks said less some other turn by) wants not_in =
    ap (said_weight is_end) some ∙ ap if_so (other_end said other)
no_end n heard s (Names named m less held is) wants not_in = ap (λ (t : NegotiationStep). said_weight is_end t.say) is
no_end n heard s (Begins hash less begun turn at) wants not_in = ap (said_weight is_end) begun
no_end n heard s (Tells less some turn none) wants not_in = ap (said_weight is_end) some
no_end n heard s (Ends less some over (inl none)) wants not_in = cc
no_end n heard s (Ends less some over (inr logged_in)) wants not_in = omega (arith, ap if_so logged_in.0, not_in)

still_wants : (n : Negotiation) (heard : RegistrationEvent) (s : NegotiationStep) → Shape n heard s → s.negotiation.wants_account ≡ n.wants_account
still_wants n heard s (Silent less none stage by) = less.wants
still_wants n heard s (Speaks said less some other turn by) = less.wants
still_wants n heard s (Names named m less held is) = ap (λ (t : NegotiationStep). t.negotiation.wants_account) is ∙ less.wants
still_wants n heard s (Begins hash less begun turn at) = less.wants
still_wants n heard s (Tells less some turn none) = less.wants
still_wants n heard s (Ends less some over allowed) = less.wants

pub no_end_before : (n : Negotiation) (heard : List RegistrationEvent) → n.wants_account ≡ true → count_of is_logged_in heard ≡ 0
    → count_of is_end (run n heard) ≡ 0
no_end_before n [] wants not_in = refl
no_end_before n (heard ∷ later) wants not_in =
    let s = step n heard in
    let shape = shape_of n heard in
    omega (
      arith,
      count_said is_end s.say (run s.negotiation later),
      no_end n heard s shape wants (omega (arith, not_in)),
      no_end_before s.negotiation later (still_wants n heard s shape ∙ wants) (omega (arith, not_in)),
    )

-- ---- a login by SCRAM alone

-- whether a login can end, or may begin, without a SCRAM exchange
abbrev openness : Negotiation → ℕ
openness n = open_of n.stage + weight External n + weight Plain n

open_named : (named : Mechanism) → opens named ≡ if_so (same_mechanism External named) + if_so (same_mechanism Plain named)
open_named ScramSha512 = refl
open_named ScramSha256 = refl
open_named External = refl
open_named Plain = refl

open_go : (named : Mechanism) → open_of (Tries (AwaitsGo named)) ≡ opens named
open_go ScramSha512 = refl
open_go ScramSha256 = refl
open_go External = refl
open_go Plain = refl

open_one : (stage : Stage) → open_of stage ≤ 1
open_one (Tries (AwaitsGo ScramSha512)) = omega arith
open_one (Tries (AwaitsGo ScramSha256)) = omega arith
open_one (Tries (AwaitsGo External)) = omega arith
open_one (Tries (AwaitsGo Plain)) = omega arith
open_one (Tries (AwaitsFirst hash)) = omega arith
open_one (Tries Derives) = omega arith
open_one (Tries AwaitsFinal) = omega arith
open_one (Tries AwaitsResult) = omega arith
open_one AwaitsList = omega arith
open_one AwaitsAnswer = omega arith
open_one AwaitsSasl = omega arith
open_one Over = omega arith
open_one (Failed why) = omega arith

open_falls : (n : Negotiation) (heard : RegistrationEvent) (s : NegotiationStep) → Shape n heard s → n.wants_account ≡ true
    → said_weight is_end s.say + openness s.negotiation ≤ openness n + if_so (is_final_taken heard)
open_falls n heard s (Silent less none stage by) wants =
    omega (arith, ap (said_weight is_end) none, by, less.fewer External, less.fewer Plain)
open_falls n heard s (Speaks said less some other turn by) wants =
    omega (arith, ap (said_weight is_end) some, ap if_so (other_end said other), by, less.fewer External, less.fewer Plain)
open_falls n heard s (Names named m less held is) wants =
    omega (
      arith,
      ap (λ (t : NegotiationStep). said_weight is_end t.say) is,
      ap (λ (t : NegotiationStep). openness t.negotiation) is,
      open_go named,
      open_named named,
      named_once External named m.untried held,
      named_once Plain named m.untried held,
      less.fewer External,
      less.fewer Plain,
    )
open_falls n heard s (Begins hash less begun turn at) wants =
    omega (arith, ap (said_weight is_end) begun, ap open_of at, less.fewer External, less.fewer Plain)
open_falls n heard s (Tells less some turn none) wants =
    omega (arith, ap (said_weight is_end) some, asked_open n.stage Plain turn, open_one s.negotiation.stage, less.fewer External, less.fewer Plain)
open_falls n heard s (Ends less some over (inl none)) wants = cc
open_falls n heard s (Ends less some over (inr logged_in)) wants =
    omega (arith, ap (said_weight is_end) some, ap open_of over, logged_in.1, less.fewer External, less.fewer Plain)

pub ends_shown : (n : Negotiation) (heard : List RegistrationEvent) → n.wants_account ≡ true
    → count_of is_end (run n heard) ≤ openness n + count_of is_final_taken heard
ends_shown n [] wants = omega arith
ends_shown n (heard ∷ later) wants =
    let s = step n heard in
    let shape = shape_of n heard in
    omega (
      arith,
      count_said is_end s.say (run s.negotiation later),
      open_falls n heard s shape wants,
      ends_shown s.negotiation later (still_wants n heard s shape ∙ wants),
    )

pub shown_before : (allowed : Mechanisms) (is_private : Bool) (wanted : Capabilities) (heard : List RegistrationEvent)
    → allowed.external ≡ false → allowed.plain ≡ false → count_of is_final_taken heard ≡ 0
    → count_of is_end (run (begun_with true allowed is_private wanted) heard) ≡ 0
shown_before allowed is_private wanted heard no_external no_plain not_taken =
    omega (
      arith,
      ends_shown (begun_with true allowed is_private wanted) heard refl,
      ap if_so no_external,
      ap (λ (b : Bool). if_so (b && is_private)) no_plain,
      not_taken,
    )

-- ---- each nonce once

other_first : (hash : ScramHash) (said : Say) → is_other said ≡ true → is_first hash said ≡ false
other_first hash (say.Request set) other = refl
other_first hash say.RequestSasl other = refl
other_first hash (say.Name mechanism) other = cc
other_first hash (say.First begun) other = cc
other_first hash say.Final other = refl
other_first hash say.Plain other = cc
other_first hash say.Empty other = refl
other_first hash say.End other = cc

-- whether this mechanism is to be answered, as a number
abbrev asks : Mechanism → Option Mechanism → ℕ
asks mechanism None = 0
asks mechanism (Some named) = if_so (same_mechanism mechanism named)

abbrev first_left : ScramHash → Negotiation → ℕ
first_left hash n = weight (scram_mechanism hash) n + asks (scram_mechanism hash) (asked n.stage)

asks_fewer : (mechanism : Mechanism) (n m : Negotiation) → (asked m.stage ≡ None) ⊎ (m.stage ≡ n.stage)
    → asks mechanism (asked m.stage) ≤ asks mechanism (asked n.stage)
asks_fewer mechanism n m (inl none) = omega (arith, ap (asks mechanism) none)
asks_fewer mechanism n m (inr stage) = omega (arith, ap (λ (s : Stage). asks mechanism (asked s)) stage)

same_exchange : (hash begun : ScramHash) → same_mechanism (scram_mechanism hash) (scram_mechanism begun) ≡ same_hash hash begun
same_exchange Sha512 Sha512 = refl
same_exchange Sha512 Sha256 = refl
same_exchange Sha256 Sha512 = refl
same_exchange Sha256 Sha256 = refl

first_falls : (hash : ScramHash) (n : Negotiation) (heard : RegistrationEvent) (s : NegotiationStep) → Shape n heard s
    → said_weight (is_first hash) s.say + first_left hash s.negotiation ≤ first_left hash n
first_falls hash n heard s (Silent less none stage by) =
    omega (arith, ap (said_weight (is_first hash)) none, less.fewer (scram_mechanism hash), asks_fewer (scram_mechanism hash) n s.negotiation stage)
first_falls hash n heard s (Speaks said less some other turn by) =
    omega (
      arith,
      ap (said_weight (is_first hash)) some,
      ap if_so (other_first hash said other),
      less.fewer (scram_mechanism hash),
      ap (asks (scram_mechanism hash)) turn,
    )
first_falls hash n heard s (Names named m less held is) =
    omega (
      arith,
      ap (λ (t : NegotiationStep). said_weight (is_first hash) t.say) is,
      ap (λ (t : NegotiationStep). first_left hash t.negotiation) is,
      named_once (scram_mechanism hash) named m.untried held,
      less.fewer (scram_mechanism hash),
    )
first_falls hash n heard s (Begins begun less some turn at) =
    omega (
      arith,
      ap (said_weight (is_first hash)) some,
      less.fewer (scram_mechanism hash),
      ap (asks (scram_mechanism hash)) turn,
      ap if_so (same_exchange hash begun),
      ap (λ (t : Stage). asks (scram_mechanism hash) (asked t)) at,
    )
first_falls hash n heard s (Tells less some turn none) =
    omega (arith, ap (said_weight (is_first hash)) some, less.fewer (scram_mechanism hash), ap (asks (scram_mechanism hash)) none)
first_falls hash n heard s (Ends less some over allowed) =
    omega (
      arith,
      ap (said_weight (is_first hash)) some,
      less.fewer (scram_mechanism hash),
      ap (λ (t : Stage). asks (scram_mechanism hash) (asked t)) over,
    )

first_bound : (hash : ScramHash) (n : Negotiation) (heard : List RegistrationEvent) → count_of (is_first hash) (run n heard) ≤ first_left hash n
first_bound hash n heard =
    counted (is_first hash) (first_left hash) (λ m h. first_falls hash m h (step m h) (shape_of m h)) n heard

pub nonce_once : (hash : ScramHash) (wants : Bool) (allowed : Mechanisms) (is_private : Bool) (wanted : Capabilities) (heard : List RegistrationEvent)
    → count_of (is_first hash) (run (begun_with wants allowed is_private wanted) heard) ≤ 1
nonce_once hash wants allowed is_private wanted heard =
    omega (
      arith,
      first_bound hash (begun_with wants allowed is_private wanted) heard,
      if_so_one (holds_mechanism (allowed_on is_private allowed) (scram_mechanism hash)),
    )
