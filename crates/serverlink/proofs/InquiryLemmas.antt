-- How often the process asks about channels, whatever the server says.
use Rattle.std.proofs.Common.{◌≡◌, ◌≤◌, ◌+◌, ◌||◌, ℕ, not, Bool, true, false, List, [], ◌∷◌, ◌++◌, refl, ap, ◌∙◌, arith, if◌then◌else◌}
use Rattle.std.specs.List.{filter, list_any}
use Rattle.rfccase.specs.declared.casemappings.Casemapping.{Casemapping}
use Rattle.rfccase.specs.Casemapping.{is_same_by}
use Rattle.ircline.specs.declared.message.Message.{Message}
use Rattle.registration.specs.Runs.{count_of, if_so}
use Rattle.serverlink.specs.declared.cue.Cue.{Cue}
use Rattle.serverlink.specs.declared.cue.Cue.TheVariants.{Welcomed, Renamed, Joined, Parted, Kicked, Barred, Forwarded, NickRefused, Refused, Supports, Invited, Nothing}
use Rattle.serverlink.specs.Cues.{param}
use Rattle.serverlink.specs.Inquiries.{Event, Hears, Asks, all_asked, all_joined, announced_by, announces, joined_by, one_of}
use Rattle.serverlink.specs.Questions.{Questions, asked, begun, due, heard, notified, without}

-- ---- how many of these pass a test

count-append : {X : Type 0} (test : X → Bool) (xs ys : List X) → count_of test (xs ++ ys) ≡ count_of test xs + count_of test ys
count-append test [] ys = omega arith
count-append test (x ∷ xs) ys = let rest : count_of test (xs ++ ys) ≡ count_of test xs + count_of test ys = count-append test xs ys in omega arith

kept_count : {X : Type 0} (test : X → Bool) (is : Bool) (x : X) (kept rest : List X) → count_of test kept ≤ count_of test rest
    → count_of test (if is then x ∷ kept else kept) ≤ if_so (test x) + count_of test rest
kept_count test true x kept rest less = omega arith
kept_count test false x kept rest less = omega arith

count-filter : {X : Type 0} (test keeps : X → Bool) (xs : List X) → count_of test (filter keeps xs) ≤ count_of test xs
count-filter test keeps [] = omega arith
count-filter test keeps (x ∷ xs) = kept_count test (keeps x) x (filter keeps xs) xs (count-filter test keeps xs)

-- ---- a message, and a question

joined_count : (test : List ℕ → Bool) (mapping : Casemapping) (name : List ℕ) (channels : List (List ℕ))
    → count_of test (without mapping name channels ++ name ∷ []) ≤ count_of test channels + count_of test (name ∷ [])
joined_count test mapping name channels =
    let all : count_of test (without mapping name channels ++ name ∷ [])
    ≡ count_of test (without mapping name channels) + count_of test (name ∷ []) = count-append test (without mapping name channels) (name ∷ []) in
    let few : count_of test (without mapping name channels) ≤ count_of test channels
    = count-filter test (λ channel. not (is_same_by mapping channel name)) channels in
    omega arith

left_count : (test : List ℕ → Bool) (mapping : Casemapping) (name : List ℕ) (channels : List (List ℕ))
    → count_of test (without mapping name channels) ≤ count_of test channels + 0
left_count test mapping name channels =
    let few : count_of test (without mapping name channels) ≤ count_of test channels
    = count-filter test (λ channel. not (is_same_by mapping channel name)) channels in
    omega arith

same_count : (n : ℕ) → n ≤ n + 0
same_count n = omega arith

heard_count : (test : List ℕ → Bool) (mapping : Casemapping) (cue : Cue) (message : Message) (questions : Questions)
    → count_of test (heard mapping cue message questions).channels ≤ count_of test questions.channels + count_of test (joined_by cue message)
heard_count test mapping Welcomed message questions = omega arith
heard_count test mapping Joined message questions = joined_count test mapping (param message 0) questions.channels
heard_count test mapping Parted message questions = left_count test mapping (param message 0) questions.channels
heard_count test mapping Kicked message questions = left_count test mapping (param message 0) questions.channels
heard_count test mapping Supports message questions = same_count (count_of test questions.channels)
heard_count test mapping Renamed message questions = same_count (count_of test questions.channels)
heard_count test mapping Barred message questions = same_count (count_of test questions.channels)
heard_count test mapping Forwarded message questions = same_count (count_of test questions.channels)
heard_count test mapping NickRefused message questions = same_count (count_of test questions.channels)
heard_count test mapping Refused message questions = same_count (count_of test questions.channels)
heard_count test mapping Invited message questions = same_count (count_of test questions.channels)
heard_count test mapping Nothing message questions = same_count (count_of test questions.channels)

asked_count : (test : List ℕ → Bool) (notifies knows : Bool) (channels : List (List ℕ))
    → count_of test (one_of (due (record { notifies = notifies; knows = knows; channels = channels })))
    + count_of test (asked (record { notifies = notifies; knows = knows; channels = channels })).channels ≡ count_of test channels
asked_count test false knows channels = omega arith
asked_count test true false channels = omega arith
asked_count test true true [] = omega arith
asked_count test true true (channel ∷ channels) = omega arith

-- ---- a whole connection

each_count : (test : List ℕ → Bool) (questions : Questions) (events : List Event)
    → count_of test (all_asked questions events) ≤ count_of test questions.channels + count_of test (all_joined events)
each_count test questions [] = omega arith
each_count test questions (Hears mapping cue message ∷ events) =
    let rest : count_of test (all_asked (heard mapping cue message questions) events)
    ≤ count_of test (heard mapping cue message questions).channels + count_of test (all_joined events)
    = each_count test (heard mapping cue message questions) events in
    let first : count_of test (heard mapping cue message questions).channels
    ≤ count_of test questions.channels + count_of test (joined_by cue message) = heard_count test mapping cue message questions in
    let all : count_of test (joined_by cue message ++ all_joined events)
    ≡ count_of test (joined_by cue message) + count_of test (all_joined events) = count-append test (joined_by cue message) (all_joined events) in
    omega arith
each_count test questions (Asks ∷ events) =
    let rest : count_of test (all_asked (asked questions) events) ≤ count_of test (asked questions).channels + count_of test (all_joined events)
    = each_count test (asked questions) events in
    let first : count_of test (one_of (due questions)) + count_of test (asked questions).channels ≡ count_of test questions.channels
    = asked_count test questions.notifies questions.knows questions.channels in
    let all : count_of test (one_of (due questions) ++ all_asked (asked questions) events)
    ≡ count_of test (one_of (due questions)) + count_of test (all_asked (asked questions) events)
    = count-append test (one_of (due questions)) (all_asked (asked questions) events) in
    omega arith

pub asked_once : (notifies : Bool) (test : List ℕ → Bool) (events : List Event)
    → count_of test (all_asked (notified notifies begun) events) ≤ count_of test (all_joined events)
asked_once notifies test events =
    let all : count_of test (all_asked (notified notifies begun) events) ≤ 0 + count_of test (all_joined events)
    = each_count test (notified notifies begun) events in
    omega arith

-- ---- a server without WHOX

first_no : (x y : Bool) → x || y ≡ false → x ≡ false
first_no true y neither = neither
first_no false y neither = refl

second_no : (x y : Bool) → x || y ≡ false → y ≡ false
second_no true y neither = absurd cc
second_no false y neither = neither

heard_unknown : (mapping : Casemapping) (cue : Cue) (message : Message) (questions : Questions) → questions.knows ≡ false
    → announced_by cue message ≡ false → (heard mapping cue message questions).knows ≡ false
heard_unknown mapping Welcomed message questions unknown none = refl
heard_unknown mapping Joined message questions unknown none = unknown
heard_unknown mapping Parted message questions unknown none = unknown
heard_unknown mapping Kicked message questions unknown none = unknown
heard_unknown mapping Supports message questions unknown none = ap (λ (knows : Bool). knows || announced_by Supports message) unknown ∙ none
heard_unknown mapping Renamed message questions unknown none = unknown
heard_unknown mapping Barred message questions unknown none = unknown
heard_unknown mapping Forwarded message questions unknown none = unknown
heard_unknown mapping NickRefused message questions unknown none = unknown
heard_unknown mapping Refused message questions unknown none = unknown
heard_unknown mapping Invited message questions unknown none = unknown
heard_unknown mapping Nothing message questions unknown none = unknown

none_due : (notifies knows : Bool) (channels : List (List ℕ)) → knows ≡ false
    → (one_of (due (record { notifies = notifies; knows = knows; channels = channels })) ≡ [])
    × ((asked (record { notifies = notifies; knows = knows; channels = channels })).knows ≡ false)
none_due false knows channels unknown = (refl, unknown)
none_due true false channels unknown = (refl, refl)
none_due true true channels unknown = absurd cc

none_asked : (questions : Questions) (events : List Event) → questions.knows ≡ false → list_any announces events ≡ false → all_asked questions events ≡ []
none_asked questions [] unknown none = refl
none_asked questions (Hears mapping cue message ∷ events) unknown none =
    none_asked (heard mapping cue message questions) events
    (heard_unknown mapping cue message questions unknown (first_no (announced_by cue message) (list_any announces events) none))
    (second_no (announced_by cue message) (list_any announces events) none)
none_asked questions (Asks ∷ events) unknown none =
    let nothing : (one_of (due questions) ≡ []) × ((asked questions).knows ≡ false) = none_due questions.notifies questions.knows questions.channels unknown in
    ap (λ (channels : List (List ℕ)). channels ++ all_asked (asked questions) events) nothing.0 ∙ none_asked (asked questions) events nothing.1 none

pub none_unannounced : (notifies : Bool) (events : List Event) → list_any announces events ≡ false → all_asked (notified notifies begun) events ≡ []
none_unannounced notifies events none = none_asked (notified notifies begun) events refl none

-- ---- a server that does not say when somebody logs in or out

heard_stale : (mapping : Casemapping) (cue : Cue) (message : Message) (questions : Questions) → questions.notifies ≡ false
    → (heard mapping cue message questions).notifies ≡ false
heard_stale mapping Welcomed message questions stale = stale
heard_stale mapping Joined message questions stale = stale
heard_stale mapping Parted message questions stale = stale
heard_stale mapping Kicked message questions stale = stale
heard_stale mapping Supports message questions stale = stale
heard_stale mapping Renamed message questions stale = stale
heard_stale mapping Barred message questions stale = stale
heard_stale mapping Forwarded message questions stale = stale
heard_stale mapping NickRefused message questions stale = stale
heard_stale mapping Refused message questions stale = stale
heard_stale mapping Invited message questions stale = stale
heard_stale mapping Nothing message questions stale = stale

stale_due : (notifies knows : Bool) (channels : List (List ℕ)) → notifies ≡ false
    → (one_of (due (record { notifies = notifies; knows = knows; channels = channels })) ≡ [])
    × ((asked (record { notifies = notifies; knows = knows; channels = channels })).notifies ≡ false)
stale_due false knows channels stale = (refl, refl)
stale_due true knows channels stale = absurd cc

none_stale : (questions : Questions) (events : List Event) → questions.notifies ≡ false → all_asked questions events ≡ []
none_stale questions [] stale = refl
none_stale questions (Hears mapping cue message ∷ events) stale =
    none_stale (heard mapping cue message questions) events (heard_stale mapping cue message questions stale)
none_stale questions (Asks ∷ events) stale =
    let nothing : (one_of (due questions) ≡ []) × ((asked questions).notifies ≡ false)
    = stale_due questions.notifies questions.knows questions.channels stale in
    ap (λ (channels : List (List ℕ)). channels ++ all_asked (asked questions) events) nothing.0 ∙ none_stale (asked questions) events nothing.1

pub none_unnotified : (events : List Event) → all_asked (notified false begun) events ≡ []
none_unnotified events = none_stale (notified false begun) events refl
