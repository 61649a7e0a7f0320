-- The calls of occasions don't depend on the numbers of binds.
use Rattle.std.proofs.Common.{◌≡◌, ℕ, suc, ◌==◌, Bool, true, false, not, ◌&&◌, ◌||◌, if◌then◌else◌, List, [], ◌∷◌, ◌++◌, length, map}
use Rattle.std.proofs.Common.{refl, ap, sym, ◌∙◌}
use Rattle.std.proofs.lemmas.List.{map-append}
use Rattle.std.proofs.lemmas.List.Elements.{filter_map-append}
use Rattle.std.specs.List.{list_any}
use Rattle.procs.specs.declared.call.Call.{Call}
use Rattle.procs.specs.declared.call_kind.CallKind.{CallKind}
use Rattle.procs.specs.declared.call_kind.CallKind.TheVariants.{Raw}
use Rattle.procs.specs.declared.reply.Code.{Code}
use Rattle.procs.specs.Calling.{holds}
use Rattle.procs.specs.declared.bind.Bind.{Bind}
use Rattle.procs.specs.Calls.{Occurrence, is_called, called}
use Rattle.procs.specs.Tables.{Asked, with_number}
use Rattle.procs.specs.declared.trigger.Trigger.{Trigger}
use Rattle.procs.specs.declared.trigger.Trigger.TheVariants.{Heard, Due, Time, Cron, Said}
use Rattle.procs.specs.Tellings.{Entry, Telling, told_all, called_in, calls_in}
use Rattle.procs.specs.Dispatching.{Setting, occurrence_of, told_seen, told_alone, told, is_word, is_one, has_one, is_raw, is_whole, next_of, told_from, told_of}
use Rattle.procs.specs.Heard.{person_of, call_by}
use Rattle.procs.specs.Occasions.{time_seen, cron_seen, said_seen, time_call, cron_call, said_call, kind_for}
use Rattle.botworld.specs.Calling.{ProcCall, asked_in}

-- what tellings come to, whichever binds they are of
abbrev pub proc_call_of : Entry → ProcCall
proc_call_of entry = record { proc = entry.proc; call = entry.call; code = entry.code }

abbrev pub proc_calls : List Telling → List ProcCall
proc_calls tellings = map proc_call_of (calls_in tellings)

-- a bind under no number
abbrev plain : Bind → Bind
plain bind = with_number (asked_in bind) 0

abbrev plain_setting : Setting → Setting
plain_setting setting = record setting { binds = map plain setting.binds }

-- binds ----------------------------------------------------------------------------------------------------------------

called-plain : (event : Occurrence) (binds : List Bind) → called event (map plain binds) ≡ map plain (called event binds)
called-plain event [] = refl
called-plain event (b ∷ binds) = by (called-plain event binds) (is_called event b)
  where
    by : called event (map plain binds) ≡ map plain (called event binds) → (t : Bool)
        → (if t then plain b ∷ called event (map plain binds) else called event (map plain binds))
        ≡ map plain (if t then b ∷ called event binds else called event binds)
    by rest true = ap (λ (bs : List Bind). plain b ∷ bs) rest
    by rest false = rest

told_all-plain : (code_of : List ℕ → Call → Code) (names : List (List ℕ)) (call : Call) (binds : List Bind)
    → proc_calls (told_all code_of names call (map plain binds)) ≡ proc_calls (told_all code_of names call binds)
told_all-plain code_of names call [] = refl
told_all-plain code_of names call (b ∷ binds) =
    by (told_all-plain code_of names call binds) (holds names b.proc) refl
  where
    by : proc_calls (told_all code_of names call (map plain binds)) ≡ proc_calls (told_all code_of names call binds) → (t : Bool) → holds names b.proc ≡ t
        → proc_calls (told_all code_of names call (map plain (b ∷ binds))) ≡ proc_calls (told_all code_of names call (b ∷ binds))
    by rest true e = rw e (ap (λ (cs : List ProcCall). record { proc = b.proc; call = call; code = code_of b.proc call } ∷ cs) rest)
    by rest false e = rw e rest

told_seen-plain : (setting : Setting) (seen : Occurrence) (call : Call)
    → proc_calls (told_seen (plain_setting setting) seen call) ≡ proc_calls (told_seen setting seen call)
told_seen-plain setting seen call =
    ap (λ (bs : List Bind). proc_calls (told_all setting.code_of setting.names call bs)) (called-plain seen setting.binds)
    ∙ told_all-plain setting.code_of setting.names call (called seen setting.binds)

told_alone-plain : (setting : Setting) (occasion : Trigger)
    → proc_calls (told_alone (plain_setting setting) occasion) ≡ proc_calls (told_alone setting occasion)
told_alone-plain setting (Heard event) =
    let person = person_of setting.mapping setting.users event in told_seen-plain setting (occurrence_of event person) (call_by person.handle event)
told_alone-plain setting (Due proc text) = refl
told_alone-plain setting (Time minute) = told_seen-plain setting (time_seen minute) (time_call minute)
told_alone-plain setting (Cron minute) = told_seen-plain setting (cron_seen minute) (cron_call minute)
told_alone-plain setting (Said from text) = told_seen-plain setting (said_seen text) (said_call from text)

-- occasions ------------------------------------------------------------------------------------------------------------

told-plain : (setting : Setting) (taken : Bool) (occasion : Trigger) → proc_calls (told (plain_setting setting) taken occasion) ≡ proc_calls (told setting taken occasion)
told-plain setting taken occasion = by (setting.exclusive && (taken && is_word (kind_for occasion)))
  where
    by : (t : Bool) → proc_calls (if t then [] else told_alone (plain_setting setting) occasion) ≡ proc_calls (if t then [] else told_alone setting occasion)
    by true = refl
    by false = told_alone-plain setting occasion

has_one-proc_calls : (calls : List Entry) → has_one calls ≡ list_any (λ (c : ProcCall). is_one c.code) (map proc_call_of calls)
has_one-proc_calls [] = refl
has_one-proc_calls (c ∷ calls) = by (has_one-proc_calls calls) (is_one c.code)
  where
    by : has_one calls ≡ list_any (λ (c : ProcCall). is_one c.code) (map proc_call_of calls) → (t : Bool)
        → (t || has_one calls) ≡ (t || list_any (λ (c : ProcCall). is_one c.code) (map proc_call_of calls))
    by rest true = refl
    by rest false = rest

length-proc_calls : (calls : List Entry) → length (map proc_call_of calls) ≡ length calls
length-proc_calls [] = refl
length-proc_calls (c ∷ calls) = ap suc (length-proc_calls calls)

-- what follows depends on the calls alone
next_of-alike : (kind : CallKind) (a b : List Entry) → map proc_call_of a ≡ map proc_call_of b → next_of kind a ≡ next_of kind b
next_of-alike kind a b e =
    let ones : has_one a ≡ has_one b =
    has_one-proc_calls a ∙ ap (list_any (λ (c : ProcCall). is_one c.code)) e ∙ sym (has_one-proc_calls b) in
    let counts : length a ≡ length b = sym (length-proc_calls a) ∙ ap length e ∙ length-proc_calls b in
    rw (ones, counts) refl

proc_calls-append : (xs ys : List Telling) → proc_calls (xs ++ ys) ≡ proc_calls xs ++ proc_calls ys
proc_calls-append xs ys = ap (map proc_call_of) (filter_map-append called_in xs ys) ∙ map-append proc_call_of (calls_in xs) (calls_in ys)

-- an occasion, and those that follow it
occasion-plain : (setting : Setting) (taken : Bool) (e : Trigger) (es : List Trigger)
    → (let n = next_of (kind_for e) (calls_in (told setting taken e)) in
    proc_calls (told_from (plain_setting setting) n es) ≡ proc_calls (told_from setting n es))
    → proc_calls (told (plain_setting setting) taken e
    ++ told_from (plain_setting setting) (next_of (kind_for e) (calls_in (told (plain_setting setting) taken e))) es)
    ≡ proc_calls (told setting taken e ++ told_from setting (next_of (kind_for e) (calls_in (told setting taken e))) es)
occasion-plain setting taken e es rest =
    let here = told (plain_setting setting) taken e in
    let there = told setting taken e in
    let first : proc_calls here ≡ proc_calls there = told-plain setting taken e in
    let after : next_of (kind_for e) (calls_in here) ≡ next_of (kind_for e) (calls_in there) =
    next_of-alike (kind_for e) (calls_in here) (calls_in there) first in
    proc_calls-append here (told_from (plain_setting setting) (next_of (kind_for e) (calls_in here)) es)
    ∙ ap (λ (cs : List ProcCall). cs ++ proc_calls (told_from (plain_setting setting) (next_of (kind_for e) (calls_in here)) es)) first
    ∙ ap (λ n. proc_calls there ++ proc_calls (told_from (plain_setting setting) n es)) after
    ∙ ap (λ (cs : List ProcCall). proc_calls there ++ cs) rest
    ∙ sym (proc_calls-append there (told_from setting (next_of (kind_for e) (calls_in there)) es))

-- the occasions that follow one of this kind, which came to these calls
told_from-plain : (setting : Setting) (kind : CallKind) (calls : List Entry) (occasions : List Trigger)
    → proc_calls (told_from (plain_setting setting) (next_of kind calls) occasions) ≡ proc_calls (told_from setting (next_of kind calls) occasions)
told_from-plain setting kind calls [] = refl
told_from-plain setting kind calls (e ∷ es) =
    let taken = is_whole kind && not (length calls == 0) in
    by (occasion-plain setting taken e es (told_from-plain setting (kind_for e) (calls_in (told setting taken e)) es)) (is_raw kind && has_one calls) refl
  where
    by : (let taken = is_whole kind && not (length calls == 0) in
        proc_calls (told (plain_setting setting) taken e
        ++ told_from (plain_setting setting) (next_of (kind_for e) (calls_in (told (plain_setting setting) taken e))) es)
        ≡ proc_calls (told setting taken e ++ told_from setting (next_of (kind_for e) (calls_in (told setting taken e))) es))
        → (b : Bool) → (is_raw kind && has_one calls) ≡ b
        → proc_calls (told_from (plain_setting setting) (next_of kind calls) (e ∷ es)) ≡ proc_calls (told_from setting (next_of kind calls) (e ∷ es))
    by go true stops = rw stops refl
    by go false goes = rw goes go

map-plain : (binds : List Bind) → map plain binds ≡ map (λ (a : Asked). with_number a 0) (map asked_in binds)
map-plain [] = refl
map-plain (b ∷ binds) = ap (λ (bs : List Bind). plain b ∷ bs) (map-plain binds)

-- binds that were asked for alike give the same calls
pub told_of-alike : (setting : Setting) (xs ys : List Bind) (occasions : List Trigger) → map asked_in xs ≡ map asked_in ys
    → proc_calls (told_of (record setting { binds = xs }) occasions) ≡ proc_calls (told_of (record setting { binds = ys }) occasions)
told_of-alike setting xs ys occasions alike =
    let same : map plain xs ≡ map plain ys = map-plain xs ∙ ap (map (λ (x : Asked). with_number x 0)) alike ∙ sym (map-plain ys) in
    sym (told_from-plain (record setting { binds = xs }) Raw [] occasions)
    ∙ ap (λ (bs : List Bind). proc_calls (told_of (record setting { binds = bs }) occasions)) same
    ∙ told_from-plain (record setting { binds = ys }) Raw [] occasions
