-- What an event of a message by itself comes to.
use Rattle.std.proofs.Common.{◌≡◌, ◌∙◌, ℕ, List, [], ◌∷◌, Some, None, drop, Bool, ap, slice_get}
use Rattle.rfccase.specs.declared.casemappings.Casemapping.{Casemapping}
use Rattle.userfile.specs.declared.user.User.{User}
use Rattle.userfile.specs.declared.flags.PersonFlags.{PersonFlags}
use Rattle.chanstate.specs.declared.event.IrcEvent.{IrcEvent}
use Rattle.procs.specs.declared.call.Call.{Call}
use Rattle.procs.specs.declared.bind_kind.BindKind.{BindKind}
use Rattle.procs.specs.declared.reply.Code.{Code}
use Rattle.procs.specs.declared.bind.Bind.{Bind}
use Rattle.procs.specs.Calls.{Occurrence, called}
use Rattle.procs.specs.Tellings.{told_all}
use Rattle.procs.specs.Heard.{kind_of, person_of, call_by}
use Rattle.procs.specs.Dispatching.{Setting, occurrence_of, told_heard, told_seen}
use Rattle.procs.specs.Dispatched.{setting_of}

-- a list is its first item and the rest
pub first_and_rest : (binds rest : List Bind) (b : Bind) → Some b ≡ slice_get binds 0 → rest ≡ drop 1 binds → b ∷ rest ≡ binds
first_and_rest [] rest b first next = cc
first_and_rest (x ∷ xs) rest b first next = let here : b ≡ x = cc in let after : rest ≡ xs = next in cc

-- the binds that were found by what the event was seen as are those that it calls
pub called-seen : (mapping : Casemapping) (users : List User) (binds found : List Bind) (event : IrcEvent) (flags : PersonFlags) (kind : BindKind) (subject : List ℕ)
    → flags ≡ (person_of mapping users event).flags → kind ≡ kind_of event.kind → subject ≡ event.subject
    → found ≡ called (record { kind = kind; subject = subject; minute = None; global = flags.global; channel = flags.chan; bot = flags.bot }) binds
    → found ≡ called (occurrence_of event (person_of mapping users event)) binds
called-seen mapping users binds found event flags kind subject same_flags same_kind same_subject is =
    is
    ∙ ap (λ (k : BindKind). called (record { kind = k; subject = subject; minute = None; global = flags.global; channel = flags.chan; bot = flags.bot }) binds) same_kind
    ∙ ap (λ (s : List ℕ). called (record { kind = kind_of event.kind; subject = s; minute = None; global = flags.global; channel = flags.chan; bot = flags.bot }) binds)
    same_subject
    ∙ ap
    (λ (f : PersonFlags). called (record { kind = kind_of event.kind; subject = event.subject; minute = None; global = f.global; channel = f.chan; bot = f.bot }) binds)
    same_flags

-- and what they come to is what the event comes to
pub told_heard-found : (code_of : List ℕ → Call → Code) (names : List (List ℕ)) (mapping : Casemapping) (users : List User) (binds found : List Bind)
    (exclusive : Bool) (event : IrcEvent) (handle : List ℕ) (call : Call)
    → handle ≡ (person_of mapping users event).handle → call ≡ call_by handle event
    → found ≡ called (occurrence_of event (person_of mapping users event)) binds
    → told_all code_of names call found ≡ told_heard (setting_of code_of names mapping users binds exclusive) event
told_heard-found code_of names mapping users binds found exclusive event handle call same_handle same_call is =
    ap (told_all code_of names call) is
    ∙ ap (λ (c : Call). told_all code_of names c (called (occurrence_of event (person_of mapping users event)) binds))
    (same_call ∙ ap (λ (h : List ℕ). call_by h event) same_handle)

-- what is seen and called alike comes to the same
pub told_seen-same : (setting : Setting) (a b : Occurrence) (x y : Call) → a ≡ b → x ≡ y → told_seen setting a x ≡ told_seen setting b y
told_seen-same setting a b x y same_seen same_call = ap (λ (o : Occurrence). told_seen setting o x) same_seen ∙ ap (told_seen setting b) same_call
