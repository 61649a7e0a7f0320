-- The calls of occasions, one after another.
--
-- Each event of a message, each minute and each text of a bot calls the binds of its kind, oldest first; a due timer
-- calls the proc that it names. If a raw proc answers 1, nothing follows the raw event. With the setting `exclusive`,
-- the first word of a text calls nothing if a proc was called for the whole of that text.
use Rattle.std.specs.Prelude.{ℕ, None, Bool, true, false, not, ◌&&◌, ◌||◌, if◌then◌else◌, List, [], ◌∷◌, ◌++◌, length, ◌==◌}
use Rattle.std.specs.List.{list_any}
use Rattle.rfccase.specs.declared.casemappings.Casemapping.{Casemapping}
use Rattle.userfile.specs.declared.user.User.{User}
use Rattle.chanstate.specs.declared.event.IrcEvent.{IrcEvent}
use Rattle.procs.specs.declared.call.Call.{Call}
use Rattle.procs.specs.declared.call_kind.CallKind.{CallKind}
use Rattle.procs.specs.declared.call_kind.CallKind.TheVariants.{Raw, Msg, Msgm, Notc, Pub, Pubm}
use Rattle.procs.specs.declared.reply.Code.{Code}
use Rattle.procs.specs.declared.reply.Code.TheVariants.{Zero, One}
use Rattle.procs.specs.declared.bind.Bind.{Bind}
use Rattle.procs.specs.Calls.{Occurrence, called}
use Rattle.procs.specs.declared.next.Next.{Next}
use Rattle.procs.specs.declared.next.Next.TheVariants.{Stop, Go}
use Rattle.procs.specs.declared.trigger.Trigger.{Trigger}
use Rattle.procs.specs.declared.trigger.Trigger.TheVariants.{Heard, Due, Time, Cron, Said}
use Rattle.procs.specs.Tellings.{Entry, Telling, told_proc, told_all, calls_in}
use Rattle.procs.specs.Heard.{Person, kind_of, is_personal, person_of, call_by}
use Rattle.procs.specs.Occasions.{time_seen, cron_seen, said_seen, due_call, time_call, cron_call, said_call, kind_for}

-- everything that calls depend on, other than the occasions
pub record Setting : Type 0 where
  -- the code of each answer, by the promise
  pub code_of : List ℕ → Call → Code
  -- the names of the store's procs
  pub names : List (List ℕ)
  -- the casemapping of the bot's server, by which hostmasks match
  pub mapping : Casemapping
  pub users : List User
  pub binds : List Bind
  pub exclusive : Bool

-- ---- one occasion

-- what binds see of an event
abbrev pub occurrence_of : IrcEvent → Person → Occurrence
occurrence_of event person =
    record {
      kind = kind_of event.kind;
      subject = event.subject;
      minute = None;
      global = person.flags.global;
      channel = person.flags.chan;
      bot = person.flags.bot;
    }

-- the results of the binds that an event by a person calls, oldest first
abbrev pub told_by_person : Setting → IrcEvent → Person → List Telling
told_by_person setting event person =
    told_all setting.code_of setting.names (call_by person.handle event) (called (occurrence_of event person) setting.binds)

abbrev pub told_heard : Setting → IrcEvent → List Telling
told_heard setting event = told_by_person setting event (person_of setting.mapping setting.users event)

-- the results of the binds that this event calls, with this call
abbrev pub told_seen : Setting → Occurrence → Call → List Telling
told_seen setting seen call = told_all setting.code_of setting.names call (called seen setting.binds)

-- the proc of a timer with its text, without a bind
abbrev pub told_due : Setting → List ℕ → List ℕ → List Telling
told_due setting proc text = told_proc setting.code_of setting.names (due_call text) 0 proc ∷ []

abbrev pub told_alone : Setting → Trigger → List Telling
told_alone setting (Heard event) = told_heard setting event
told_alone setting (Due proc text) = told_due setting proc text
told_alone setting (Time minute) = told_seen setting (time_seen minute) (time_call minute)
told_alone setting (Cron minute) = told_seen setting (cron_seen minute) (cron_call minute)
told_alone setting (Said from text) = told_seen setting (said_seen text) (said_call from text)

-- ---- one occasion after another

-- kinds that depend on a text's first word, kinds that depend on its whole, and raw ones
abbrev pub is_word : CallKind → Bool
is_word Msg = true
is_word Pub = true
is_word other = false

abbrev pub is_whole : CallKind → Bool
is_whole Msgm = true
is_whole Pubm = true
is_whole other = false

abbrev pub is_raw : CallKind → Bool
is_raw Raw = true
is_raw other = false

abbrev pub is_one : Code → Bool
is_one Zero = false
is_one One = true

-- whether a call has code 1
abbrev pub has_one : List Entry → Bool
has_one calls = list_any (λ e. is_one e.code) calls

-- an occasion, given whether the whole of its text is taken: the occasion before it was for the whole text and made a
-- call
abbrev pub told : Setting → Bool → Trigger → List Telling
told setting taken occasion = if setting.exclusive && (taken && is_word (kind_for occasion)) then [] else told_alone setting occasion

-- what follows an occasion with these calls
abbrev pub next_of : CallKind → List Entry → Next
next_of kind calls = if is_raw kind && has_one calls then Stop else Go (is_whole kind && not (length calls == 0))

abbrev pub next_after : CallKind → List Telling → Next
next_after kind tellings = next_of kind (calls_in tellings)

abbrev pub told_from : Setting → Next → List Trigger → List Telling
told_from setting next [] = []
told_from setting Stop (o ∷ os) = []
told_from setting (Go taken) (o ∷ os) = told setting taken o ++ told_from setting (next_after (kind_for o) (told setting taken o)) os

-- the results of all occasions
abbrev pub told_of : Setting → List Trigger → List Telling
told_of setting occasions = told_from setting (Go false) occasions

-- ---- memory

-- whether calling the procs of an occasion allocates: all do but an event by nobody that calls none
abbrev pub takes_memory : Setting → Trigger → Bool
takes_memory setting (Heard event) = is_personal event.kind || not (length (told_heard setting event) == 0)
takes_memory setting (Due proc text) = true
takes_memory setting (Time minute) = true
takes_memory setting (Cron minute) = true
takes_memory setting (Said from text) = true

-- ---- the log

-- kinds whose code 1 keeps a line out of the log
abbrev pub is_silencing : CallKind → Bool
is_silencing Raw = true
is_silencing Msgm = true
is_silencing Notc = true
is_silencing Pubm = true
is_silencing other = false

-- whether a line with these calls is logged
abbrev pub is_logged : List Entry → Bool
is_logged calls = not (list_any (λ e. is_silencing e.call.kind && is_one e.code) calls)

-- ---- what follows a line

-- whether a raw call has code 1, after which the line is not applied to the channel state
abbrev pub has_raw_one : List Entry → Bool
has_raw_one calls = list_any (λ e. is_raw e.call.kind && is_one e.code) calls
