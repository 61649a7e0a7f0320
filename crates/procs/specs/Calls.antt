-- Which binds an event calls.
use Rattle.std.specs.Prelude.{◌≡◌, ℕ, Bool, true, false, not, ◌&&◌, ◌||◌, if◌then◌else◌, List, map, filter}
use Rattle.std.specs.Prelude.{Option, Some, None}
use Rattle.rfccase.specs.Casemapping.{is_same, IsSame}
use Rattle.wildmask.specs.Masks.{bind_mask, is_match, IsMatch}
use Rattle.bottimers.specs.declared.calendar.CivilMinute.{CivilMinute}
use Rattle.bottimers.specs.CronSets.{Sets, sets_match}
use Rattle.bottimers.specs.CronMask.{mask_matches}
use Rattle.flagexpr.specs.Expression.{expression_of, meets}
use Rattle.procs.specs.declared.bind_kind.BindKind.{BindKind}
use Rattle.procs.specs.declared.bind.Bind.{Bind}
use Rattle.procs.specs.declared.event.BindEvent.{BindEvent}
use Rattle.procs.specs.Kinds.{is_kind, is_single, is_cron, has_flags}

-- an event: its kind, what keywords and wildcards are matched against, the minute that cron fields match, and the
-- person's three sets of flags
pub record Occurrence : Type 0 where
  pub kind : BindKind
  pub subject : List ℕ
  pub minute : Option CivilMinute
  pub global : ℕ
  pub channel : ℕ
  pub bot : ℕ

-- a `BindEvent`, as binds see it
abbrev pub seen : BindEvent → Occurrence
seen event =
    record {
      kind = event.kind;
      subject = event.subject.now;
      minute = event.minute;
      global = event.global;
      channel = event.channel;
      bot = event.bot;
    }

-- whether cron fields match the minute of an event, if it has one
abbrev pub takes_minute : List ℕ → Option CivilMinute → Bool
takes_minute mask None = false
takes_minute mask (Some at) = mask_matches mask at

-- the same of parsed fields
abbrev pub is_minute_in : Sets → Option CivilMinute → Bool
is_minute_in sets None = false
is_minute_in sets (Some at) = sets_match sets at

-- whether a bind's mask matches an event: a bind of a single kind has a keyword, a cron bind has fields for the
-- minute, and any other bind has wildcards
abbrev pub takes_event : Bind → Occurrence → Bool
takes_event b event =
    if is_single b.kind then is_same b.mask event.subject
    else (if is_cron b.kind then takes_minute b.mask event.minute else is_match (bind_mask b.mask) event.subject)

-- whether the person's flags let a bind be called
abbrev pub takes_person : Bind → Occurrence → Bool
takes_person b event = not (has_flags b.kind) || meets (expression_of b.flags) event.global event.channel event.bot

-- whether an event calls a bind
abbrev pub is_called : Occurrence → Bind → Bool
is_called event b = is_kind event.kind b.kind && (takes_event b event && takes_person b event)

-- the binds that an event calls, oldest first
abbrev pub called : Occurrence → List Bind → List Bind
called event binds = filter (is_called event) binds

abbrev pub numbers_of : List Bind → List ℕ
numbers_of binds = map (λ b. b.number) binds

-- ---- the same in words

-- a keyword is the same by casemapping; cron fields match a minute; wildcards match
abbrev pub IsTaken : Bool → Bool → Bind → Occurrence → Type 0
IsTaken true cron b event = IsSame b.mask event.subject
IsTaken false true b event = takes_minute b.mask event.minute ≡ true
IsTaken false false b event = IsMatch (bind_mask b.mask) event.subject

-- an event calls a bind if it has the bind's kind, the bind's mask matches it, and the person meets the bind's flag
-- expression, unless flags don't matter
pub record Calls (event : Occurrence) (b : Bind) : Type 0 where
  pub kind : event.kind ≡ b.kind
  pub mask : IsTaken (is_single b.kind) (is_cron b.kind) b event
  pub flags : has_flags b.kind ≡ true → meets (expression_of b.flags) event.global event.channel event.bot ≡ true
