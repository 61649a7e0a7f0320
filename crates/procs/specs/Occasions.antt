-- What binds and procs see of an occasion.
use Rattle.std.specs.Prelude.{ℕ, ◌==◌, List, [], ◌∷◌, ◌++◌, Option, Some, None, if◌then◌else◌, codes, decimal}
use Rattle.bytetext.specs.Words.{first_word, after_word}
use Rattle.bottimers.specs.declared.calendar.CivilMinute.{CivilMinute}
use Rattle.bottimers.specs.Civil.{time_line, time_words, cron_words}
use Rattle.procs.specs.declared.call.Call.{Call}
use Rattle.procs.specs.declared.call_kind.CallKind.{CallKind}
use Rattle.procs.specs.declared.call_kind.CallKind.TheVariants.{Timer as timer_call, Time as time_kind, Cron as cron_kind, Bot as bot_kind}
use Rattle.procs.specs.declared.bind_kind.BindKind.{BindKind}
use Rattle.procs.specs.declared.bind_kind.BindKind.TheVariants.{Bot as bot_bind, Time as time_bind, Cron as cron_bind}
use Rattle.procs.specs.Calls.{Occurrence}
use Rattle.procs.specs.Kinds.{call_kind_of}
use Rattle.procs.specs.declared.trigger.Trigger.{Trigger}
use Rattle.procs.specs.declared.trigger.Trigger.TheVariants.{Heard, Due, Time, Cron, Said}
use Rattle.procs.specs.Heard.{kind_of}

-- ---- what binds see of occasions that are by nobody

abbrev pub by_nobody : BindKind → List ℕ → Option CivilMinute → Occurrence
by_nobody kind subject minute = record { kind = kind; subject = subject; minute = minute; global = 0; channel = 0; bot = 0 }

-- a time bind matches the time text, and a cron bind the minute
abbrev pub time_seen : CivilMinute → Occurrence
time_seen minute = by_nobody time_bind (time_line minute) None

abbrev pub cron_seen : CivilMinute → Occurrence
cron_seen minute = by_nobody cron_bind [] (Some minute)

-- a bot bind matches the first word
abbrev pub said_seen : List ℕ → Occurrence
said_seen text = by_nobody bot_bind (first_word text) None

-- ---- the calls of procs

abbrev pub due_call : List ℕ → Call
due_call text = record { kind = timer_call; args = text ∷ [] }

abbrev pub time_call : CivilMinute → Call
time_call minute = record { kind = time_kind; args = time_words minute }

abbrev pub cron_call : CivilMinute → Call
cron_call minute = record { kind = cron_kind; args = cron_words minute }

-- bot 0 is the hub
abbrev pub bot_name : ℕ → List ℕ
bot_name number = if number == 0 then codes "hub" else codes "leaf" ++ decimal number

-- the bot that says it, the first word, and what follows it and the spaces after it
abbrev pub said_call : ℕ → List ℕ → Call
said_call from text = record { kind = bot_kind; args = bot_name from ∷ first_word text ∷ after_word text ∷ [] }

-- the kind of its calls
abbrev pub kind_for : Trigger → CallKind
kind_for (Heard event) = call_kind_of (kind_of event.kind)
kind_for (Due proc text) = timer_call
kind_for (Time minute) = time_kind
kind_for (Cron minute) = cron_kind
kind_for (Said from text) = bot_kind
