-- What calls procs when a bot handles an event.
use Rattle.std.specs.Prelude.{ℕ, ◌%◌, ◌==◌, ℤ, List, [], ◌∷◌, ◌++◌, map, length, if◌then◌else◌}
use Rattle.std.specs.Prelude.{Option, Some, None, Result, Ok, Err}
use Rattle.ircline.specs.declared.line.Line.TheVariants.{Message as a_message}
use Rattle.chanstate.specs.declared.event.IrcEvent.{IrcEvent as MessageEvent}
use Rattle.chanstate.specs.Events.{events_of}
use Rattle.bytetext.specs.Words.{first_word}
use Rattle.bottimers.specs.Held.{Held, calls_at, passed}
use Rattle.bottimers.specs.Seconds.{seconds_run}
use Rattle.bottimers.specs.Zones.{TzText, minute_at}
use Rattle.protocol.specs.Notes.{Note as Meaning, LinkFault as Meant}
use Rattle.protocol.specs.Notes.Note.{Text as text_note}
use Rattle.protocol.specs.Bots.{Works}
use Rattle.sharelink.specs.BotLinks.{took}
use Rattle.botcore.specs.declared.event.BotEvent.{BotEvent}
use Rattle.botcore.specs.declared.event.BotEvent.TheVariants.{Line, Receive, Clock}
use Rattle.botcore.specs.Bots.{Bot}

pub data Happening : Type 0 where
  -- an event of a message
  Heard : (event : MessageEvent) → Happening
  -- a timer of this proc and text is due
  Due : (proc text : List ℕ) → Happening
  -- a minute begins, by its number from the start of 1970 on the bot's clock: once for time binds and once for cron
  -- binds
  Time : (minute : ℤ) → Happening
  Cron : (minute : ℤ) → Happening
  -- another bot sends this bot a text
  Said : (from : ℕ) → (text : List ℕ) → Happening

-- ---- a text of another bot

pub record Saying : Type 0 where
  pub from : ℕ
  pub text : List ℕ

-- the text that a packet brings to this bot, if it brings one
abbrev pub saying_in : Meaning → Option Saying
saying_in (text_note from text) = Some (record { from = from; text = text })
saying_in other = None

abbrev pub saying_of : Result Meaning Meant → Option Saying
saying_of (Ok note) = saying_in note
saying_of (Err fault) = None

-- a text that begins with a space has no first word, and calls nothing
abbrev pub said : Saying → List Happening
said saying = if length (first_word saying.text) == 0 then [] else Said saying.from saying.text ∷ []

abbrev pub said_if : Option Saying → List Happening
said_if None = []
said_if (Some saying) = said saying

-- ---- the clock

-- A second that begins a minute is a time event and then a cron event of the minute that the clock shows then. A
-- minute that the zone's clock skips has none, and a minute that it shows twice has two of each.
abbrev pub minute_of : TzText → ℕ → List Happening
minute_of zone t = if t % 60 == 0 then Time (minute_at zone t) ∷ Cron (minute_at zone t) ∷ [] else []

-- what happens in a second: the timers that are due, and its minute if one begins
abbrev pub second_of : TzText → ℕ → Held → List Happening
second_of zone t timers = map (λ c. Due c.proc c.text) (calls_at t timers) ++ minute_of zone t

-- what happens in seconds, one after another
abbrev pub seconds_of : TzText → Held → List ℕ → List Happening
seconds_of zone timers [] = []
seconds_of zone timers (t ∷ ts) = second_of zone t timers ++ seconds_of zone (passed t timers) ts

-- the timers after these seconds
abbrev pub passed_all : Held → List ℕ → Held
passed_all timers [] = timers
passed_all timers (t ∷ ts) = passed_all (passed t timers) ts

-- ---- any event

-- the events of a message, the seconds that a reading runs, a text that a packet brings; nothing else calls procs
abbrev pub happenings_of : Bot → BotEvent → List Happening
happenings_of bot (Line (a_message message)) = map Heard (events_of message bot.channels)
happenings_of bot (Receive packet) = said_if (saying_of (took bot.link packet Works).told)
happenings_of bot (Clock now) = seconds_of bot.config.zone bot.timers (seconds_run bot.clock now)
happenings_of bot other = []
