-- Events that call nothing and bring nothing, and asks, for which room is kept: a bot does not allocate for them.
use Rattle.std.specs.Prelude.{◌≡◌, ◌≢◌, ℕ, ◌%◌, ◌==◌, Bool, true, false, not, ◌&&◌, List, []}
use Rattle.std.specs.List.{list_all, list_any}
use Rattle.bottimers.specs.declared.timer.Timer.{Timer}
use Rattle.bottimers.specs.Occurrences.{is_due}
use Rattle.bottimers.specs.Seconds.{seconds_run}
use Rattle.ircline.specs.declared.line.Line.TheVariants.{Message as a_message, Bad as a_bad_line}
use Rattle.ircline.specs.declared.message.Message.{Message}
use Rattle.chanstate.specs.Memory.{takes_memory}
use Rattle.chanstate.specs.Views.{connected}
use Rattle.procs.specs.Hearing.{hear_messages}
use Rattle.botcore.specs.declared.event.BotEvent.{BotEvent}
use Rattle.botcore.specs.declared.event.BotEvent.TheVariants.{Connect, Line, Ask, Pump, Receive, Clock, Bind, Unbind, Compact, Restart}
use Rattle.botcore.specs.Automatic.{automatic_lines, watched_in}
use Rattle.botcore.specs.Bots.{Bot}
use Rattle.botcore.specs.Leaving.{most_of, leaving}
use Rattle.botcore.specs.Links.{link_records}

-- a message that calls no proc, makes the bot queue no line and check no ban, and brings no text to keep; what a bot
-- knows of its channels is made at the first message after it connected
pub record BringsNothing (bot : Bot) (message : Message) : Type 0 where
  pub calls : hear_messages bot.binds.binds ≡ false
  pub lines : automatic_lines bot.config bot.channels (link_records bot.link).bans bot.clock bot.welcomed message ≡ []
  pub watches : watched_in message bot.channels ≡ []
  pub keeps : takes_memory message bot.channels ≡ false
  pub begun : bot.channels ≢ connected bot.config.nick

-- a second at which no timer is due, and which begins no minute
abbrev pub is_still : List Timer → ℕ → Bool
is_still timers t = not (t % 60 == 0) && not (list_any (is_due t) timers)

-- a reading whose seconds are all like that
abbrev pub is_still_until : Bot → ℕ → Bool
is_still_until bot now = list_all (is_still bot.timers.timers) (seconds_run bot.clock now)

-- a reading that calls no proc, and at which no line may go
pub record PassesQuietly (bot : Bot) (now : ℕ) : Type 0 where
  pub calls : is_still_until bot now ≡ true
  pub lines : leaving (most_of bot) bot.queues now ≡ []

-- an event for whose calls and content the bot does not allocate, or an ask; for others the step's own rule says when
-- it does not allocate
abbrev pub NeedsNone : Bot → BotEvent → Type 0
NeedsNone bot (Line (a_message message)) = BringsNothing bot message
NeedsNone bot (Line (a_bad_line fault)) = ⊥
NeedsNone bot (Clock now) = PassesQuietly bot now
NeedsNone bot Connect = ⊥
NeedsNone bot (Ask change) = Unit {0}
NeedsNone bot Pump = ⊥
NeedsNone bot (Receive packet) = ⊥
NeedsNone bot (Bind asked) = ⊥
NeedsNone bot (Unbind gone) = ⊥
NeedsNone bot Compact = ⊥
NeedsNone bot Restart = ⊥
