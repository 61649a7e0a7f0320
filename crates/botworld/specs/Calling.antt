-- The procs that a step calls, to compare two bots.
use Rattle.std.specs.Prelude.{◌≡◌, ℕ, List, map, slice_get, Option, None, Some, Result, Ok, Err}
use Rattle.userfile.specs.Records.{Records}
use Rattle.chanstate.specs.declared.state.ChanState.{ChanState}
use Rattle.chanstate.specs.Views.{mapping_of}
use Rattle.procs.specs.Promises.{Promised, code_at}
use Rattle.procs.specs.declared.call.Call.{Call}
use Rattle.procs.specs.declared.reply.Code.{Code}
use Rattle.procs.specs.declared.bind.Bind.{Bind}
use Rattle.procs.specs.Tables.{Asked}
use Rattle.botcore.specs.declared.event.BotEvent.{BotEvent}
use Rattle.procs.specs.declared.made_call.MadeCall.{MadeCall}
use Rattle.botcore.specs.declared.report.End.{End}
use Rattle.botcore.specs.declared.report.End.TheVariants.{Done, Refused, NoMemory}
use Rattle.botcore.specs.Bots.{Bot}
use Rattle.botcore.specs.Happenings.{Happening, happenings_of}
use Rattle.botcore.specs.Links.{link_version}
use Rattle.botworld.specs.declared.step.Part.{Part}
use Rattle.botworld.specs.declared.step.Step.{Step}
use Rattle.botworld.specs.declared.outcome.WorldReport.{WorldReport}
use Rattle.botworld.specs.declared.outcome.Outcome.{Outcome}
use Rattle.botworld.specs.declared.outcome.Outcome.TheVariants.{Report as reported, NoSuchBot, NoSuchPacket}
use Rattle.botworld.specs.Net.{Net, part_of}

-- a call, without the bind for which it was made
pub record ProcCall : Type 0 where
  pub proc : List ℕ
  pub call : Call
  pub code : Code

abbrev pub proc_call : MadeCall → ProcCall
proc_call made = record { proc = made.proc; call = made.call; code = made.reply.code }

-- a step that is done: the bot as it was, what happened to call procs (the events of a message, a text of another bot,
-- or the timers and minutes of the seconds that ran), and the calls
pub record Calling : Type 0 where
  pub bot : Bot
  pub happenings : List Happening
  pub calls : List ProcCall

abbrev pub calling_done : End → BotEvent → WorldReport → Bot → Option Calling
calling_done Done event report was = Some (record { bot = was; happenings = happenings_of was event; calls = map proc_call report.calls })
calling_done (Refused why) event report was = None
calling_done NoMemory event report was = None

abbrev pub calling_by : Option Bot → BotEvent → WorldReport → Option Calling
calling_by None event report = None
calling_by (Some was) event report = calling_done report.end event report was

abbrev pub calling_in : Net → Result Part Outcome → Outcome → Option Calling
calling_in w (Ok part) (reported report) = calling_by (slice_get w.bots part.bot) part.event report
calling_in w (Ok part) NoSuchBot = None
calling_in w (Ok part) NoSuchPacket = None
calling_in w (Err missing) outcome = None

-- what a step from this net calls, if a bot takes part and is done
abbrev pub calling : Net → Step → Outcome → Option Calling
calling w step outcome = calling_in w (part_of w step) outcome

-- a bind as it was requested: all of it but its number
abbrev pub asked_in : Bind → Asked
asked_in bind = record { kind = bind.kind; flags = bind.flags; mask = bind.mask; proc = bind.proc }

-- bots with the same events that are alike in everything that calls depend on, except for their channels; their servers
-- compare names alike, since who a person is depends on that
pub record IsAlikeButChannels (a b : Calling) : Type 0 where
  pub happenings : a.happenings ≡ b.happenings
  pub binds : map asked_in a.bot.binds.binds ≡ map asked_in b.bot.binds.binds
  pub exclusive : a.bot.config.exclusive ≡ b.bot.config.exclusive
  pub version : link_version a.bot.link ≡ link_version b.bot.link
  pub casemapping : mapping_of a.bot.channels ≡ mapping_of b.bot.channels

-- bots that are alike in everything that calls depend on: a promised code can depend on the records, which are those
-- of the version, and on the channels, which are the bot's nick, what the server has announced, and what the bot knows
-- of each channel that it is on
pub record IsAlike (a b : Calling) : Type 0 where
  pub others : IsAlikeButChannels a b
  pub channels : a.bot.channels ≡ b.bot.channels

-- the promised codes do not depend on the channels
abbrev pub IgnoresChannels : Promised → Type 0
IgnoresChannels promised = (name : List ℕ) (call : Call) (records : Records) (one other : ChanState)
    → code_at promised (record { records = records; channels = one }) name call
    ≡ code_at promised (record { records = records; channels = other }) name call
