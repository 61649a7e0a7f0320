-- A bot as contracts see it.
use Rattle.std.specs.Prelude.{ℕ, Bool, false, List, [], Option, None}
use Rattle.bottimers.specs.Held.{Held}
use Rattle.botjournal.specs.Ledger.{Device}
use Rattle.sharelink.specs.BotLinks.{BotEnd, new_bot_end, bot_end_after}
use Rattle.chanstate.specs.declared.state.ChanState.{ChanState}
use Rattle.chanstate.specs.Views.{connected}
use Rattle.outqueue.specs.Sending.{Sending, idle}
use Rattle.procs.specs.Promises.{Promised}
use Rattle.procs.specs.Seen.{Sight, Seen}
use Rattle.procs.specs.Tables.{Table, no_binds}
use Rattle.botcore.specs.declared.config.Config.{Config}
use Rattle.procs.specs.Dispatching.{Setting}
use Rattle.procs.specs.Dispatched.{setting_for}
use Rattle.botcore.specs.Links.{link_records}

-- who it is, its end of the link, its binds, oldest first, the channels that it is on, the last second of its clock,
-- its timers, its lines for the server, and whether the server has welcomed it since it last connected
pub record Bot : Type 0 where
  pub config : Config
  pub link : BotEnd
  pub binds : Table
  pub channels : ChanState
  pub clock : Option ℕ
  pub timers : Held
  pub queues : Sending
  pub welcomed : Bool

abbrev pub no_timers : Held
no_timers = record { timers = []; last = None; spent = 0; room = 0 }

-- a bot as it begins over this end of the link: without binds, and without anything that a restart would lose
abbrev pub begun : Config → BotEnd → Bot
begun config link =
    record {
      config = config;
      link = link;
      binds = no_binds;
      channels = connected config.nick;
      clock = None;
      timers = no_timers;
      queues = idle;
      welcomed = false;
    }

-- a bot before its first step, on these disks
abbrev pub new_bot : Config → Device → Bot
new_bot config device = begun config (new_bot_end config.number config.leaves device)

-- the same, but a leaf's last request has this number
abbrev pub bot_after : Config → ℕ → Device → Bot
bot_after config last device = begun config (bot_end_after config.number config.leaves last device)

-- what a restart leaves of a bot whose journal was opened again: its binds, and the end of the link from the journal
abbrev pub restarted : Bot → BotEnd → Bot
restarted old link = record (begun old.config link) { binds = old.binds }

-- the same bot, on these disks
abbrev pub with_device : Bot → Device → Bot
with_device bot device = record bot { link = record bot.link { device = device } }

-- ---- what its procs see

abbrev pub bot_sight : Bot → Sight
bot_sight bot = record { records = link_records bot.link; channels = bot.channels }

-- at this second
abbrev pub seen_at : Bot → Option ℕ → Seen
seen_at bot second = record { sight = bot_sight bot; second = second }

-- at the last second of its clock
abbrev pub bot_seen : Bot → Seen
bot_seen bot = seen_at bot bot.clock

-- what the calls of a bot depend on, with a store of these names
abbrev pub bot_setting : Promised → List (List ℕ) → Bot → Setting
bot_setting promised names bot =
    setting_for promised names (bot_sight bot) bot.binds.binds bot.config.exclusive
