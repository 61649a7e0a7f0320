-- What the watcher of a process is told.
use Rattle.settings.specs.declared.settings.Settings.{Settings}
use Rattle.botcore.specs.declared.event.BotEvent.{BotEvent}
use Rattle.botcore.specs.declared.event.BotEvent.TheVariants.{Connect, Line, Ask, Pump, Receive, Clock, Bind, Unbind, Compact, Restart}
use Rattle.watching.specs.Acts.{Station}
use Rattle.botrun.specs.declared.process.Turned.{Turned}
use Rattle.botrun.specs.declared.process.Turned.TheVariants.{Busy, Rests, BeginsAbove, Moves, Ended}

-- the station of the bot of these settings
abbrev pub station_of : Settings → Station
station_of settings = record { number = settings.station.number; leaves = settings.station.leaves }

-- what holds after a turn: one thing if the bot has to begin again, in its net or in another, and otherwise the other
abbrev pub ByEnd : Turned → Type 0 → Type 0 → Type 0
ByEnd Busy goes_on begins = goes_on
ByEnd Rests goes_on begins = goes_on
ByEnd (BeginsAbove last) goes_on begins = begins
ByEnd Moves goes_on begins = begins
ByEnd Ended goes_on begins = goes_on

-- a bind is to be made or removed
abbrev pub IsOfBinds : BotEvent → Type 0
IsOfBinds Connect = ⊥
IsOfBinds (Line line) = ⊥
IsOfBinds (Ask change) = ⊥
IsOfBinds Pump = ⊥
IsOfBinds (Receive packet) = ⊥
IsOfBinds (Clock now) = ⊥
IsOfBinds (Bind asked) = Unit {0}
IsOfBinds (Unbind gone) = Unit {0}
IsOfBinds Compact = ⊥
IsOfBinds Restart = ⊥
