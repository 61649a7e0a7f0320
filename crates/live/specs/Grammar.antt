-- What a line of a live script says by itself: a command that only a live script has, or what a line of a replay's
-- script says, except for what the network itself does in a live botnet.
use Rattle.std.specs.Prelude.{ℕ, List, [], ◌∷◌, Option, None, Some}
use Rattle.botcore.specs.declared.event.BotEvent.{BotEvent}
use Rattle.botcore.specs.declared.event.BotEvent.TheVariants.{Connect, Line, Ask, Pump, Receive, Clock, Bind, Unbind, Compact, Restart}
use Rattle.botcore.specs.Steps.{IsGoodEvent}
use Rattle.botworld.specs.declared.step.Step.{Step}
use Rattle.botworld.specs.declared.step.Step.TheVariants.{At, Deliver}
use Rattle.script.specs.Grammar.{saying_of as replay_saying_of}
use Rattle.script.specs.Words.{words_of}
use Rattle.script.specs.declared.command.Command.{Command as ReplayCommand}
use Rattle.script.specs.declared.command.Command.TheVariants.{Steps as replay_steps, Show as replay_show}
use Rattle.script.specs.declared.saying.Saying.{Saying as ReplaySaying}
use Rattle.script.specs.declared.saying.Saying.TheVariants.{Nothing as replay_nothing, Leaves as replay_leaves, Zone as replay_zone, Told as replay_told, Wrong as replay_wrong}
use Rattle.live.specs.declared.live_command.LiveCommand.{LiveCommand}
use Rattle.live.specs.declared.live_command.LiveCommand.TheVariants.{Tell, Connect as connects, Show, Until, Turns, Guest, Say, Heard, Clock as shows}
use Rattle.live.specs.declared.saying.LiveSaying.{LiveSaying}
use Rattle.live.specs.declared.saying.LiveSaying.TheVariants.{Nothing, Leaves, Zone, Told, Wrong}
use Rattle.live.specs.Words.{own_command}

-- no line, no packet and no clock of one bot: the server sends its lines, the hub its packets, and all bots share one
-- clock
abbrev pub shared_event : ℕ → BotEvent → LiveSaying
shared_event bot Connect = Told (connects bot)
shared_event bot (Ask change) = Told (Tell bot (Ask change))
shared_event bot Pump = Told (Tell bot Pump)
shared_event bot (Bind bind) = Told (Tell bot (Bind bind))
shared_event bot (Unbind bind) = Told (Tell bot (Unbind bind))
shared_event bot Compact = Told (Tell bot Compact)
shared_event bot Restart = Told (Tell bot Restart)
shared_event bot (Line line) = Wrong
shared_event bot (Receive packet) = Wrong
shared_event bot (Clock now) = Wrong

abbrev pub shared_step : Option Step → LiveSaying
shared_step (Some (At bot event)) = shared_event bot event
shared_step (Some (Deliver packet)) = Wrong
shared_step None = Wrong

-- the last of these steps: every command that a live script shares has one step
abbrev pub last_step : List Step → Option Step
last_step [] = None
last_step (step ∷ []) = Some step
last_step (step ∷ next ∷ steps) = last_step (next ∷ steps)

abbrev pub shared_command : ReplayCommand → LiveSaying
shared_command (replay_show bot) = Told (Show bot)
shared_command (replay_steps steps) = shared_step (last_step steps)

abbrev pub shared_saying : ReplaySaying → LiveSaying
shared_saying replay_nothing = Nothing
shared_saying (replay_leaves leaves) = Leaves leaves
shared_saying (replay_zone rule) = Zone rule
shared_saying (replay_told command) = shared_command command
shared_saying replay_wrong = Wrong

-- a command that only a live script has, or else what a replay's script says
abbrev pub either : Option LiveCommand → LiveSaying → LiveSaying
either (Some command) shared = Told command
either None shared = shared

abbrev pub saying_of : List ℕ → LiveSaying
saying_of line = either (own_command (words_of line)) (shared_saying (replay_saying_of line))

-- a command gives a bot no packet whose records have a bad shape: it gives none
abbrev pub IsGoodCommand : LiveCommand → Type 0
IsGoodCommand (Tell bot event) = IsGoodEvent event
IsGoodCommand (connects bot) = Unit {0}
IsGoodCommand (Show bot) = Unit {0}
IsGoodCommand (Until version) = Unit {0}
IsGoodCommand (Turns count) = Unit {0}
IsGoodCommand (Guest nick channel) = Unit {0}
IsGoodCommand (Say speech) = Unit {0}
IsGoodCommand (Heard nick) = Unit {0}
IsGoodCommand (shows moment) = Unit {0}

abbrev pub IsGoodSaying : LiveSaying → Type 0
IsGoodSaying Nothing = Unit {0}
IsGoodSaying (Leaves leaves) = Unit {0}
IsGoodSaying (Zone rule) = Unit {0}
IsGoodSaying (Told command) = IsGoodCommand command
IsGoodSaying Wrong = Unit {0}
