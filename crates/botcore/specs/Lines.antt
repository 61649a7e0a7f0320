-- What calls and their event leave of a bot.
use Rattle.std.specs.Prelude.{ℕ, Bool, ◌||◌, List, [], map, if◌then◌else◌}
use Rattle.ircline.specs.declared.message.Message.{Message}
use Rattle.chanstate.specs.declared.state.ChanState.{ChanState}
use Rattle.chanstate.specs.Steps.{after}
use Rattle.procs.specs.declared.action.PutWish.{PutWish}
use Rattle.botcore.specs.declared.fault.StepFault.{StepFault}
use Rattle.procs.specs.declared.made_call.MadeCall.{MadeCall}
use Rattle.botcore.specs.Acting.{Acting, actions_of, acted_all}
use Rattle.botcore.specs.Automatic.{automatic_lines, is_welcome, manner_of}
use Rattle.botcore.specs.Bots.{Bot}
use Rattle.procs.specs.Dispatching.{has_raw_one}
use Rattle.botcore.specs.Leaving.{most_of, leaving, staying}
use Rattle.botcore.specs.Links.{link_records}
use Rattle.procs.specs.Made.{entry_of}
use Rattle.botcore.specs.Putting.{put_all, put_faults, usual}

-- before the first action
abbrev pub acting_of : Bot → Acting
acting_of bot = record {
  link = bot.link;
  timers = bot.timers;
  last = bot.clock;
  sent = [];
  queues = bot.queues;
  manner = usual bot.config.sends_at_once;
}

-- the bot after actions
abbrev pub left_by : Bot → Acting → Bot
left_by bot acting = record bot { link = acting.link; timers = acting.timers; queues = acting.queues }

-- all actions of calls, from this bot on
abbrev pub acting_after : Bot → List MadeCall → Acting
acting_after bot calls = acted_all (acting_of bot) (actions_of calls)

abbrev pub after_calls : Bot → List MadeCall → Bot
after_calls bot calls = left_by bot (acting_after bot calls)

-- what an event leaves: the bot, the faults of its own lines, and the lines that go to the server
pub record Finish : Type 0 where
  pub after : Bot
  pub faults : List StepFault
  pub lines : List (List ℕ)

-- a text of another bot leaves what its calls leave, and nothing more
abbrev pub finish_text : Bot → List MadeCall → Finish
finish_text old calls = record { after = after_calls old calls; faults = []; lines = [] }

-- ---- a message of the server

-- the channels after a message with these calls: it is applied last, unless a raw proc has answered 1
abbrev pub channels_after : ChanState → List MadeCall → Message → ChanState
channels_after channels calls message = if has_raw_one (map entry_of calls) then channels else after message channels

-- whether the server has welcomed the bot by then
abbrev pub welcomed_after : Bool → List MadeCall → Message → Bool
welcomed_after welcomed calls message = if has_raw_one (map entry_of calls) then welcomed else welcomed || is_welcome message

-- the bot's own lines for a message with these calls: none if a raw proc has answered 1
abbrev pub own_lines : Bot → Message → List MadeCall → List PutWish
own_lines old message calls =
    if has_raw_one (map entry_of calls) then []
    else automatic_lines old.config old.channels (link_records old.link).bans old.clock old.welcomed message

-- the bot after a message with these calls: its own lines are queued after those of the calls
abbrev pub after_line : Bot → Message → List MadeCall → Bot
after_line old message calls = record (after_calls old calls) {
  channels = channels_after old.channels calls message;
  queues = put_all (manner_of old.config message) (acting_after old calls).queues (own_lines old message calls);
  welcomed = welcomed_after old.welcomed calls message;
}

abbrev pub finish_line : Bot → Message → List MadeCall → Finish
finish_line old message calls = record {
  after = after_line old message calls;
  faults = put_faults (manner_of old.config message) (acting_after old calls).queues (own_lines old message calls);
  lines = [];
}

-- ---- a reading of the clock

-- the lines that may go at a reading are sent, those of its calls included
abbrev pub finish_reading : Bot → ℕ → List MadeCall → Finish
finish_reading start now calls = record {
  after = record (after_calls start calls) { queues = staying (most_of start) (acting_after start calls).queues now };
  faults = [];
  lines = leaving (most_of start) (acting_after start calls).queues now;
}
