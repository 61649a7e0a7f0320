-- What the procs request that use nothing but their call.
use Rattle.std.specs.Prelude.{ℕ, List, [], ◌∷◌, Bool, true, false, if◌then◌else◌, codes, Option, Some, None}
use Rattle.userfile.specs.Changes.{by_nobody}
use Rattle.userfile.specs.declared.edit.Edit.TheVariants.{AddUser}
use Rattle.outqueue.specs.declared.queue.Queue.TheVariants.{Help}
use Rattle.procs.specs.declared.action.Action.{Action}
use Rattle.procs.specs.declared.action.Action.TheVariants.{Ask, Utimer, SendBot, Put}
use Rattle.procs.specs.declared.call.Call.{Call}
use Rattle.procs.specs.declared.call_kind.CallKind.{CallKind}
use Rattle.procs.specs.declared.call_kind.CallKind.TheVariants.{Raw, Msg, Msgm, Notc, Pub, Pubm, Join, Part, Sign, Kick, Nick, Mode, Topc, Account}
use Rattle.procs.specs.declared.call_kind.CallKind.TheVariants.{Bot, Time, Cron, Timer}
use Rattle.eggprocs.specs.Args.{arg_at, last_of}
use Rattle.eggprocs.specs.Lines.{privmsg}

-- the kinds whose last argument is the text after a first word
abbrev pub is_command : CallKind → Bool
is_command Msg = true
is_command Pub = true
is_command Raw = false
is_command Msgm = false
is_command Notc = false
is_command Pubm = false
is_command Join = false
is_command Part = false
is_command Sign = false
is_command Kick = false
is_command Nick = false
is_command Mode = false
is_command Topc = false
is_command Account = false
is_command Bot = false
is_command Time = false
is_command Cron = false
is_command Timer = false

-- what `adduser` requests: a user whose handle is the text, in nobody's name, since the bind's flags say who may
abbrev pub asked_by_adduser : Call → List Action
asked_by_adduser call = if is_command call.kind then Ask (by_nobody (AddUser (last_of call.args))) ∷ [] else []

-- what `tick` requests, whatever event calls it: one call of `quiet` after ten seconds, with an empty text
abbrev pub asked_by_tick : List Action
asked_by_tick = Utimer (record { interval = 10; count = 1; proc = codes "quiet"; text = [] }) ∷ []

-- what `tell` requests: that the bot sends the text to the hub
abbrev pub asked_by_tell : Call → List Action
asked_by_tell call = if is_command call.kind then SendBot (record { to = 0; text = last_of call.args }) ∷ [] else []

-- which argument says where to repeat a text: its channel, or the nick that said it privately
abbrev pub place_of : CallKind → Option ℕ
place_of Pub = Some 3
place_of Pubm = Some 3
place_of Msg = Some 0
place_of Msgm = Some 0
place_of Raw = None
place_of Notc = None
place_of Join = None
place_of Part = None
place_of Sign = None
place_of Kick = None
place_of Nick = None
place_of Mode = None
place_of Topc = None
place_of Account = None
place_of Bot = None
place_of Time = None
place_of Cron = None
place_of Timer = None

-- what `echo` requests: that the bot repeats the text
abbrev pub asked_by_echo_at : Call → Option ℕ → List Action
asked_by_echo_at call None = []
asked_by_echo_at call (Some place) =
    Put (record { queue = Help; line = privmsg (arg_at call.args place) (last_of call.args) }) ∷ []

abbrev pub asked_by_echo : Call → List Action
asked_by_echo call = asked_by_echo_at call (place_of call.kind)
