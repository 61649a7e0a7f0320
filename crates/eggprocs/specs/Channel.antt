-- What the procs request that keep order on a channel.
use Rattle.std.specs.Prelude.{ℕ, ◌&&◌, List, [], ◌∷◌, Bool, if◌then◌else◌, codes, Option, Some, None}
use Rattle.bytetext.specs.Words.{first_word, after_word}
use Rattle.userfile.specs.declared.flags.PersonFlags.{PersonFlags}
use Rattle.outqueue.specs.declared.queue.Queue.{Queue}
use Rattle.outqueue.specs.declared.queue.Queue.TheVariants.{Mode as mode_queue, Server}
use Rattle.procs.specs.declared.action.Action.{Action}
use Rattle.procs.specs.declared.action.Action.TheVariants.{Put}
use Rattle.procs.specs.declared.call.Call.{Call}
use Rattle.procs.specs.Seen.{Seen}
use Rattle.eggprocs.specs.declared.rights.TheConstants.{AUTO_OP, AUTO_VOICE}
use Rattle.eggprocs.specs.Args.{nick_of, channel_of, said_of, has_word, or_else}
use Rattle.eggprocs.specs.Lines.{mode, kick, topic, invite}
use Rattle.eggprocs.specs.Rights.{flags_by, has_flag, is_bot_op, is_join}

-- a line for the server
abbrev pub put : Queue → List ℕ → Action
put queue line = Put (record { queue = queue; line = line })

-- the nick that a command is about: the nick that its text names, or else the caller
abbrev pub target_of : Call → List ℕ
target_of call = or_else (first_word (said_of call)) (nick_of call)

-- what `op`, `deop`, `voice` and `devoice` request: a mode for the nick that the command is about
abbrev pub asked_for_mode : Bool → List ℕ → Call → List Action
asked_for_mode may change call =
    if may then put mode_queue (mode (channel_of call) change (target_of call)) ∷ [] else []

-- the mode that `autoop` gives to a person with these flags: op for the flag a, else voice for the flag g
abbrev pub change_for : PersonFlags → Option (List ℕ)
change_for flags = if has_flag AUTO_OP flags then Some (codes "+o") else (if has_flag AUTO_VOICE flags then Some (codes "+v") else None)

abbrev pub asked_for_newcomer : Call → Option (List ℕ) → List Action
asked_for_newcomer call None = []
asked_for_newcomer call (Some change) = put mode_queue (mode (channel_of call) change (nick_of call)) ∷ []

abbrev pub asked_by_autoop : Call → Seen → List Action
asked_by_autoop call seen =
    if is_join call.kind && is_bot_op call seen then asked_for_newcomer call (change_for (flags_by call seen)) else []

-- what `kick` requests: a kick of the nick that the text names, for the reason that follows it
abbrev pub asked_by_kick : Bool → Call → List Action
asked_by_kick may call =
    if may && has_word (said_of call)
    then put mode_queue (kick (channel_of call) (first_word (said_of call)) (or_else (after_word (said_of call)) (codes "request"))) ∷ []
    else []

-- what `topic` requests: the text as the topic
abbrev pub asked_by_topic : Bool → Call → List Action
asked_by_topic may call =
    if may && has_word (said_of call) then put Server (topic (channel_of call) (said_of call)) ∷ [] else []

-- what `invite` requests: an invitation for the nick that the text names
abbrev pub asked_by_invite : Bool → Call → List Action
asked_by_invite may call =
    if may && has_word (said_of call) then put Server (invite (first_word (said_of call)) (channel_of call)) ∷ [] else []
