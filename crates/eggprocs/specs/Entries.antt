-- What `needin` and `letin` request. A bot of a net that the server keeps off a channel asks the hub to be let in, by a
-- text between bots. A bot that gets such a text and is an operator there invites it. (After Eggdrop's `need-invite`
-- and what its bots do about it.)
use Rattle.std.specs.Prelude.{ℕ, ◌&&◌, ◌||◌, ◌==◌, not, Bool, List, [], ◌∷◌, ◌++◌, length, is_some, if◌then◌else◌, codes}
use Rattle.std.specs.Str.{bytes_eq}
use Rattle.bytetext.specs.Words.{first_word, after_word}
use Rattle.chanstate.specs.Views.{member_in}
use Rattle.outqueue.specs.declared.queue.Queue.TheVariants.{Server}
use Rattle.procs.specs.declared.action.Action.{Action}
use Rattle.procs.specs.declared.action.Action.TheVariants.{SendBot}
use Rattle.procs.specs.declared.call.Call.{Call}
use Rattle.procs.specs.Seen.{Seen}
use Rattle.eggprocs.specs.Args.{arg_at}
use Rattle.eggprocs.specs.Channel.{put}
use Rattle.eggprocs.specs.Ctcp.{is_raw, command_of}
use Rattle.eggprocs.specs.Lines.{invite}
use Rattle.eggprocs.specs.Needs.{is_bot_text, needed_on, needed_by}
use Rattle.eggprocs.specs.Rights.{is_op_of}

-- ---- a bot that is kept off a channel

-- whether a server refuses a JOIN by this numeric (RFC 2812 section 5.2): the channel is full, invites alone, is banned
-- to the bot, or wants another key
abbrev pub refuses_join : List ℕ → Bool
refuses_join command =
    (bytes_eq command (codes "471") || bytes_eq command (codes "473")) || (bytes_eq command (codes "474") || bytes_eq command (codes "475"))

-- the channel that the line names after the bot's nick
abbrev pub closed_channel : Call → List ℕ
closed_channel call = first_word (after_word (arg_at call.args 2))

-- whether a call is for such a line, and the line names a channel
abbrev pub is_kept_out : Call → Bool
is_kept_out call = (is_raw call.kind && refuses_join (command_of call)) && not (length (closed_channel call) == 0)

-- the text that asks the hub to be let in: needin CHANNEL NICK
abbrev pub needs_in : List ℕ → Seen → Action
needs_in channel seen = SendBot (record { to = 0; text = codes "needin " ++ channel ++ codes " " ++ seen.sight.channels.nick })

-- what `needin` requests
abbrev pub asked_by_needin : Call → Seen → List Action
asked_by_needin call seen = if is_kept_out call then needs_in (closed_channel call) seen ∷ [] else []

-- ---- a bot that lets another one in

-- whether nobody of the nick that a text names is on the channel that it names
abbrev pub is_outside : Call → Seen → Bool
is_outside call seen = not (is_some (member_in (needed_on call) (needed_by call) seen.sight.channels))

-- a text of another bot names a channel on which this bot is an operator, and a nick that is not there
abbrev pub may_let_in : Call → Seen → Bool
may_let_in call seen =
    (is_bot_text call.kind && is_op_of (needed_on call) seen) && (not (length (needed_by call) == 0) && is_outside call seen)

-- what `letin` requests: an invitation for that nick
abbrev pub asked_by_letin : Call → Seen → List Action
asked_by_letin call seen = if may_let_in call seen then put Server (invite (needed_by call) (needed_on call)) ∷ [] else []
