-- What `ctcp` requests: the answers to three requests of the Client-To-Client Protocol (CTCP). Such a request is a
-- PRIVMSG to the bot alone whose text begins and ends with byte 1. Its answer is a NOTICE whose text does so too.
use Rattle.std.specs.Prelude.{ℕ, nat_le, ◌==◌, ◌-◌, ◌+◌, ◌/◌, ◌%◌, ◌&&◌, List, [], ◌∷◌, ◌++◌, take, drop, length, slice_index, Bool, true, false, if◌then◌else◌, codes, Option, Some, None}
use Rattle.std.specs.Str.{bytes_eq}
use Rattle.bytetext.specs.Words.{first_word, after_word}
use Rattle.ircline.specs.Sources.{Source, source_of}
use Rattle.outqueue.specs.declared.queue.Queue.TheVariants.{Help}
use Rattle.procs.specs.declared.action.Action.{Action}
use Rattle.procs.specs.declared.call.Call.{Call}
use Rattle.procs.specs.declared.call_kind.CallKind.{CallKind}
use Rattle.procs.specs.declared.call_kind.CallKind.TheVariants.{Raw, Msg, Msgm, Notc, Pub, Pubm, Join, Part, Sign, Kick, Nick, Mode, Topc, Account}
use Rattle.procs.specs.declared.call_kind.CallKind.TheVariants.{Bot, Time, Cron, Timer}
use Rattle.procs.specs.Seen.{Seen}
use Rattle.eggprocs.specs.declared.ctcp.TheConstants.{MAX_PING}
use Rattle.eggprocs.specs.Args.{arg_at}
use Rattle.eggprocs.specs.Channel.{put}
use Rattle.eggprocs.specs.Everyone.{is_own_nick}
use Rattle.eggprocs.specs.Lines.{notice}

-- ---- the line: its prefix, its command, and what follows the command

-- whether a call is for a line of the server, whatever its command
abbrev pub is_raw : CallKind → Bool
is_raw Raw = true
is_raw Msg = false
is_raw Msgm = false
is_raw Notc = false
is_raw Pub = false
is_raw Pubm = false
is_raw Join = false
is_raw Part = false
is_raw Sign = false
is_raw Kick = false
is_raw Nick = false
is_raw Mode = false
is_raw Topc = false
is_raw Account = false
is_raw Bot = false
is_raw Time = false
is_raw Cron = false
is_raw Timer = false

-- the nick of the person who sends the line; none if a server sends it
abbrev pub nick_if : Source → Option (List ℕ)
nick_if Source.Nobody = None
nick_if (Source.Server name) = None
nick_if (Source.Person nick user host) = Some nick

abbrev pub sender_of : Call → Option (List ℕ)
sender_of call = nick_if (source_of (arg_at call.args 0))

abbrev pub command_of : Call → List ℕ
command_of call = arg_at call.args 1

-- to whom a PRIVMSG goes, and its text: 58 is ':', which marks a last parameter
abbrev pub addressee_of : Call → List ℕ
addressee_of call = first_word (arg_at call.args 2)

abbrev pub without_colon : List ℕ → List ℕ
without_colon text = if slice_index text 0 == 58 then drop 1 text else text

abbrev pub text_of : Call → List ℕ
text_of call = without_colon (after_word (arg_at call.args 2))

-- ---- the request

-- whether a text begins with a byte 1 and ends with another one, and what is between them
abbrev pub is_tagged : List ℕ → Bool
is_tagged text = nat_le 2 (length text) && (slice_index text 0 == 1 && slice_index text (length text - 1) == 1)

abbrev pub untagged : List ℕ → List ℕ
untagged text = drop 1 (take (length text - 1) text)

-- whether a call is for a request to the bot alone
abbrev pub is_request : Call → Seen → Bool
is_request call seen =
    (is_raw call.kind && bytes_eq (command_of call) (codes "PRIVMSG"))
    && (is_own_nick seen (addressee_of call) && is_tagged (text_of call))

-- ---- the answer

-- the last two decimal digits of a number
abbrev pub two_digits : ℕ → List ℕ
two_digits n = (48 + n / 10 % 10) ∷ (48 + n % 10) ∷ []

-- the hour, minute and second of a second of the day: 58 is ':'
abbrev pub day_clock : ℕ → List ℕ
day_clock second = two_digits (second / 3600) ++ 58 ∷ two_digits (second / 60 % 60) ++ 58 ∷ two_digits (second % 60)

-- the time of the day in UTC; none before the bot's clock has shown a second
abbrev pub told_time : Option ℕ → Option (List ℕ)
told_time None = None
told_time (Some second) = Some (codes "TIME " ++ day_clock (second % 86400) ++ codes " UTC")

-- the argument given back, if it is not too long
abbrev pub told_ping : List ℕ → Option (List ℕ)
told_ping argument = if nat_le (length argument) MAX_PING then Some (codes "PING " ++ argument) else None

-- the answer to a request by its first word; none to any other word
abbrev pub answer_to : List ℕ → Option ℕ → Option (List ℕ)
answer_to words second =
    if bytes_eq (first_word words) (codes "VERSION") then Some (codes "VERSION eggnet")
    else if bytes_eq (first_word words) (codes "PING") then told_ping (after_word words)
    else if bytes_eq (first_word words) (codes "TIME") then told_time second
    else None

-- a text between two bytes 1
abbrev pub tagged : List ℕ → List ℕ
tagged text = 1 ∷ text ++ 1 ∷ []

-- ---- what is requested

-- a NOTICE to this nick, if there is an answer
abbrev pub answered_to : List ℕ → Option (List ℕ) → List Action
answered_to nick None = []
answered_to nick (Some answer) = put Help (notice nick (tagged answer)) ∷ []

abbrev pub answered : Option (List ℕ) → Option (List ℕ) → List Action
answered None answer = []
answered (Some nick) answer = answered_to nick answer

-- what `ctcp` requests
abbrev pub asked_by_ctcp : Call → Seen → List Action
asked_by_ctcp call seen =
    if is_request call seen then answered (sender_of call) (answer_to (untagged (text_of call)) seen.second) else []
