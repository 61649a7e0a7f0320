-- What `info` and `greet` request, given the info lines of users.
use Rattle.std.specs.Prelude.{ℕ, ◌==◌, not, ◌&&◌, List, [], ◌∷◌, ◌++◌, length, if◌then◌else◌, codes}
use Rattle.std.specs.Str.{bytes_eq}
use Rattle.userfile.specs.declared.edit.Edit.{Edit}
use Rattle.userfile.specs.declared.edit.Edit.TheVariants.{SetInfo}
use Rattle.userfile.specs.Held.{has_user}
use Rattle.userfile.specs.Persons.{info_of}
use Rattle.outqueue.specs.declared.queue.Queue.TheVariants.{Help}
use Rattle.procs.specs.declared.action.Action.{Action}
use Rattle.procs.specs.declared.call.Call.{Call}
use Rattle.procs.specs.Seen.{Seen}
use Rattle.eggprocs.specs.Args.{nick_of, handle_of, channel_of, told_of, or_else}
use Rattle.eggprocs.specs.Channel.{put}
use Rattle.eggprocs.specs.Lines.{privmsg}
use Rattle.eggprocs.specs.People.{told, asked_for}
use Rattle.eggprocs.specs.Rights.{is_join, is_msg}

-- the info line of the caller
abbrev pub info_by : Call → Seen → List ℕ
info_by call seen = info_of seen.sight.records.users (handle_of call)

-- ---- info

-- the info line that a text means: the text itself, or an empty one for the word none
abbrev pub info_in : List ℕ → List ℕ
info_in text = if bytes_eq text (codes "none") then [] else text

-- the edit that a text means: of the caller's info line
abbrev pub set_by : Call → Edit
set_by call = SetInfo (handle_of call) (info_in (told_of call))

-- what `info` requests for a caller whom the userfile knows: a NOTICE with the info line, or the edit that the text
-- means
abbrev pub asked_by_known : Call → Seen → List Action
asked_by_known call seen =
    if length (told_of call) == 0 then told call (or_else (info_by call seen) (codes "you have no info line")) ∷ []
    else asked_for call seen (set_by call)

abbrev pub asked_by_info : Call → Seen → List Action
asked_by_info call seen =
    if not (is_msg call.kind) then []
    else if has_user (handle_of call) seen.sight.records.users then asked_by_known call seen
    else told call (codes "you are not known here") ∷ []

-- ---- greet

-- [NICK] TEXT
abbrev pub greeting : List ℕ → List ℕ → List ℕ
greeting nick info = codes "[" ++ nick ++ codes "] " ++ info

-- what `greet` requests: that the bot says on the channel the info line of the person who joins, if there is one
abbrev pub asked_by_greet : Call → Seen → List Action
asked_by_greet call seen =
    if is_join call.kind && not (length (info_by call seen) == 0)
    then put Help (privmsg (channel_of call) (greeting (nick_of call) (info_by call seen))) ∷ []
    else []
