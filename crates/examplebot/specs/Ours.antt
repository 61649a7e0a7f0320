-- What the procs of this program promise.
use Rattle.std.specs.Prelude.{◌≡◌, ℕ, ◌==◌, ◌||◌, List, [], ◌∷◌, length, if◌then◌else◌, codes, Option, Some, None}
use Rattle.std.specs.Str.{bytes_eq}
use Rattle.userfile.specs.Persons.{info_of}
use Rattle.outqueue.specs.declared.queue.Queue.TheVariants.{Mode, Help}
use Rattle.procs.specs.declared.action.Action.{Action}
use Rattle.procs.specs.declared.call.Call.{Call}
use Rattle.procs.specs.declared.reply.Code.TheVariants.{Zero}
use Rattle.procs.specs.declared.reply.ProcReply.{ProcReply}
use Rattle.procs.specs.Promises.{Promised, promised}
use Rattle.procs.specs.Seen.{Seen}
use Rattle.examplebot.specs.Asking.{nick_of, handle_of, channel_of, mask_of, has_o, is_op, second_after, put, put_after, put_later, ban}

-- a member who joins with the flag o gets op
abbrev pub op : Call → Seen → List Action
op call seen =
    if has_o call seen then put Mode (codes "MODE " ∷ channel_of call ∷ codes " +o " ∷ nick_of call ∷ []) ∷ [] else []

-- before the clock's first reading nobody is banned; afterwards the ban lasts until this second
abbrev pub banned_until : Option ℕ → Call → List Action
banned_until None call = []
banned_until (Some end) call =
    ban (channel_of call) (mask_of call) end (codes "mind your words") ∷
    put Mode (codes "MODE " ∷ channel_of call ∷ codes " +b " ∷ mask_of call ∷ []) ∷
    put Mode (codes "KICK " ∷ channel_of call ∷ codes " " ∷ nick_of call ∷ codes " :mind your words" ∷ []) ∷
    put_after 600 (codes "MODE " ∷ channel_of call ∷ codes " -b " ∷ mask_of call ∷ []) ∷ []

-- whoever says a bad word is banned for 600 seconds, except ops and people with the flag o
abbrev pub badword : Call → Seen → List Action
badword call seen = if is_op call seen || has_o call seen then [] else banned_until (second_after 600 seen.second) call

-- the info line of a member who joins
abbrev pub info : Call → Seen → List ℕ
info call seen = info_of seen.sight.records.users (handle_of call)

-- a member who joins and has an info line is greeted by it, except the bot
abbrev pub greet : Call → Seen → List Action
greet call seen =
    if length (info call seen) == 0 || bytes_eq (nick_of call) seen.sight.channels.nick then []
    else put Help (codes "PRIVMSG " ∷ channel_of call ∷ codes " :[" ∷ nick_of call ∷ codes "] " ∷ info call seen ∷ []) ∷ []

-- ---- by name

-- what the proc of this name asks for
abbrev pub actions_of : List ℕ → Call → Seen → List Action
actions_of name call seen =
    if bytes_eq name (codes "op") then op call seen
    else if bytes_eq name (codes "badword") then badword call seen
    else if bytes_eq name (codes "greet") then greet call seen
    else if bytes_eq name (codes "put_later") then put_later call
    else []

-- what that proc answers
abbrev pub reply_of : List ℕ → Call → Seen → ProcReply
reply_of name call seen = record { code = Zero; actions = actions_of name call seen }

-- the code is that one, and the actions are just these
abbrev pub ours : Promised
ours = promised (λ name call sight. Zero) (λ name call seen actions. actions ≡ actions_of name call seen)
