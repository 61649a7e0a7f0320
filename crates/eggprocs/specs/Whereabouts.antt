-- What `seen` requests: a NOTICE that says whether somebody is here.
--
-- The answer names no channel that the caller is not on: a bot is on channels that are secret to others, and a word to
-- it must not reveal who is on them. A word on a channel asks about that channel alone, and a private message about the
-- first channel on which both are. For anyone else the answer says whether the userfile has a user of that name, and it
-- is the same wherever else that one is.
use Rattle.std.specs.Prelude.{ℕ, ◌&&◌, List, [], ◌∷◌, ◌++◌, Bool, find, if◌then◌else◌, codes, is_some, Option, Some, None}
use Rattle.userfile.specs.Held.{has_user}
use Rattle.bytetext.specs.Words.{first_word}
use Rattle.chanstate.specs.Views.{member_in, channels_with}
use Rattle.procs.specs.declared.action.Action.{Action}
use Rattle.procs.specs.declared.call.Call.{Call}
use Rattle.procs.specs.Seen.{Seen}
use Rattle.eggprocs.specs.Args.{last_of, nick_of, channel_of, has_word}
use Rattle.eggprocs.specs.Basics.{is_command}
use Rattle.eggprocs.specs.People.{told}
use Rattle.eggprocs.specs.Rights.{is_pub}

-- the nick that a command's text begins with
abbrev pub sought : Call → List ℕ
sought call = first_word (last_of call.args)

-- ---- where somebody is

abbrev pub is_there : List ℕ → Seen → List ℕ → Bool
is_there nick seen channel = is_some (member_in channel nick seen.sight.channels)

-- the channel of the call, if both are on it
abbrev pub asked_here : Call → Seen → Option (List ℕ)
asked_here call seen =
    if is_there (nick_of call) seen (channel_of call) && is_there (sought call) seen (channel_of call) then Some (channel_of call) else None

-- the first channel with both the caller and the other, in the order in which the bot joined them
abbrev pub first_shared : Call → Seen → Option (List ℕ)
first_shared call seen = find (is_there (sought call) seen) (channels_with (nick_of call) seen.sight.channels)

abbrev pub shared : Call → Seen → Option (List ℕ)
shared call seen = if is_pub call.kind then asked_here call seen else first_shared call seen

-- ---- what the answer says

-- NICK is on CHANNEL now
abbrev pub on_now : List ℕ → List ℕ → List ℕ
on_now nick channel = nick ++ codes " is on " ++ channel ++ codes " now"

-- what the records say about a nick that is not here
abbrev pub known_text : Bool → List ℕ
known_text known = if known then codes " is not here, but known" else codes " is neither here nor known"

abbrev pub by_records : Call → Seen → List ℕ
by_records call seen = sought call ++ known_text (has_user (sought call) seen.sight.records.users)

abbrev pub whereabouts_if : Option (List ℕ) → Call → Seen → List ℕ
whereabouts_if None call seen = by_records call seen
whereabouts_if (Some channel) call seen = on_now (sought call) channel

abbrev pub whereabouts : Call → Seen → List ℕ
whereabouts call seen =
    if has_word (last_of call.args) then whereabouts_if (shared call seen) call seen else codes "use seen NICK"

-- what `seen` requests: a NOTICE to the caller that says that
abbrev pub asked_by_seen : Call → Seen → List Action
asked_by_seen call seen = if is_command call.kind then told call (whereabouts call seen) ∷ [] else []
