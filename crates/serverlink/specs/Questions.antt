-- Which channels the process asks about by WHOX, an extension of WHO (https://ircv3.net/specs/extensions/whox).
use Rattle.std.specs.Prelude.{ℕ, ◌&&◌, ◌||◌, ◌++◌, not, Bool, false, List, [], ◌∷◌, drop, slice_get, Option, None, codes, if◌then◌else◌}
use Rattle.std.specs.List.{filter, list_any}
use Rattle.std.specs.Str.{bytes_eq}
use Rattle.rfccase.specs.declared.casemappings.Casemapping.{Casemapping}
use Rattle.rfccase.specs.Casemapping.{is_same_by}
use Rattle.ircline.specs.declared.message.Message.{Message}
use Rattle.serverlink.specs.declared.cue.Cue.{Cue}
use Rattle.serverlink.specs.declared.cue.Cue.TheVariants.{Welcomed, Renamed, Joined, Parted, Kicked, Barred, Forwarded, NickRefused, Refused, Supports, Invited, Nothing}
use Rattle.serverlink.specs.Cues.{param}

-- whether the server says on this connection when somebody logs in or out (account-notify), and whether it has WHOX; the
-- channels that the bot has joined and the process has not asked about, the oldest JOIN first
pub record Questions : Type 0 where
  pub notifies : Bool
  pub knows : Bool
  pub channels : List (List ℕ)

-- a connection begins: the server has announced nothing, and the bot is on no channel
abbrev pub begun : Questions
begun = record { notifies = false; knows = false; channels = [] }

-- what comes of the registration
abbrev pub notified : Bool → Questions → Questions
notified notifies questions = record questions { notifies = notifies }

-- a welcome comes after the registration, and forgets the rest
abbrev pub welcomed : Questions → Questions
welcomed questions = record begun { notifies = questions.notifies }

-- ---- what the server says

-- the token of a 005
abbrev pub is_whox : List ℕ → Bool
is_whox token = bytes_eq token (codes "WHOX")

-- all channels but those of this name
abbrev pub without : Casemapping → List ℕ → List (List ℕ) → List (List ℕ)
without mapping name channels = filter (λ channel. not (is_same_by mapping channel name)) channels

-- the bot has joined a channel
abbrev pub joined : Casemapping → List ℕ → Questions → Questions
joined mapping name questions = record questions { channels = without mapping name questions.channels ++ name ∷ [] }

-- the bot has left a channel
abbrev pub left : Casemapping → List ℕ → Questions → Questions
left mapping name questions = record questions { channels = without mapping name questions.channels }

-- each parameter of a 005 after the nick is a token
abbrev pub announced : Message → Questions → Questions
announced message questions = record questions { knows = questions.knows || list_any is_whox (drop 1 message.params) }

abbrev pub heard : Casemapping → Cue → Message → Questions → Questions
heard mapping Welcomed message questions = welcomed questions
heard mapping Joined message questions = joined mapping (param message 0) questions
heard mapping Parted message questions = left mapping (param message 0) questions
heard mapping Kicked message questions = left mapping (param message 0) questions
heard mapping Supports message questions = announced message questions
heard mapping Renamed message questions = questions
heard mapping Barred message questions = questions
heard mapping Forwarded message questions = questions
heard mapping NickRefused message questions = questions
heard mapping Refused message questions = questions
heard mapping Invited message questions = questions
heard mapping Nothing message questions = questions

-- ---- the question

-- An account is asked for only if the server also says when somebody logs in or out: else it would stay known for too long.
abbrev pub may_ask : Questions → Bool
may_ask questions = questions.notifies && questions.knows

-- the channel that the process asks about next
abbrev pub due : Questions → Option (List ℕ)
due questions = if may_ask questions then slice_get questions.channels 0 else None

-- once it is asked about, a channel waits no more
abbrev pub asked : Questions → Questions
asked questions = if may_ask questions then record questions { channels = drop 1 questions.channels } else questions

-- each member's channel, user, host, nick and account, after the token 152, by which the bot knows the answer (354)
abbrev pub who_line : List ℕ → List ℕ
who_line channel = codes "WHO " ++ (channel ++ codes " %tcuhna,152")
