-- What the process asks about channels on a whole connection, whatever the server says.
use Rattle.std.specs.Prelude.{ℕ, Bool, false, List, [], ◌∷◌, ◌++◌, drop, Option, None, Some}
use Rattle.std.specs.List.{list_any}
use Rattle.rfccase.specs.declared.casemappings.Casemapping.{Casemapping}
use Rattle.ircline.specs.declared.message.Message.{Message}
use Rattle.serverlink.specs.declared.cue.Cue.{Cue}
use Rattle.serverlink.specs.declared.cue.Cue.TheVariants.{Welcomed, Renamed, Joined, Parted, Kicked, Barred, Forwarded, NickRefused, Refused, Supports, Invited, Nothing}
use Rattle.serverlink.specs.Cues.{param}
use Rattle.serverlink.specs.Questions.{Questions, asked, due, heard, is_whox}

-- it hears a message, which means something for the bot, or it takes the next question
pub data Event : Type 0 where
  Hears : Casemapping → Cue → Message → Event
  Asks : Event

abbrev pub after : Questions → Event → Questions
after questions (Hears mapping cue message) = heard mapping cue message questions
after questions Asks = asked questions

-- ---- the channels that it asks about

abbrev pub one_of : Option (List ℕ) → List (List ℕ)
one_of None = []
one_of (Some channel) = channel ∷ []

abbrev pub asked_in : Questions → Event → List (List ℕ)
asked_in questions (Hears mapping cue message) = []
asked_in questions Asks = one_of (due questions)

abbrev pub all_asked : Questions → List Event → List (List ℕ)
all_asked questions [] = []
all_asked questions (event ∷ events) = asked_in questions event ++ all_asked (after questions event) events

-- ---- the channels that the bot joins

abbrev pub joined_by : Cue → Message → List (List ℕ)
joined_by Joined message = param message 0 ∷ []
joined_by Welcomed message = []
joined_by Renamed message = []
joined_by Parted message = []
joined_by Kicked message = []
joined_by Barred message = []
joined_by Forwarded message = []
joined_by NickRefused message = []
joined_by Refused message = []
joined_by Supports message = []
joined_by Invited message = []
joined_by Nothing message = []

abbrev pub joined_in : Event → List (List ℕ)
joined_in (Hears mapping cue message) = joined_by cue message
joined_in Asks = []

abbrev pub all_joined : List Event → List (List ℕ)
all_joined [] = []
all_joined (event ∷ events) = joined_in event ++ all_joined events

-- ---- the token WHOX

abbrev pub announced_by : Cue → Message → Bool
announced_by Supports message = list_any is_whox (drop 1 message.params)
announced_by Welcomed message = false
announced_by Renamed message = false
announced_by Joined message = false
announced_by Parted message = false
announced_by Kicked message = false
announced_by Barred message = false
announced_by Forwarded message = false
announced_by NickRefused message = false
announced_by Refused message = false
announced_by Invited message = false
announced_by Nothing message = false

abbrev pub announces : Event → Bool
announces (Hears mapping cue message) = announced_by cue message
announces Asks = false
