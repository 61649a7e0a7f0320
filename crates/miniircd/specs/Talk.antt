-- PRIVMSG, NOTICE and PING (RFC 2812 sections 3.3 and 3.7.2), and all lines of the commands whose lines are exact.
use Rattle.std.specs.Prelude.{ℕ, Bool, true, false, ◌==◌, List, [], ◌∷◌, Option, Some, None, length, nat_lt, codes, if◌then◌else◌}
use Rattle.std.specs.List.{slice_split}
use Rattle.rfccase.specs.Channels.{is_channel_name}
use Rattle.ircline.specs.declared.message.Message.{Message}
use Rattle.miniircd.specs.declared.client_identity.ClientIdentity.{ClientIdentity}
use Rattle.miniircd.specs.declared.member.ServerChannel.{ServerChannel}
use Rattle.miniircd.specs.declared.client_command.ClientCommand.{ClientCommand}
use Rattle.miniircd.specs.declared.client_command.ClientCommand.TheVariants as command
use Rattle.miniircd.specs.People.{is_registered, held_at, holder, word_at}
use Rattle.miniircd.specs.Rooms.{room, has_member}
use Rattle.miniircd.specs.Mail.{Letter}
use Rattle.miniircd.specs.Lines.{letter, told, repeated, relayed, source_of, spread, others, join_letters_each}
use Rattle.miniircd.specs.Commands.{command_of, needed}

-- a NOTICE does nothing when a PRIVMSG would be refused
abbrev pub loudly : Bool → Letter → List Letter
loudly loud one = if loud then one ∷ [] else []

abbrev pub talk_command : Bool → List ℕ
talk_command loud = if loud then codes "PRIVMSG" else codes "NOTICE"

abbrev pub speech : Bool → ClientIdentity → List ℕ → List ℕ → List ℕ
speech loud p target text = relayed (source_of p) (talk_command loud) (32 ∷ target) text

-- to a channel: to all who are on it except the client
abbrev pub talk_to_room : Bool → ℕ → ClientIdentity → List ℕ → List ℕ → Option ServerChannel → List Letter
talk_to_room loud client p target text None = loudly loud (told client p (codes "403") (repeated target) (codes "No such channel"))
talk_to_room loud client p target text (Some channel) =
    if has_member client channel.members
    then spread (speech loud p target text) (others client channel.members)
    else loudly loud (told client p (codes "442") (repeated target) (codes "Not on channel"))

-- the registered client that holds a nick
abbrev pub is_there : Option ClientIdentity → Bool
is_there None = false
is_there (Some p) = is_registered p

abbrev pub if_there : List (Option ClientIdentity) → Option ℕ → Option ℕ
if_there clients None = None
if_there clients (Some client) = if is_there (held_at clients client) then Some client else None

abbrev pub talk_to_client : Bool → ℕ → ClientIdentity → List ℕ → List ℕ → Option ℕ → List Letter
talk_to_client loud client p target text None = loudly loud (told client p (codes "401") (repeated target) (codes "No such nick"))
talk_to_client loud client p target text (Some to) = letter to (speech loud p target text) ∷ []

abbrev pub talk_letters : Bool → ℕ → ClientIdentity → List (Option ClientIdentity) → List ServerChannel → List ℕ → List ℕ → List Letter
talk_letters loud client p clients channels target text =
    if is_channel_name target
    then talk_to_room loud client p target text (room target channels)
    else talk_to_client loud client p target text (if_there clients (holder target clients))

-- the answer to a PING
abbrev pub pong : ℕ → List ℕ → Letter
pong client text = letter client (relayed (codes "irc.test") (codes "PONG") (codes " irc.test") text)

abbrev pub too_few : ℕ → ClientIdentity → List ℕ → Letter
too_few client p word = told client p (codes "461") (repeated word) (codes "Need more parameters")

-- the letters of a PING, JOIN, PRIVMSG or NOTICE of a registered client
abbrev pub exact_by : ClientCommand → ℕ → ClientIdentity → List (Option ClientIdentity) → List ServerChannel → List (List ℕ) → Option (List Letter)
exact_by command.Ping client p clients channels ps = Some (pong client (word_at 0 ps) ∷ [])
exact_by command.Join client p clients channels ps = Some (join_letters_each client p clients (slice_split (λ b. b == 44) (word_at 0 ps)) channels)
exact_by command.Privmsg client p clients channels ps = Some (talk_letters true client p clients channels (word_at 0 ps) (word_at 1 ps))
exact_by command.Notice client p clients channels ps = Some (talk_letters false client p clients channels (word_at 0 ps) (word_at 1 ps))
exact_by command.Nick client p clients channels ps = None
exact_by command.User client p clients channels ps = None
exact_by command.Part client p clients channels ps = None
exact_by command.Topic client p clients channels ps = None
exact_by command.Kick client p clients channels ps = None
exact_by command.Mode client p clients channels ps = None
exact_by command.Names client p clients channels ps = None
exact_by command.Who client p clients channels ps = None
exact_by command.Quit client p clients channels ps = None
exact_by (command.Ask asked) client p clients channels ps = None
exact_by command.Unknown client p clients channels ps = None

-- the same if there are too few parameters
abbrev pub exact_of_few : ClientCommand → ℕ → ClientIdentity → List ℕ → Option (List Letter)
exact_of_few command.Notice client p word = Some []
exact_of_few command.Ping client p word = Some (too_few client p word ∷ [])
exact_of_few command.Join client p word = Some (too_few client p word ∷ [])
exact_of_few command.Privmsg client p word = Some (too_few client p word ∷ [])
exact_of_few command.Nick client p word = None
exact_of_few command.User client p word = None
exact_of_few command.Part client p word = None
exact_of_few command.Topic client p word = None
exact_of_few command.Kick client p word = None
exact_of_few command.Mode client p word = None
exact_of_few command.Names client p word = None
exact_of_few command.Who client p word = None
exact_of_few command.Quit client p word = None
exact_of_few (command.Ask asked) client p word = None
exact_of_few command.Unknown client p word = None

abbrev pub exact_letters : ℕ → ClientIdentity → List (Option ClientIdentity) → List ServerChannel → Message → Option (List Letter)
exact_letters client p clients channels m =
    if is_registered p
    then (if nat_lt (length m.params) (needed (command_of m.command))
    then exact_of_few (command_of m.command) client p m.command
    else exact_by (command_of m.command) client p clients channels m.params)
    else None
