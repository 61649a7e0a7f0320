-- The lines that the server writes.
use Rattle.std.specs.Prelude.{true, ◌≡◌, ℕ, zero, suc, ◌≤◌, ◌+◌, ◌-◌, ◌*◌, ◌/◌, ◌&&◌, List, [], ◌∷◌, ◌++◌, Option, Some, None, take, drop, length, map, filter, not, nat_le, codes, if◌then◌else◌}
use Rattle.std.specs.List.{flat_map, list_all}
use Rattle.ircline.specs.Classes.{filled, middle, trailing, names}
use Rattle.ircline.specs.Carrying.{kept_command}
use Rattle.ircline.specs.declared.message.Message.{Message}
use Rattle.ircline.specs.Printing.{wants_colon, last_text}
use Rattle.miniircd.specs.declared.client_identity.ClientIdentity.{ClientIdentity}
use Rattle.miniircd.specs.declared.member.ServerMember.{ServerMember}
use Rattle.miniircd.specs.declared.member.ServerChannel.{ServerChannel}
use Rattle.miniircd.specs.People.{held_at}
use Rattle.miniircd.specs.declared.entrance.Entrance.{Entrance}
use Rattle.miniircd.specs.declared.entrance.Entrance.TheVariants as entrance
use Rattle.miniircd.specs.Rooms.{room, is_client, entrance_of, joined}
use Rattle.miniircd.specs.Mail.{Letter}

-- ---- one line

-- replies to a client without a nick have '*' where the nick belongs
abbrev pub shown : List ℕ → List ℕ
shown nick = if filled nick then nick else 42 ∷ []

-- a word that a reply repeats has at most 100 bytes
abbrev pub repeated : List ℕ → List ℕ
repeated word = 32 ∷ take 100 word

-- a numbered reply (RFC 2812 section 5) up to its last parameter: the words have a space before each
abbrev pub numbered_head : List ℕ → List ℕ → List ℕ → List ℕ
numbered_head nick code words = codes ":irc.test " ++ code ++ codes " " ++ shown nick ++ words ++ codes " :"

-- a numbered reply of at most 510 bytes, with its last parameter cut
abbrev pub numbered : List ℕ → List ℕ → List ℕ → List ℕ → List ℕ
numbered nick code words last = numbered_head nick code words ++ take (510 - length (numbered_head nick code words)) last

-- a last parameter cut to its longest front that fits, with the colon that it may need
abbrev pub cut : ℕ → List ℕ → List ℕ
cut room last = if wants_colon (take room last) && nat_le room (length last) then take (room - 1) last else take room last

-- it is the longest of the fronts of a last parameter that fit after a space, with the colon that they may need
abbrev pub IsLongest : ℕ → List ℕ → List ℕ → Type 0
IsLongest room last front =
    (length (last_text front) ≤ room + 1)
    × ((k : ℕ) → k ≤ length last → length (last_text (take k last)) ≤ room + 1 → k ≤ length front)

abbrev pub head : List ℕ → List ℕ → List ℕ → List ℕ
head source command words = codes ":" ++ source ++ codes " " ++ command ++ words

-- a message that the server passes on (RFC 2812 section 2.3.1), of at most 510 bytes
abbrev pub relayed : List ℕ → List ℕ → List ℕ → List ℕ → List ℕ
relayed source command words last =
    head source command words ++ last_text (cut (509 - length (head source command words)) last)

-- the parts of a message that is passed on: a source and words that the protocol allows, with room for a last parameter
pub record Relays (source command last : List ℕ) (middles : List (List ℕ)) : Type 0 where
  pub named : names source ≡ true
  pub there : filled source ≡ true
  pub kept : kept_command command ≡ true
  pub words : list_all middle middles ≡ true
  pub few : length middles ≤ 14
  pub text : trailing last ≡ true
  pub short : length (head source command (flat_map (λ word. 32 ∷ word) middles)) ≤ 508

-- the line of these parts, and the message with its last parameter cut
abbrev pub relay : List ℕ → List ℕ → List ℕ → List (List ℕ) → List ℕ
relay source command last middles = relayed source command (flat_map (λ word. 32 ∷ word) middles) last

abbrev pub relay_message : List ℕ → List ℕ → List ℕ → List (List ℕ) → Message
relay_message source command last middles =
    let words = flat_map (λ word. 32 ∷ word) middles in
    record { prefix = source; command = command; params = middles ++ cut (509 - length (head source command words)) last ∷ []; rest = [] }

-- the source of a client's messages
abbrev pub source_of : ClientIdentity → List ℕ
source_of p = p.nick ++ codes "!" ++ p.user ++ codes "@local"

-- ---- letters

abbrev pub letter : ℕ → List ℕ → Letter
letter to text = record { to = to; text = text }

-- a reply to a client, about a word or about none
abbrev pub told : ℕ → ClientIdentity → List ℕ → List ℕ → List ℕ → Letter
told to p code words last = letter to (numbered p.nick code words last)

-- the same line for each of these members
abbrev pub spread : List ℕ → List ServerMember → List Letter
spread text members = map (λ m. letter m.client text) members

abbrev pub others : ℕ → List ServerMember → List ServerMember
others client members = filter (λ m. not (is_client client m)) members

-- ---- names (RFC 2812 section 5.1, replies 353 and 366)

-- an operator has '@' before its nick, else one with a voice '+'
abbrev pub marks : ServerMember → List ℕ
marks m = if m.op then codes "@" else (if m.voice then codes "+" else [])

abbrev pub name_of : Option ClientIdentity → ServerMember → List (List ℕ)
name_of None m = []
name_of (Some p) m = (marks m ++ p.nick) ∷ []

abbrev pub names_of : List (Option ClientIdentity) → List ServerMember → List (List ℕ)
names_of clients members = flat_map (λ m. name_of (held_at clients m.client) m) members

-- names separated by spaces
abbrev pub side_by_side : List (List ℕ) → List ℕ
side_by_side names = drop 1 (flat_map (λ name. 32 ∷ name) names)

-- the names of line `i`, from 0: ten in a line
abbrev pub row : List (List ℕ) → ℕ → List ℕ
row names i = side_by_side (take 10 (drop (10 * i) names))

abbrev pub listed : ℕ → ClientIdentity → List ℕ → List (List ℕ) → ℕ → Letter
listed to p name names i = told to p (codes "353") (codes " =" ++ repeated name) (row names i)

-- the lines before line `i`
unfoldable pub listed_before : ℕ → ClientIdentity → List ℕ → List (List ℕ) → ℕ → List Letter
listed_before to p name names zero = []
listed_before to p name names (suc i) = listed_before to p name names i ++ listed to p name names i ∷ []

abbrev pub listing : ℕ → ClientIdentity → List ℕ → List (List ℕ) → List Letter
listing to p name names =
    listed_before to p name names ((length names + 10 - 1) / 10) ++ told to p (codes "366") (repeated name) (codes "End of names") ∷ []

-- ---- JOIN (RFC 2812 section 3.2.1)

-- a topic, if there is one
abbrev pub titling : ℕ → ClientIdentity → List ℕ → List ℕ → List Letter
titling to p name topic = if filled topic then told to p (codes "332") (repeated name) topic ∷ [] else []

-- the JOIN is sent to all members, the new one last, who then gets the topic and the names
abbrev pub arrival : ℕ → ClientIdentity → List ℕ → List (Option ClientIdentity) → Option ServerChannel → List Letter
arrival client p name clients None = []
arrival client p name clients (Some channel) =
    spread (relayed (source_of p) (codes "JOIN") [] name) channel.members
    ++ titling client p name channel.topic
    ++ listing client p name (names_of clients channel.members)

-- the lines for one name of a JOIN, by what keeps the client out, with the channels after it
abbrev pub join_letters_by : Entrance → ℕ → ClientIdentity → List (Option ClientIdentity) → List ℕ → List ServerChannel → List Letter
join_letters_by entrance.Nameless client p clients name after = told client p (codes "403") (repeated name) (codes "No such channel") ∷ []
join_letters_by entrance.Inside client p clients name after = []
join_letters_by entrance.TooMany client p clients name after =
    told client p (codes "405") (repeated name) (codes "You have joined too many channels") ∷ []
join_letters_by entrance.Banned client p clients name after =
    told client p (codes "474") (repeated name) (codes "Cannot join channel (+b)") ∷ []
join_letters_by entrance.Open client p clients name after = arrival client p name clients (room name after)

abbrev pub join_letters : ℕ → ClientIdentity → List (Option ClientIdentity) → List ℕ → List ServerChannel → List Letter
join_letters client p clients name channels =
    join_letters_by (entrance_of client (source_of p) name channels) client p clients name (joined client (source_of p) name channels)

-- a list of names, one after another
abbrev pub join_letters_each : ℕ → ClientIdentity → List (Option ClientIdentity) → List (List ℕ) → List ServerChannel → List Letter
join_letters_each client p clients [] channels = []
join_letters_each client p clients (name ∷ names) channels =
    join_letters client p clients name channels
    ++ join_letters_each client p clients names (joined client (source_of p) name channels)
