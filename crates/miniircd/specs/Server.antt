-- The server, and how the calls change it.
use Rattle.std.specs.Prelude.{◌≡◌, ◌≢◌, ℕ, true, List, [], Option, Some, None, is_some, count_by, codes, slice_set, if◌then◌else◌}
use Rattle.ircline.specs.declared.message.Message.{Message}
use Rattle.ircline.specs.declared.line.Line.{Line}
use Rattle.ircline.specs.declared.line.Line.TheVariants as line
use Rattle.ircline.specs.Words.{up_to}
use Rattle.ircline.specs.Classes.{is_end}
use Rattle.ircline.specs.Reading.{line_of}
use Rattle.miniircd.specs.declared.client_identity.ClientIdentity.{ClientIdentity}
use Rattle.miniircd.specs.declared.member.ServerChannel.{ServerChannel}
use Rattle.miniircd.specs.declared.server_change.ServerChange.{ServerChange}
use Rattle.miniircd.specs.declared.server_change.ServerChange.TheVariants as change
use Rattle.miniircd.specs.declared.server_change.Effect.{Effect}
use Rattle.miniircd.specs.declared.server_change.Effect.TheVariants as effect
use Rattle.miniircd.specs.declared.fault.ServerFault.{ServerFault}
use Rattle.miniircd.specs.declared.fault.ServerFault.TheVariants as fault
use Rattle.miniircd.specs.People.{blank, held_at}
use Rattle.miniircd.specs.Rooms.{rooms_after, Leave}
use Rattle.miniircd.specs.declared.client.SentLine.{SentLine}
use Rattle.miniircd.specs.Mail.{Letter, are_sound}
use Rattle.miniircd.specs.Commands.{command_of, is_quit, change_of}
use Rattle.miniircd.specs.Talk.{exact_letters}

-- what each client has said of itself, by its number, and the channels
pub record Server : Type 0 where
  pub clients : List (Option ClientIdentity)
  pub channels : List ServerChannel

abbrev pub code_of : ServerFault → List ℕ
code_of fault.Full = codes "I1"
code_of fault.NoSuchClient = codes "I2"

-- how many clients are connected
abbrev pub count : Server → ℕ
count s = count_by is_some s.clients

-- a client connects under a free number, has said nothing yet, and is on no channel; all else stays
pub record Comes (client : ℕ) (old new : Server) : Type 0 where
  pub free : held_at old.clients client ≡ None
  pub came : held_at new.clients client ≡ Some blank
  pub others : (other : ℕ) → other ≢ client → held_at new.clients other ≡ held_at old.clients other
  pub channels : new.channels ≡ old.channels

-- the server after what a line of a client changes
abbrev pub changed : ℕ → ServerChange → Server → Server
changed client change.Same s = s
changed client (change.Person p) s = record s { clients = slice_set s.clients client (Some p) }
changed client (change.Channels channels) s = record s { channels = channels }

-- two changes leave the same server, each with the channels that go with it
abbrev pub LeavesAs : ℕ → List (Option ClientIdentity) → ServerChange → List ServerChannel → ServerChange → List ServerChannel → Type 0
LeavesAs client clients one channels other before =
    changed client one (record { clients = clients; channels = channels })
    ≡ changed client other (record { clients = clients; channels = before })

abbrev pub effected : ℕ → Effect → Server → Server
effected client (effect.Changed one) s = changed client one s
effected client (effect.Left channels) s = record { clients = slice_set s.clients client None; channels = channels }

-- the lines are sound, also when a client leaves
abbrev pub IsSoundAfter : ℕ → List (Option ClientIdentity) → Effect → List SentLine → Type 0
IsSoundAfter client clients (effect.Changed one) lines = are_sound clients None lines ≡ true
IsSoundAfter client clients (effect.Left channels) lines = are_sound clients (Some client) lines ≡ true

-- the client is disconnected, and on no channel
abbrev pub left : ℕ → Server → Server
left client s = record { clients = slice_set s.clients client None; channels = rooms_after None (Leave client) s.channels }

abbrev pub after_message : ℕ → ClientIdentity → Message → Server → Server
after_message client p m s =
    if is_quit (command_of m.command) then left client s else changed client (change_of client p s.clients s.channels m) s

-- a bad line is ignored
abbrev pub after_line : ℕ → ClientIdentity → Line → Server → Server
after_line client p (line.Message m) s = after_message client p m s
after_line client p (line.Bad fault) s = s

abbrev pub after_held : ℕ → Option ClientIdentity → List ℕ → Server → Server
after_held client None text s = s
after_held client (Some p) text s = after_line client p (line_of (up_to is_end text)) s

-- the server after a line of a client, whose text ends at its first CR or LF
abbrev pub after : ℕ → List ℕ → Server → Server
after client text s = after_held client (held_at s.clients client) text s

-- the letters of a PING, JOIN, PRIVMSG or NOTICE of a registered client; this says nothing of any other line
abbrev pub letters_of : ℕ → ClientIdentity → Line → Server → Option (List Letter)
letters_of client p (line.Message m) s = if is_quit (command_of m.command) then None else exact_letters client p s.clients s.channels m
letters_of client p (line.Bad fault) s = Some []

abbrev pub letters_held : ℕ → Option ClientIdentity → List ℕ → Server → Option (List Letter)
letters_held client None text s = None
letters_held client (Some p) text s = letters_of client p (line_of (up_to is_end text)) s

abbrev pub letters : ℕ → List ℕ → Server → Option (List Letter)
letters client text s = letters_held client (held_at s.clients client) text s
