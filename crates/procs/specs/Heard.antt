-- What binds and procs see of an event of a message.
use Rattle.std.specs.Prelude.{ℕ, nat_le, List, [], ◌∷◌, ◌++◌, length, slice_get, Option, Some, None, unwrap_or, Bool, true, false, if◌then◌else◌}
use Rattle.std.specs.List.{insert}
use Rattle.rfccase.specs.declared.casemappings.Casemapping.{Casemapping}
use Rattle.userfile.specs.declared.user.User.{User}
use Rattle.userfile.specs.declared.flags.PersonFlags.{PersonFlags}
use Rattle.userfile.specs.Persons.{flags_of}
use Rattle.chanstate.specs.Views.{mapping_of}
use Rattle.chanstate.specs.declared.event.IrcEvent.{IrcEvent}
use Rattle.chanstate.specs.declared.event.EventKind.{EventKind}
use Rattle.chanstate.specs.declared.event.EventKind.TheVariants.{Raw as raw_event, Msg as msg_event, Msgm as msgm_event, Notc as notc_event}
use Rattle.chanstate.specs.declared.event.EventKind.TheVariants.{Pub as pub_event, Pubm as pubm_event, Join as join_event, Part as part_event}
use Rattle.chanstate.specs.declared.event.EventKind.TheVariants.{Sign as sign_event, Kick as kick_event, Nick as nick_event}
use Rattle.chanstate.specs.declared.event.EventKind.TheVariants.{Mode as mode_event, Topc as topc_event, Account as account_event}
use Rattle.procs.specs.declared.call.Call.{Call}
use Rattle.procs.specs.declared.bind_kind.BindKind.{BindKind}
use Rattle.procs.specs.declared.bind_kind.BindKind.TheVariants.{Raw, Msg, Msgm, Notc, Pub, Pubm, Join, Part, Sign, Kick, Nick, Mode, Topc, Account}
use Rattle.procs.specs.Kinds.{call_kind_of}
use Rattle.procs.specs.Identity.{handle_by}
use Rattle.procs.specs.Seen.{Sight}

-- the kind under which binds know an event
abbrev pub kind_of : EventKind → BindKind
kind_of raw_event = Raw
kind_of msg_event = Msg
kind_of msgm_event = Msgm
kind_of notc_event = Notc
kind_of pub_event = Pub
kind_of pubm_event = Pubm
kind_of join_event = Join
kind_of part_event = Part
kind_of sign_event = Sign
kind_of kick_event = Kick
kind_of nick_event = Nick
kind_of mode_event = Mode
kind_of topc_event = Topc
kind_of account_event = Account

-- whether an event is by somebody, whose nick and user@host are its first two arguments: a raw event alone is by nobody
abbrev pub is_personal : EventKind → Bool
is_personal raw_event = false
is_personal msg_event = true
is_personal msgm_event = true
is_personal notc_event = true
is_personal pub_event = true
is_personal pubm_event = true
is_personal join_event = true
is_personal part_event = true
is_personal sign_event = true
is_personal kick_event = true
is_personal nick_event = true
is_personal mode_event = true
is_personal topc_event = true
is_personal account_event = true

-- a text of a list, or the empty text if there is none
abbrev pub text_at : List (List ℕ) → ℕ → List ℕ
text_at texts place = unwrap_or (slice_get texts place) []

-- the person, as hostmasks match one: nick!user@host
abbrev pub who_of : List (List ℕ) → List ℕ
who_of arguments = text_at arguments 0 ++ 33 ∷ text_at arguments 1

-- the arguments of a call: the person's handle follows user@host
abbrev pub with_handle : List ℕ → List (List ℕ) → List (List ℕ)
with_handle handle arguments = if nat_le 2 (length arguments) then insert arguments 2 handle else arguments

-- the flags of a handle for an event on this channel, or on none
abbrev pub flags_on : List User → List ℕ → Option (List ℕ) → PersonFlags
flags_on users handle None = record (flags_of users handle []) { chan = 0 }
flags_on users handle (Some channel) = flags_of users handle channel

-- the person behind an event, as far as the userfile knows; a raw event is by nobody
pub record Person : Type 0 where
  pub handle : List ℕ
  pub flags : PersonFlags

abbrev pub person_by : List User → List ℕ → Option (List ℕ) → Person
person_by users handle channel = record { handle = handle; flags = flags_on users handle channel }

abbrev pub nobody : Person
nobody = record { handle = []; flags = record { global = 0; chan = 0; bot = 0 } }

-- who somebody is, by the account of the event and nick!user@host; hostmasks match by the casemapping of the server
abbrev pub person_if : Bool → Casemapping → List User → IrcEvent → Person
person_if false mapping users event = nobody
person_if true mapping users event = person_by users (handle_by mapping users event.account (who_of event.arguments)) event.channel

abbrev pub person_of : Casemapping → List User → IrcEvent → Person
person_of mapping users event = person_if (is_personal event.kind) mapping users event

-- the people that a bot knows: its users, and the casemapping by which its server compares names
pub record KnownPeople : Type 0 where
  pub mapping : Casemapping
  pub users : List User

abbrev pub people_in : Sight → KnownPeople
people_in sight = record { mapping = mapping_of sight.channels; users = sight.records.users }

-- the arguments of a call
abbrev pub arguments_if : Bool → List ℕ → List (List ℕ) → List (List ℕ)
arguments_if false handle arguments = arguments
arguments_if true handle arguments = with_handle handle arguments

abbrev pub call_by : List ℕ → IrcEvent → Call
call_by handle event = record { kind = call_kind_of (kind_of event.kind); args = arguments_if (is_personal event.kind) handle event.arguments }
