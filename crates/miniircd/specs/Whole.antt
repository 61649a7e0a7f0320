-- What is true of the server between any two calls: members of channels are connected, and texts may stand in lines.
use Rattle.std.specs.Prelude.{◌≡◌, ℕ, Bool, true, not, ◌&&◌, ◌||◌, List, Option, Some, None, is_some, length, nat_le}
use Rattle.std.specs.List.{list_all}
use Rattle.ircline.specs.Classes.{filled, nospcrlf, trailing}
use Rattle.miniircd.specs.declared.client_identity.ClientIdentity.{ClientIdentity}
use Rattle.miniircd.specs.declared.member.ServerMember.{ServerMember}
use Rattle.miniircd.specs.declared.member.ServerChannel.{ServerChannel}
use Rattle.miniircd.specs.People.{held_at}
use Rattle.miniircd.specs.Commands.{is_nick}

-- whether a client is connected
abbrev pub is_held : List (Option ClientIdentity) → ℕ → Bool
is_held clients client = is_some (held_at clients client)

-- whether each of these members is a client that passes a test
abbrev pub are_clients : (ℕ → Bool) → List ServerMember → Bool
are_clients test members = list_all (λ m. test m.client) members

-- whether all who are on a channel pass a test, and its topic has no NUL, CR or LF
abbrev pub is_sound_channel : (ℕ → Bool) → ServerChannel → Bool
is_sound_channel test channel = are_clients test channel.members && trailing channel.topic

abbrev pub are_sound_channels : (ℕ → Bool) → List ServerChannel → Bool
are_sound_channels test channels = list_all (is_sound_channel test) channels

-- a nick, if given, is valid; a user name has at most 30 bytes, none of which is NUL, CR, LF or a space
abbrev pub is_sound_person : ClientIdentity → Bool
is_sound_person p = (not (filled p.nick) || is_nick p.nick) && (nat_le (length p.user) 30 && list_all nospcrlf p.user)

abbrev pub is_sound_slot : Option ClientIdentity → Bool
is_sound_slot None = true
is_sound_slot (Some p) = is_sound_person p

-- what the server keeps of each client is sound, and each member of a channel is a connected client
pub record IsWhole (clients : List (Option ClientIdentity)) (channels : List ServerChannel) : Type 0 where
  pub people : (client : ℕ) → is_sound_slot (held_at clients client) ≡ true
  pub rooms : are_sound_channels (is_held clients) channels ≡ true
