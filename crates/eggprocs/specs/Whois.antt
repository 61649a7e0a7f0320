-- What `whois` says: who a user is, or a member of a channel.
use Rattle.std.specs.Prelude.{ℕ, nat_le, ◌==◌, Bool, false, not, ◌&&◌, ◌||◌, List, [], ◌∷◌, ◌++◌, length, find, slice_get, unwrap_or}
use Rattle.std.specs.Prelude.{if◌then◌else◌, codes, Option, Some, None}
use Rattle.std.specs.List.{flat_map, list_all}
use Rattle.rfccase.specs.declared.casemappings.Casemapping.{Casemapping}
use Rattle.flagexpr.specs.Letters.{spelling}
use Rattle.userfile.specs.declared.user.User.{User}
use Rattle.userfile.specs.Held.{user_of}
use Rattle.userfile.specs.Hostmasks.{is_match, literals}
use Rattle.bytetext.specs.Words.{first_word}
use Rattle.chanstate.specs.declared.member.Member.{Member}
use Rattle.chanstate.specs.Views.{mapping_of, member_in, channels_with, account_in}
use Rattle.procs.specs.declared.action.Action.{Action}
use Rattle.procs.specs.declared.call.Call.{Call}
use Rattle.procs.specs.Identity.{is_known_account, handle_by}
use Rattle.procs.specs.Seen.{Seen}
use Rattle.eggprocs.specs.declared.rights.Requester.{Requester}
use Rattle.eggprocs.specs.declared.rights.Requester.TheVariants.{Elsewhere, Stranger, Master}
use Rattle.eggprocs.specs.Args.{told_of}
use Rattle.eggprocs.specs.Everyone.{address_of}
use Rattle.eggprocs.specs.People.{told, for_masters}

-- ---- a user

-- a space in front of each hostmask
abbrev pub spaced : List ℕ → List ℕ
spaced mask = codes " " ++ mask

abbrev pub listed : List (List ℕ) → List ℕ
listed masks = flat_map spaced masks

-- an info line, if there is one
abbrev pub info_text : List ℕ → List ℕ
info_text [] = []
info_text (b ∷ bs) = codes "; info: " ++ b ∷ bs

-- what the NOTICE says about a user
abbrev pub described : User → List ℕ
described user =
    user.handle ++ codes " has the flags " ++ spelling user.global ++ codes " and the hostmasks" ++ listed user.masks ++ info_text user.info

-- ---- a member of a channel

-- whether the bot knows a member's host
abbrev pub has_host : Member → Bool
has_host member = not (length member.host == 0)

abbrev pub has_host_if : Option Member → Bool
has_host_if None = false
has_host_if (Some member) = has_host member

-- whether a channel has somebody of this nick whose host the bot knows
abbrev pub shows_host : List ℕ → Seen → List ℕ → Bool
shows_host nick seen channel = has_host_if (member_in channel nick seen.sight.channels)

-- a name, or the first of these if there is none
abbrev pub or_first : Option (List ℕ) → List (List ℕ) → Option (List ℕ)
or_first None names = slice_get names 0
or_first (Some name) names = Some name

-- the first of these channels that shows the host of somebody, or else the first of all
abbrev pub best_channel : List ℕ → Seen → List (List ℕ) → Option (List ℕ)
best_channel nick seen names = or_first (find (shows_host nick seen) names) names

abbrev pub member_if : Option (List ℕ) → List ℕ → Seen → Option Member
member_if None nick seen = None
member_if (Some channel) nick seen = member_in channel nick seen.sight.channels

-- the member of this nick, as the best of the bot's channels shows it
abbrev pub member_called : List ℕ → Seen → Option Member
member_called nick seen = member_if (best_channel nick seen (channels_with nick seen.sight.channels)) nick seen

-- the account under which a member is logged in, as binds see it; empty if none is known
abbrev pub account_by : Member → Seen → List ℕ
account_by member seen = account_in member.nick seen.sight.channels

-- whether a user has a hostmask of that account, so that the account decides who the member is
abbrev pub is_by_account : Member → Seen → Bool
is_by_account member seen = is_known_account (mapping_of seen.sight.channels) seen.sight.records.users (account_by member seen)

-- the member's handle: the one under which binds know the person
abbrev pub handle_seen : Member → Seen → List ℕ
handle_seen member seen =
    handle_by (mapping_of seen.sight.channels) seen.sight.records.users (account_by member seen) (address_of member)

-- whether a hostmask does not match a person, or has at most this many literals
abbrev pub is_under : Casemapping → List ℕ → ℕ → List ℕ → Bool
is_under mapping who most mask = not (is_match mapping mask who) || nat_le (literals mask) most

-- whether a hostmask matches a person, and none of these hostmasks that match has more literals
abbrev pub has_most : Casemapping → List ℕ → List (List ℕ) → List ℕ → Bool
has_most mapping who masks mask = is_match mapping mask who && list_all (is_under mapping who (literals mask)) masks

-- the hostmask of a user that decides: of those that match, the first with most literals
abbrev pub mask_found : Casemapping → List ℕ → List (List ℕ) → Option (List ℕ)
mask_found mapping who masks = find (has_most mapping who masks) masks

abbrev pub deciding_mask : Casemapping → List ℕ → List (List ℕ) → List ℕ
deciding_mask mapping who masks = unwrap_or (mask_found mapping who masks) []

-- NICK (nick!user@host)
abbrev pub address_shown : Member → List ℕ
address_shown member = if has_host member then address_of member else codes "no known host"

abbrev pub member_shown : Member → List ℕ
member_shown member = member.nick ++ codes " (" ++ address_shown member ++ codes ")"

-- by what a member is a user
abbrev pub means_of : User → Member → Seen → List ℕ
means_of user member seen =
    if is_by_account member seen then codes "account " ++ account_by member seen
    else codes "hostmask " ++ deciding_mask (mapping_of seen.sight.channels) (address_of member) user.masks

-- NICK (nick!user@host) is HANDLE by the account NAME, or by the hostmask MASK
abbrev pub recognized : User → Member → Seen → List ℕ
recognized user member seen =
    member_shown member ++ codes " is " ++ handle_seen member seen ++ codes " by the " ++ means_of user member seen

-- the account of a member who is known to no user, if there is one
abbrev pub strange_account : Member → Seen → List ℕ
strange_account member seen =
    if length (account_by member seen) == 0 then []
    else codes "; " ++ member.nick ++ codes " is logged in to the account " ++ account_by member seen ++ codes ", which no user has"

abbrev pub recognized_if : Option User → Member → Seen → List ℕ
recognized_if None member seen = member_shown member ++ codes " is known to no user" ++ strange_account member seen
recognized_if (Some user) member seen = recognized user member seen

-- what the NOTICE says about a member; if neither an account nor an address says who it is, nothing does
abbrev pub identified : Member → Seen → List ℕ
identified member seen =
    if is_by_account member seen || has_host member
    then recognized_if (user_of (handle_seen member seen) seen.sight.records.users) member seen
    else member.nick ++ codes " has no known host" ++ strange_account member seen

-- ---- whois

abbrev pub identified_if : Option Member → Seen → List ℕ
identified_if None seen = codes "there is no such user"
identified_if (Some member) seen = identified member seen

-- what the NOTICE says about a user, or else about the member whose nick is the name
abbrev pub described_if : Option User → List ℕ → Seen → List ℕ
described_if None name seen = identified_if (member_called name seen) seen
described_if (Some user) name seen = described user

-- the name that `whois` asks about
abbrev pub name_asked : Call → List ℕ
name_asked call = first_word (told_of call)

-- what the NOTICE says about that name
abbrev pub whois : Call → Seen → List ℕ
whois call seen = described_if (user_of (name_asked call) seen.sight.records.users) (name_asked call) seen

abbrev pub asked_by_whois : Requester → Call → Seen → List Action
asked_by_whois Elsewhere call seen = []
asked_by_whois Stranger call seen = told call for_masters ∷ []
asked_by_whois Master call seen = told call (whois call seen) ∷ []
