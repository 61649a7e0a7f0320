-- Who a person is, which flags and info text a person has, whom a ban keeps off, and which ban comes back.
use Rattle.std.specs.Prelude.{◌≡◌, ◌<◌, ◌≤◌, ◌⊎◌, ℕ, ◌+◌, ◌*◌, ◌==◌, nat_lt, nat_le, Bool, ◌&&◌, ◌||◌, List, [], ◌∷◌, ◌++◌, length, map, filter, find}
use Rattle.std.specs.Prelude.{slice_get, codes, if◌then◌else◌, Option, None, Some}
use Rattle.std.specs.List.{list_all}
use Rattle.rfccase.specs.Casemapping.{is_same_by}
use Rattle.rfccase.specs.declared.casemappings.Casemapping.{Casemapping}
use Rattle.userfile.specs.Held.{user_of, entry_of}
use Rattle.userfile.specs.Hostmasks.{is_match, literals}
use Rattle.userfile.specs.declared.user.User.{User}
use Rattle.userfile.specs.declared.channel_flags.ChannelFlags.{ChannelFlags}
use Rattle.userfile.specs.declared.flags.PersonFlags.{PersonFlags}
use Rattle.userfile.specs.declared.ban.Ban.{Ban}

-- ---- who a person is

-- a hostmask that matches a person: the number of its literals, and its user
pub record Claim : Type 0 where
  pub literals : ℕ
  pub user : User

abbrev pub claim : ℕ → User → Claim
claim literals user = record { literals = literals; user = user }

-- the claims of a user's masks that match, in the order of the masks
abbrev pub claims_of : Casemapping → List ℕ → User → List (List ℕ) → List Claim
claims_of mapping who user masks = map (λ mask. claim (literals mask) user) (filter (λ mask. is_match mapping mask who) masks)

-- the claims of all users, those of an earlier user first
abbrev pub claims : Casemapping → List ℕ → List User → List Claim
claims mapping who [] = []
claims mapping who (user ∷ users) = claims_of mapping who user user.masks ++ claims mapping who users

-- whether each of these claims has at most `most` literals
abbrev pub is_most : ℕ → List Claim → Bool
is_most most others = list_all (λ c. nat_le c.literals most) others

-- the user of the first claim that no later claim exceeds in literals: the earliest of those with most
unfoldable pub decider : List Claim → Option User
decider [] = None
decider (c ∷ cs) = if is_most c.literals cs then Some c.user else decider cs

-- the user that a person is
abbrev pub user_for : Casemapping → List ℕ → List User → Option User
user_for mapping who users = decider (claims mapping who users)

-- the handle of a user, or * for an unknown person
abbrev pub handle_or_star : Option User → List ℕ
handle_or_star None = codes "*"
handle_or_star (Some user) = user.handle

abbrev pub handle_of : Casemapping → List User → List ℕ → List ℕ
handle_of mapping users who = handle_or_star (user_for mapping who users)

-- the claim at index k decides: the claims before it have fewer literals, and those after it no more
pub record IsDecider (cs : List Claim) (k : ℕ) (c : Claim) : Type 0 where
  pub here : slice_get cs k ≡ Some c
  pub before : (j : ℕ) (other : Claim) → j < k → slice_get cs j ≡ Some other → other.literals < c.literals
  pub behind : (j : ℕ) (other : Claim) → k < j → slice_get cs j ≡ Some other → other.literals ≤ c.literals

-- the handle is that of the user whose claim decides, or * if no hostmask matches
abbrev pub IsHandleFor : Casemapping → List User → List ℕ → List ℕ → Type 0
IsHandleFor mapping users who handle =
    ((claims mapping who users ≡ []) × (handle ≡ codes "*"))
    ⊎ ((k : ℕ) × ((c : Claim) × (IsDecider (claims mapping who users) k c × (handle ≡ c.user.handle))))

-- ---- flags

abbrev pub entry_flags : Option ChannelFlags → ℕ
entry_flags None = 0
entry_flags (Some entry) = entry.flags

abbrev pub flags_on : List ℕ → Option User → PersonFlags
flags_on channel None = record { global = 0; chan = 0; bot = 0 }
flags_on channel (Some user) = record { global = user.global; chan = entry_flags (entry_of channel user.channels); bot = user.bot }

-- the flags of the user of a handle, and none if there is no such user
abbrev pub flags_of : List User → List ℕ → List ℕ → PersonFlags
flags_of users handle channel = flags_on channel (user_of handle users)

-- ---- info texts

abbrev pub info_or_none : Option User → List ℕ
info_or_none None = []
info_or_none (Some user) = user.info

-- the info text of the user of a handle, and the empty text if there is no such user
abbrev pub info_of : List User → List ℕ → List ℕ
info_of users handle = info_or_none (user_of handle users)

-- ---- bans

-- a ban keeps a person off a channel if it is of that channel or of all, has not ended, and its mask matches
abbrev pub bars : Casemapping → List ℕ → List ℕ → ℕ → Ban → Bool
bars mapping channel who now ban =
    (length ban.channel == 0 || is_same_by mapping channel ban.channel) && (ban.expires == 0 || nat_lt now ban.expires) && is_match mapping ban.mask who

-- the first ban that keeps a person off a channel
abbrev pub ban_for : Casemapping → List Ban → List ℕ → List ℕ → ℕ → Option Ban
ban_for mapping bans channel who now = find (bars mapping channel who now) bans

-- a ban comes back to a channel when this mask is removed from it: the ban is sticky, of that channel or of all, has
-- not ended, and its mask is the same by casemapping
abbrev pub returns_to : Casemapping → List ℕ → List ℕ → ℕ → Ban → Bool
returns_to mapping channel mask now ban =
    ban.sticky && (length ban.channel == 0 || is_same_by mapping channel ban.channel) && (ban.expires == 0 || nat_lt now ban.expires) && is_same_by mapping mask ban.mask

-- the first ban that comes back to a channel when this mask is removed from it
abbrev pub sticky_ban : Casemapping → List Ban → List ℕ → List ℕ → ℕ → Option Ban
sticky_ban mapping bans channel mask now = find (returns_to mapping channel mask now) bans

-- the expiry of a ban made at `now` for `minutes` minutes; a ban for 0 minutes never ends, and its expiry is 0
abbrev pub expires_at : ℕ → ℕ → ℕ
expires_at now minutes = if minutes == 0 then 0 else now + 60 * minutes
