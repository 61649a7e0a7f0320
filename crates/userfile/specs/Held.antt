-- What records hold: the user of a handle, and what a user's lists and the bans hold. Handles, masks and channels are
-- compared by casemapping (RFC 2812 section 2.2).
use Rattle.std.specs.Prelude.{ℕ, List, [], ◌∷◌, Bool, not, ◌&&◌, find, filter, if◌then◌else◌, Option, is_some}
use Rattle.std.specs.List.{list_any}
use Rattle.rfccase.specs.Casemapping.{is_same}
use Rattle.userfile.specs.declared.user.User.{User}
use Rattle.userfile.specs.declared.channel_flags.ChannelFlags.{ChannelFlags}
use Rattle.userfile.specs.declared.ban.Ban.{Ban}

-- ---- users

-- the user with the handle
abbrev pub user_of : List ℕ → List User → Option User
user_of handle users = find (λ u. is_same handle u.handle) users

abbrev pub has_user : List ℕ → List User → Bool
has_user handle users = is_some (user_of handle users)

-- the users except the one with the handle
abbrev pub users_without : List ℕ → List User → List User
users_without handle users = filter (λ u. not (is_same handle u.handle)) users

-- the users, the one with the handle edited
abbrev pub with_user : List ℕ → (User → User) → List User → List User
with_user handle edit [] = []
with_user handle edit (u ∷ users) =
    if is_same handle u.handle then edit u ∷ users else u ∷ with_user handle edit users

-- ---- a user's hostmasks

abbrev pub has_mask : List ℕ → List (List ℕ) → Bool
has_mask mask masks = list_any (λ m. is_same mask m) masks

abbrev pub masks_without : List ℕ → List (List ℕ) → List (List ℕ)
masks_without mask masks = filter (λ m. not (is_same mask m)) masks

-- ---- a user's flags on channels

-- the entry of the channel
abbrev pub entry_of : List ℕ → List ChannelFlags → Option ChannelFlags
entry_of channel entries = find (λ e. is_same channel e.channel) entries

abbrev pub has_entry : List ℕ → List ChannelFlags → Bool
has_entry channel entries = is_some (entry_of channel entries)

abbrev pub entries_without : List ℕ → List ChannelFlags → List ChannelFlags
entries_without channel entries = filter (λ e. not (is_same channel e.channel)) entries

-- the entries, with this one replacing the one of the same channel, or last if there is none
abbrev pub with_entry : ChannelFlags → List ChannelFlags → List ChannelFlags
with_entry entry [] = entry ∷ []
with_entry entry (e ∷ entries) =
    if is_same entry.channel e.channel then entry ∷ entries else e ∷ with_entry entry entries

-- ---- bans

-- a ban is identified by its channel and its mask
abbrev pub is_ban : List ℕ → List ℕ → Ban → Bool
is_ban channel mask ban = is_same channel ban.channel && is_same mask ban.mask

abbrev pub has_ban : List ℕ → List ℕ → List Ban → Bool
has_ban channel mask bans = list_any (is_ban channel mask) bans

abbrev pub bans_without : List ℕ → List ℕ → List Ban → List Ban
bans_without channel mask bans = filter (λ ban. not (is_ban channel mask ban)) bans

-- the bans of a channel
abbrev pub bans_of : List ℕ → List Ban → List Ban
bans_of channel bans = filter (λ ban. is_same channel ban.channel) bans
