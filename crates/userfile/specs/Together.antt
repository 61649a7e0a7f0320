-- Which records can be together in one userfile, and what making a userfile of them returns.
use Rattle.std.specs.Prelude.{◌≡◌, ℕ, List, [], ◌∷◌, Bool, true, false, not, ◌&&◌, ◌||◌, ◌==◌, nat_lt, length, Option, None, Some, Result, Ok, Err}
use Rattle.std.specs.List.{list_any, list_all}
use Rattle.bytetext.specs.declared.failure.Failure.{Failure}
use Rattle.bytetext.specs.declared.failure.Failure.TheVariants.{Refused, NoMemory}
use Rattle.rfccase.specs.Channels.{is_channel_name}
use Rattle.userfile.specs.Shapes.{is_handle, is_ban_channel, is_comment, is_info}
use Rattle.userfile.specs.Records.{Records}
use Rattle.rfccase.specs.Casemapping.{is_same}
use Rattle.userfile.specs.Held.{is_ban}
use Rattle.userfile.specs.Apply.{fault_if, first_of_two}
use Rattle.userfile.specs.declared.user.User.{User}
use Rattle.userfile.specs.declared.channel_flags.ChannelFlags.{ChannelFlags}
use Rattle.userfile.specs.declared.ban.Ban.{Ban}
use Rattle.userfile.specs.declared.error.ChangeFault.{ChangeFault}
use Rattle.userfile.specs.declared.error.ChangeFault.TheVariants.{UserExists, MaskExists, BanExists, Full}
use Rattle.userfile.specs.declared.limits.TheConstants.{MAX_USERS, MAX_BANS, MAX_MASKS, MAX_CHANNELS}

-- whether an element is the same as a later one
abbrev pub repeats : {X : Type 0} → (X → X → Bool) → List X → Bool
repeats same [] = false
repeats same (x ∷ xs) = list_any (same x) xs || repeats same xs

-- ---- one record

-- two entries name the same channel
abbrev pub repeats_channel : List ChannelFlags → Bool
repeats_channel entries = repeats (λ a b. is_same a.channel b.channel) entries

-- an entry names a channel, and has flags
abbrev pub is_entry : ChannelFlags → Bool
is_entry e = is_channel_name e.channel && not (e.flags == 0)

-- a user's own texts are good, the info text among them, and each channel is named once, with flags
unfoldable pub is_user : User → Bool
is_user user =
    is_handle user.handle && list_all is_entry user.channels && not (repeats_channel user.channels) && is_info user.info

-- a ban's own texts are good
unfoldable pub is_good_ban : Ban → Bool
is_good_ban ban = is_handle ban.creator && is_ban_channel ban.channel && is_comment ban.comment

-- ---- several records

-- two users have the same handle
abbrev pub repeats_handle : List User → Bool
repeats_handle users = repeats (λ a b. is_same a.handle b.handle) users

-- a mask is in the list twice
abbrev pub repeats_mask : List (List ℕ) → Bool
repeats_mask masks = repeats is_same masks

-- two bans have the same channel and mask
abbrev pub repeats_ban : List Ban → Bool
repeats_ban bans = repeats (λ a b. is_ban a.channel a.mask b) bans

-- a user has more masks or channels than a userfile holds for one user
abbrev pub is_over : User → Bool
is_over user = nat_lt MAX_MASKS (length user.masks) || nat_lt MAX_CHANNELS (length user.channels)

-- the first reason why records can't be together: a handle, then a mask of one user, then a ban comes twice, and then
-- there are too many
abbrev pub records_fault : List User → List Ban → Option ChangeFault
records_fault users bans =
    first_of_two (fault_if (repeats_handle users) UserExists)
    (first_of_two (fault_if (list_any (λ user. repeats_mask user.masks) users) MaskExists)
    (first_of_two (fault_if (repeats_ban bans) BanExists)
    (fault_if (nat_lt MAX_USERS (length users) || nat_lt MAX_BANS (length bans) || list_any is_over users) Full)))

-- what making a userfile of records returns
abbrev pub Gathers : List User → List Ban → Result Records (Failure ChangeFault) → Type 0
Gathers users bans (Ok made) = (records_fault users bans ≡ None) × (made ≡ record { users = users; bans = bans })
Gathers users bans (Err (Refused fault)) = records_fault users bans ≡ Some fault
Gathers users bans (Err NoMemory) = records_fault users bans ≡ None

-- the records of a userfile: each of them is good, and they can be together
pub record AreSound (records : Records) : Type 0 where
  pub users : list_all is_user records.users ≡ true
  pub bans : list_all is_good_ban records.bans ≡ true
  pub together : records_fault records.users records.bans ≡ None
