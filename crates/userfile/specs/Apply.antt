-- What a change makes of the records, and when it is refused. The changes are Eggdrop's .+user, .-user, .+host,
-- .-host, .chattr, .botattr, .+ban, .-ban, .chinfo, .stick and .unstick; the order of the refusals is our own choice.
use Rattle.std.specs.Prelude.{◌≡◌, ℕ, List, [], ◌∷◌, ◌++◌, Bool, true, false, not, ◌||◌, nat_lt, ◌==◌, length, map, if◌then◌else◌, Option, None, Some, Result}
use Rattle.std.specs.Prelude.{Ok, Err}
use Rattle.bytetext.specs.declared.failure.Failure.{Failure}
use Rattle.bytetext.specs.declared.failure.Failure.TheVariants.{Refused, NoMemory}
use Rattle.rfccase.specs.Channels.{is_channel_name}
use Rattle.userfile.specs.Shapes.{is_handle, is_ban_channel, is_hostmask, is_comment, is_info, is_person}
use Rattle.userfile.specs.Records.{Records}
use Rattle.userfile.specs.Rights.{may}
use Rattle.userfile.specs.Held.{user_of, has_user, users_without, with_user, has_mask, masks_without, has_entry, entries_without, with_entry, has_ban}
use Rattle.userfile.specs.Held.{is_ban, bans_without, bans_of}
use Rattle.userfile.specs.declared.user.User.{User}
use Rattle.userfile.specs.declared.channel_flags.ChannelFlags.{ChannelFlags}
use Rattle.userfile.specs.declared.ban.Ban.{Ban}
use Rattle.userfile.specs.declared.change.Asker.{Asker}
use Rattle.userfile.specs.declared.change.Change.{Change}
use Rattle.userfile.specs.declared.edit.Edit.{Edit}
use Rattle.userfile.specs.declared.edit.Edit.TheVariants.{AddUser, DelUser, AddHost, DelHost, SetGlobal, SetChan, SetBot, AddBan, DelBan, SetInfo, SetSticky}
use Rattle.userfile.specs.declared.error.ChangeFault.{ChangeFault}
use Rattle.userfile.specs.declared.error.ChangeFault.TheVariants.{BadHandle, BadMask, BadChannel, BadComment, NoSuchUser, UserExists, MaskExists}
use Rattle.userfile.specs.declared.error.ChangeFault.TheVariants.{NoSuchMask, BanExists, NoSuchBan, Full, NotAllowed}
use Rattle.userfile.specs.declared.limits.TheConstants.{MAX_USERS, MAX_BANS, MAX_CHANNEL_BANS, MAX_MASKS, MAX_CHANNELS}

-- ---- refusals

-- the fault, if the test passes
abbrev pub fault_if : Bool → ChangeFault → Option ChangeFault
fault_if test fault = if test then Some fault else None

-- the fault, if the test fails
abbrev pub fault_unless : Bool → ChangeFault → Option ChangeFault
fault_unless test fault = if test then None else Some fault

-- the first of two refusals
abbrev pub first_of_two : Option ChangeFault → Option ChangeFault → Option ChangeFault
first_of_two None later = later
first_of_two (Some fault) later = Some fault

-- the refusal for the edit's own shape: its handle or creator, its mask, its channel, its comment or info text, in
-- this order
abbrev pub bad_edit : Edit → Option ChangeFault
bad_edit (AddUser handle) = fault_unless (is_handle handle) BadHandle
bad_edit (DelUser handle) = fault_unless (is_handle handle) BadHandle
bad_edit (AddHost handle mask) = first_of_two (fault_unless (is_handle handle) BadHandle) (fault_unless (is_hostmask mask) BadMask)
bad_edit (DelHost handle mask) = first_of_two (fault_unless (is_handle handle) BadHandle) (fault_unless (is_hostmask mask) BadMask)
bad_edit (SetGlobal handle flags) = fault_unless (is_handle handle) BadHandle
bad_edit (SetChan handle channel flags) = first_of_two (fault_unless (is_handle handle) BadHandle) (fault_unless (is_channel_name channel) BadChannel)
bad_edit (SetBot handle flags) = fault_unless (is_handle handle) BadHandle
bad_edit (AddBan channel mask creator expires comment) =
    first_of_two (fault_unless (is_handle creator) BadHandle)
    (first_of_two (fault_unless (is_hostmask mask) BadMask)
    (first_of_two (fault_unless (is_ban_channel channel) BadChannel)
    (fault_unless (is_comment comment) BadComment)))
bad_edit (DelBan channel mask) = first_of_two (fault_unless (is_hostmask mask) BadMask) (fault_unless (is_ban_channel channel) BadChannel)
bad_edit (SetInfo handle info) = first_of_two (fault_unless (is_handle handle) BadHandle) (fault_unless (is_info info) BadComment)
bad_edit (SetSticky channel mask on) = first_of_two (fault_unless (is_hostmask mask) BadMask) (fault_unless (is_ban_channel channel) BadChannel)

-- the refusal of a user's edit: NoSuchUser if there is no such user, else what the test returns for the user
abbrev pub of_user : Option User → (User → Option ChangeFault) → Option ChangeFault
of_user None test = Some NoSuchUser
of_user (Some user) test = test user

-- why a user can't be given a mask: the user has it, or there is no room for one more
abbrev pub add_mask_fault : List ℕ → User → Option ChangeFault
add_mask_fault mask user =
    first_of_two (fault_if (has_mask mask user.masks) MaskExists) (fault_unless (nat_lt (length user.masks) MAX_MASKS) Full)

-- why a mask can't be removed from a user: the user doesn't have it
abbrev pub del_mask_fault : List ℕ → User → Option ChangeFault
del_mask_fault mask user = fault_unless (has_mask mask user.masks) NoSuchMask

-- why a user's flags on a channel can't be set: they need one more entry, and there is no room for it
abbrev pub set_channel_fault : List ℕ → ℕ → User → Option ChangeFault
set_channel_fault channel flags user =
    fault_unless (flags == 0 || has_entry channel user.channels || nat_lt (length user.channels) MAX_CHANNELS) Full

-- the refusal of an edit of good shape, for what the records hold and for their limits
abbrev pub not_taken : Records → Edit → Option ChangeFault
not_taken old (AddUser handle) =
    first_of_two (fault_if (has_user handle old.users) UserExists) (fault_unless (nat_lt (length old.users) MAX_USERS) Full)
not_taken old (DelUser handle) = fault_unless (has_user handle old.users) NoSuchUser
not_taken old (AddHost handle mask) = of_user (user_of handle old.users) (add_mask_fault mask)
not_taken old (DelHost handle mask) = of_user (user_of handle old.users) (del_mask_fault mask)
not_taken old (SetGlobal handle flags) = fault_unless (has_user handle old.users) NoSuchUser
not_taken old (SetChan handle channel flags) = of_user (user_of handle old.users) (set_channel_fault channel flags)
not_taken old (SetBot handle flags) = fault_unless (has_user handle old.users) NoSuchUser
not_taken old (AddBan channel mask creator expires comment) =
    first_of_two (fault_if (has_ban channel mask old.bans) BanExists) (fault_unless (nat_lt (length old.bans) MAX_BANS) Full)
not_taken old (DelBan channel mask) = fault_unless (has_ban channel mask old.bans) NoSuchBan
not_taken old (SetInfo handle info) = fault_unless (has_user handle old.users) NoSuchUser
not_taken old (SetSticky channel mask on) = fault_unless (has_ban channel mask old.bans) NoSuchBan

-- ---- what an edit makes

-- a user without hostmasks, flags or an info text
abbrev pub new_user : List ℕ → User
new_user handle = record { handle = handle; masks = []; global = 0; channels = []; bot = 0; info = [] }

-- the user with one more hostmask, after the others
abbrev pub with_mask : List ℕ → User → User
with_mask mask user = record user { masks = user.masks ++ mask ∷ [] }

-- the user without this hostmask
abbrev pub without_mask : List ℕ → User → User
without_mask mask user = record user { masks = masks_without mask user.masks }

-- the user with these flags everywhere
abbrev pub with_global : ℕ → User → User
with_global flags user = record user { global = flags }

-- a user's channels after the flags on one are set: empty flags delete its entry
abbrev pub set_channel : List ℕ → ℕ → List ChannelFlags → List ChannelFlags
set_channel channel flags entries =
    if flags == 0 then entries_without channel entries else with_entry (record { channel = channel; flags = flags }) entries

-- the user with these flags on a channel
abbrev pub with_channel : List ℕ → ℕ → User → User
with_channel channel flags user = record user { channels = set_channel channel flags user.channels }

-- the user with these flags as a bot
abbrev pub with_bot : ℕ → User → User
with_bot flags user = record user { bot = flags }

-- the user with this info text
abbrev pub with_info : List ℕ → User → User
with_info info user = record user { info = info }

-- the records, the user with the handle edited
abbrev pub user_edited : Records → List ℕ → (User → User) → Records
user_edited old handle edit = record old { users = with_user handle edit old.users }

-- a ban with these fields, which isn't sticky
abbrev pub new_ban : List ℕ → List ℕ → List ℕ → ℕ → List ℕ → Ban
new_ban channel mask creator expires comment =
    record { channel = channel; mask = mask; creator = creator; expires = expires; comment = comment; sticky = false }

-- a ban, marked as sticky or not if it is the one of this channel and mask
abbrev pub marked : List ℕ → List ℕ → Bool → Ban → Ban
marked channel mask on ban = if is_ban channel mask ban then record ban { sticky = on } else ban

-- the bans in their order, the one of this channel and mask marked
abbrev pub with_sticky : List ℕ → List ℕ → Bool → List Ban → List Ban
with_sticky channel mask on bans = map (marked channel mask on) bans

-- the records after an edit that isn't refused
abbrev pub edit_made : Records → Edit → Records
edit_made old (AddUser handle) = record old { users = old.users ++ new_user handle ∷ [] }
edit_made old (DelUser handle) = record old { users = users_without handle old.users }
edit_made old (AddHost handle mask) = user_edited old handle (with_mask mask)
edit_made old (DelHost handle mask) = user_edited old handle (without_mask mask)
edit_made old (SetGlobal handle flags) = user_edited old handle (with_global flags)
edit_made old (SetChan handle channel flags) = user_edited old handle (with_channel channel flags)
edit_made old (SetBot handle flags) = user_edited old handle (with_bot flags)
edit_made old (AddBan channel mask creator expires comment) = record old { bans = old.bans ++ new_ban channel mask creator expires comment ∷ [] }
edit_made old (DelBan channel mask) = record old { bans = bans_without channel mask old.bans }
edit_made old (SetInfo handle info) = user_edited old handle (with_info info)
edit_made old (SetSticky channel mask on) = record old { bans = with_sticky channel mask on old.bans }

-- whether an edit allocates: it adds a user, a hostmask or a ban, or sets flags on a channel or an info text, neither
-- of them empty
abbrev pub edit_grows : Edit → Bool
edit_grows (AddUser handle) = true
edit_grows (DelUser handle) = false
edit_grows (AddHost handle mask) = true
edit_grows (DelHost handle mask) = false
edit_grows (SetGlobal handle flags) = false
edit_grows (SetChan handle channel flags) = not (flags == 0)
edit_grows (SetBot handle flags) = false
edit_grows (AddBan channel mask creator expires comment) = true
edit_grows (DelBan channel mask) = false
edit_grows (SetInfo handle info) = not (length info == 0)
edit_grows (SetSticky channel mask on) = false

-- ---- a change: an edit, and who asks for it

-- who asks is written as nick!user@host
abbrev pub bad_asker : Option Asker → Option ChangeFault
bad_asker None = None
bad_asker (Some asker) = fault_unless (is_person asker.person) BadMask

-- the refusal for the change's own shape: that of who asks, and then that of the edit
abbrev pub bad_shape : Change → Option ChangeFault
bad_shape change = first_of_two (bad_asker change.by) (bad_edit change.edit)

-- the refusal for the right of who asks, by the users just before the change; nobody's name has the right to every edit
abbrev pub no_right : List User → Option Asker → Edit → Option ChangeFault
no_right users None edit = None
no_right users (Some asker) edit = fault_unless (may users asker edit) NotAllowed

-- whether a channel has room for a person's ban: it is one of fewer than 100; a ban of all channels always has room
abbrev pub has_ban_room : List ℕ → List Ban → Bool
has_ban_room channel bans = length channel == 0 || nat_lt (length (bans_of channel bans)) MAX_CHANNEL_BANS

-- whether a person's edit stays within what persons may take of a limit
abbrev pub is_within_share : List Ban → Edit → Bool
is_within_share bans (AddUser handle) = true
is_within_share bans (DelUser handle) = true
is_within_share bans (AddHost handle mask) = true
is_within_share bans (DelHost handle mask) = true
is_within_share bans (SetGlobal handle flags) = true
is_within_share bans (SetChan handle channel flags) = true
is_within_share bans (SetBot handle flags) = true
is_within_share bans (AddBan channel mask creator expires comment) = has_ban_room channel bans
is_within_share bans (DelBan channel mask) = true
is_within_share bans (SetInfo handle info) = true
is_within_share bans (SetSticky channel mask on) = true

abbrev pub over_share : List Ban → Option Asker → Edit → Option ChangeFault
over_share bans None edit = None
over_share bans (Some asker) edit = fault_unless (is_within_share bans edit) Full

-- the refusal of a change of good shape
abbrev pub not_allowed : Records → Change → Option ChangeFault
not_allowed old change =
    first_of_two (no_right old.users change.by change.edit)
    (first_of_two (not_taken old change.edit)
    (over_share old.bans change.by change.edit))

-- the first refusal that applies, in this order: shape, the right of who asks, what the records hold, limits
abbrev pub refusal : Records → Change → Option ChangeFault
refusal old change = first_of_two (bad_shape change) (not_allowed old change)

-- the refusal of an edit in nobody's name
abbrev pub edit_refusal : Records → Edit → Option ChangeFault
edit_refusal old edit = first_of_two (bad_edit edit) (not_taken old edit)

-- the records after a change that isn't refused
abbrev pub changed : Records → Change → Records
changed old change = edit_made old change.edit

-- what applying a change returns, and what it leaves
abbrev pub Applies : Records → Change → Result Unit (Failure ChangeFault) → Records → Type 0
Applies old change (Ok _) new = (refusal old change ≡ None) × (new ≡ changed old change)
Applies old change (Err (Refused fault)) new = (refusal old change ≡ Some fault) × (new ≡ old)
Applies old change (Err NoMemory) new = (refusal old change ≡ None) × (new ≡ old)

-- whether a change allocates
abbrev pub grows : Change → Bool
grows change = edit_grows change.edit
