-- What an edit of one user makes of the user.
use Rattle.std.specs.Prelude.{List, ℕ, Bool, true, false}
use Rattle.userfile.specs.Apply.{without_mask, with_global, with_bot, with_info}
use Rattle.userfile.specs.Held.{entries_without}
use Rattle.userfile.specs.declared.channel_flags.ChannelFlags.{ChannelFlags}
use Rattle.userfile.specs.declared.user.User.{User}
use Rattle.userfile.specs.declared.user_edits.UserEdit.{UserEdit}
use Rattle.userfile.specs.declared.user_edits.UserEdit.TheVariants.{DelMask, SetGlobal, DelChannel, SetChannels, SetBot, SetInfo}

-- the user with these flags on channels
abbrev pub with_channels : List ChannelFlags → User → User
with_channels entries user = record user { channels = entries }

-- the user without flags on this channel
abbrev pub without_channel : List ℕ → User → User
without_channel channel user = with_channels (entries_without channel user.channels) user

-- the user after an edit; the handle stays
abbrev pub edited : UserEdit → User → User
edited (DelMask mask) user = without_mask mask.now user
edited (SetGlobal flags) user = with_global flags user
edited (DelChannel channel) user = without_channel channel.now user
edited (SetChannels entries) user = with_channels entries user
edited (SetBot flags) user = with_bot flags user
edited (SetInfo info) user = with_info info user

-- whether the edit changes the user's masks
abbrev pub is_of_masks : UserEdit → Bool
is_of_masks (DelMask mask) = true
is_of_masks (SetGlobal flags) = false
is_of_masks (DelChannel channel) = false
is_of_masks (SetChannels entries) = false
is_of_masks (SetBot flags) = false
is_of_masks (SetInfo info) = false
