-- A user that is read, as plain data.
use Rattle.std.specs.Prelude.{ℕ, List, map}
use Rattle.std.specs.Borrow.{Bor}
use Rattle.userfile.specs.declared.channel_flags.ChannelFlags.{ChannelFlags}
use Rattle.userfile.specs.declared.user.User.{User}
use Rattle.usercodec.specs.declared.user_fields.EntryFields.{EntryFields}
use Rattle.usercodec.specs.declared.user_fields.UserFields.{UserFields}

abbrev pub texts_of : List (Bor (List ℕ)) → List (List ℕ)
texts_of texts = map (λ text. text.now) texts

abbrev pub entry_of : EntryFields → ChannelFlags
entry_of entry = record { channel = entry.channel.now; flags = entry.flags }

abbrev pub entries_of : List EntryFields → List ChannelFlags
entries_of entries = map entry_of entries

-- the user with these fields
abbrev pub user_of : UserFields → User
user_of fields =
    record {
      handle = fields.handle.now;
      masks = texts_of fields.masks.items;
      global = fields.global;
      channels = entries_of fields.channels.items;
      bot = fields.bot;
      info = fields.info.now;
    }
