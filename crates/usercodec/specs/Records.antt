-- The one spelling of a record, and what reading one returns.
use Rattle.std.specs.Prelude.{◌≡◌, ℕ, zero, suc, ◌<◌, ◌^◌, ◌==◌, nat_lt, Bool, true, false, not, ◌||◌, List, [], ◌∷◌, ◌++◌, Ok, Err, if◌then◌else◌}
use Rattle.std.specs.List.{list_any, list_all}
use Rattle.rfccase.specs.Casemapping.{is_same}
use Rattle.userfile.specs.Apply.{with_info}
use Rattle.userfile.specs.Held.{has_mask}
use Rattle.userfile.specs.Shapes.{is_hostmask}
use Rattle.userfile.specs.Together.{is_user, is_good_ban, repeats_mask, is_over}
use Rattle.userfile.specs.declared.ban.Ban.{Ban}
use Rattle.userfile.specs.declared.channel_flags.ChannelFlags.{ChannelFlags}
use Rattle.userfile.specs.declared.limits.TheConstants.{MAX_MASKS, MAX_CHANNELS}
use Rattle.userfile.specs.declared.user.User.{User}
use Rattle.usercodec.specs.declared.fault.CodecFault.TheVariants.{BadTag}
use Rattle.usercodec.specs.declared.records.Record.{Record}
use Rattle.usercodec.specs.declared.records.Record.TheVariants as records
use Rattle.usercodec.specs.Fields.{text, flags, mark, counted, Reading, ◌>>=◌, checked, byte_at, count_at, flags_at, handle_at, hostmask_at, channel_at}
use Rattle.usercodec.specs.Fields.{info_at, mark_at}
use Rattle.usercodec.specs.Changes.{ban_bytes, ban_at, both, made}

-- ---- spellings

-- a user's flags on a channel
abbrev pub entry_bytes : ChannelFlags → List ℕ
entry_bytes entry = text entry.channel ++ flags entry.flags

-- a user's fields before the info text
abbrev pub plain_user_bytes : User → List ℕ
plain_user_bytes user =
    text user.handle ++ (counted text user.masks ++ (flags user.global ++ (counted entry_bytes user.channels ++ flags user.bot)))

-- a user's fields
abbrev pub user_bytes : User → List ℕ
user_bytes user = plain_user_bytes user ++ text user.info

-- a ban's fields: those of a change that adds it, and whether it is sticky
abbrev pub held_ban_bytes : Ban → List ℕ
held_ban_bytes ban = ban_bytes ban ++ mark ban.sticky

-- a record: its tag in one byte, and its fields
abbrev pub record_bytes : Record → List ℕ
record_bytes (records.User user) = 3 ∷ user_bytes user
record_bytes (records.Ban ban) = 4 ∷ held_ban_bytes ban

-- the shape of a record is good by the userfile's rules
abbrev pub HasShape : Record → Type 0
HasShape (records.User user) = (is_user user ≡ true) × (repeats_mask user.masks ≡ false) × (is_over user ≡ false)
HasShape (records.Ban ban) = is_good_ban ban ≡ true

-- masks are hostmasks, flags have only bits of letters, and a moment fits in eight bytes: the types of a user and a ban
-- say so
abbrev pub HasFields : Record → Type 0
HasFields (records.User user) =
    (list_all is_hostmask user.masks ≡ true) × (user.global < 2 ^ 52)
    × (list_all (λ entry. nat_lt entry.flags (2 ^ 52)) user.channels ≡ true) × (user.bot < 2 ^ 52)
HasFields (records.Ban ban) = (is_hostmask ban.mask ≡ true) × (ban.expires < 2 ^ 64)

-- a record that has a spelling
pub record IsGoodRecord (value : Record) : Type 0 where
  pub shape : HasShape value
  pub fields : HasFields value

-- ---- reading

-- a number of items after those that are held; the read of each one knows all items before it
unfoldable pub items_at : {A : Type 0} → (List A → List ℕ → Reading A) → ℕ → List A → List ℕ → Reading (List A)
items_at item_at zero held bytes = Ok (held, bytes)
items_at item_at (suc more) held bytes = do
  item ← item_at held bytes
  items_at item_at more (held ++ item.0 ∷ []) item.1

-- a count, at most `most`, and the items
abbrev pub counted_at : {A : Type 0} → ℕ → (List A → List ℕ → Reading A) → List ℕ → Reading (List A)
counted_at most item_at bytes = do
  count ← count_at most bytes
  items_at item_at count.0 [] count.1

-- a hostmask that is not among those held, by casemapping
unfoldable pub mask_at : List (List ℕ) → List ℕ → Reading (List ℕ)
mask_at held bytes = checked (λ mask. not (has_mask mask held)) (hostmask_at bytes)

unfoldable pub masks_at : List ℕ → Reading (List (List ℕ))
masks_at bytes = counted_at MAX_MASKS mask_at bytes

-- whether one of the entries is of the channel, by casemapping
abbrev pub has_channel : List ℕ → List ChannelFlags → Bool
has_channel channel entries = list_any (λ entry. is_same channel entry.channel) entries

-- a channel that no held entry names, and flags of at least one letter
unfoldable pub entry_at : List ChannelFlags → List ℕ → Reading ChannelFlags
entry_at held bytes = do
  channel ← checked (λ name. not (has_channel name held)) (channel_at bytes)
  bits ← checked (λ bits. not (bits == 0)) (flags_at channel.1)
  Ok (record { channel = channel.0; flags = bits.0 }, bits.1)

unfoldable pub entries_at : List ℕ → Reading (List ChannelFlags)
entries_at bytes = counted_at MAX_CHANNELS entry_at bytes

-- a user without an info text
abbrev pub plain_user : List ℕ → List (List ℕ) → ℕ → List ChannelFlags → ℕ → User
plain_user handle masks global channels bot =
    record { handle = handle; masks = masks; global = global; channels = channels; bot = bot; info = [] }

unfoldable pub plain_user_at : List ℕ → Reading User
plain_user_at bytes = do
  handle ← handle_at bytes
  masks ← masks_at handle.1
  global ← flags_at masks.1
  channels ← entries_at global.1
  bot ← flags_at channels.1
  Ok (plain_user handle.0 masks.0 global.0 channels.0 bot.0, bot.1)

unfoldable pub user_at : List ℕ → Reading User
user_at bytes = made (λ x. with_info x.1 x.0) (both plain_user_at info_at bytes)

unfoldable pub held_ban_at : List ℕ → Reading Ban
held_ban_at bytes = made (λ x. record x.0 { sticky = x.1 }) (both ban_at mark_at bytes)

-- the tags of records
abbrev pub is_record_tag : ℕ → Bool
is_record_tag tag = tag == 3 || tag == 4

-- the fields after a tag
unfoldable pub record_fields_at : ℕ → List ℕ → Reading Record
record_fields_at tag bytes =
    if tag == 3 then made records.User (user_at bytes)
    else (if tag == 4 then made records.Ban (held_ban_at bytes)
    else Err BadTag)

unfoldable pub record_at : List ℕ → Reading Record
record_at bytes = do
  tag ← byte_at bytes
  record_fields_at tag.0 tag.1

-- `count` records, one after the other
abbrev pub so_many_records_at : ℕ → List ℕ → Reading (List Record)
so_many_records_at count bytes = items_at (λ held after. record_at after) count [] bytes
