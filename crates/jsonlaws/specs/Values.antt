-- What a reader of JSON finds in a line of records: objects, lists, and strings whose characters have the bytes' numbers.
use Rattle.std.specs.Prelude.{ℕ, ◌==◌, ◌&&◌, nat_lt, Bool, List, [], ◌∷◌, if◌then◌else◌, codes, decimal}
use Rattle.std.specs.List.{list_all}
use Rattle.std.specs.Str.{encode_utf8_all}
use Rattle.flagexpr.specs.Letters.{spelling}
use Rattle.userfile.specs.Records.{Records}
use Rattle.userfile.specs.declared.user.User.{User}
use Rattle.userfile.specs.declared.channel_flags.ChannelFlags.{ChannelFlags}
use Rattle.userfile.specs.declared.ban.Ban.{Ban}
use Rattle.json.specs.Json.{Json, null, boolean, number, string, array, object, Items, no_items, item, no_members, member}
use Rattle.jsonlaws.specs.Strings.{is_byte}

-- a string with one character for each byte
abbrev pub characters : List ℕ → Json
characters text = string (encode_utf8_all text)

abbrev pub characters_or_null : List ℕ → Json
characters_or_null [] = null
characters_or_null (b ∷ bs) = characters (b ∷ bs)

abbrev pub second_value : ℕ → Json
second_value n = if n == 0 then null else number (decimal n)

abbrev pub items_of : {A : Type 0} → (A → Json) → List A → Items
items_of g [] = no_items
items_of g (x ∷ xs) = item (g x) (items_of g xs)

abbrev pub chan_value : ChannelFlags → Json
chan_value entry = object (member (codes "channel") (characters entry.channel) (member (codes "flags") (characters (spelling entry.flags)) no_members))

abbrev pub user_value : User → Json
user_value user =
    object (member (codes "handle") (characters user.handle) (member (codes "flags") (characters (spelling user.global))
    (member (codes "bot") (characters (spelling user.bot)) (member (codes "info") (characters_or_null user.info)
    (member (codes "masks") (array (items_of characters user.masks)) (member (codes "channels") (array (items_of chan_value user.channels)) no_members))))))

abbrev pub ban_value : Ban → Json
ban_value ban =
    object (member (codes "channel") (characters_or_null ban.channel) (member (codes "mask") (characters ban.mask)
    (member (codes "creator") (characters ban.creator) (member (codes "expires") (second_value ban.expires)
    (member (codes "comment") (characters_or_null ban.comment) (member (codes "sticky") (boolean ban.sticky) no_members))))))

abbrev pub records_value : ℕ → ℕ → Records → Json
records_value bot version records =
    object (member (codes "bot") (number (decimal bot)) (member (codes "version") (number (decimal version))
    (member (codes "users") (array (items_of user_value records.users)) (member (codes "bans") (array (items_of ban_value records.bans)) no_members))))

-- ---- records as a bot holds them: of bytes, with seconds below 2 ^ 64

abbrev pub are_bytes : List ℕ → Bool
are_bytes text = list_all is_byte text

abbrev pub fits_entry : ChannelFlags → Bool
fits_entry entry = are_bytes entry.channel

unfoldable pub fits_user : User → Bool
fits_user user = are_bytes user.handle && are_bytes user.info && list_all are_bytes user.masks && list_all fits_entry user.channels

unfoldable pub fits_ban : Ban → Bool
fits_ban ban = are_bytes ban.channel && are_bytes ban.mask && are_bytes ban.creator && nat_lt ban.expires 18446744073709551616 && are_bytes ban.comment
