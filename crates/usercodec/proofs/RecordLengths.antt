-- How long the spellings of records are.
use Rattle.std.proofs.Common.{◌≡◌, ℕ, ◌*◌, ◌≤◌, true, false, List, [], ◌∷◌, length, ap, arith}
use Rattle.std.specs.List.{flat_map, list_all, AllByRecursion}
use Rattle.std.proofs.lemmas.Bool.Decides.{nat_tests}
use Rattle.std.proofs.lemmas.List.{length-append}
use Rattle.std.proofs.lemmas.List.Concat.{flat_map-cons}
use Rattle.rfccase.proofs.ChannelLemmas.{channel_name_is_short}
use Rattle.userfile.specs.Shapes.{is_handle, is_hostmask, is_ban_channel, is_comment, is_info}
use Rattle.userfile.specs.Together.{is_user, is_good_ban, is_entry, is_over}
use Rattle.userfile.specs.declared.ban.Ban.{Ban}
use Rattle.userfile.specs.declared.channel_flags.ChannelFlags.{ChannelFlags}
use Rattle.userfile.specs.declared.user.User.{User}
use Rattle.userfile.proofs.RepeatLemmas.{and_true}
use Rattle.usercodec.specs.declared.records.Record.{Record}
use Rattle.usercodec.specs.declared.records.Record.TheVariants as records
use Rattle.usercodec.specs.Fields.{text}
use Rattle.usercodec.specs.Records.{entry_bytes, record_bytes, IsGoodRecord}

-- ---- lists

pub all_map : {A : Type 0} (P Q : A → Type 0) → ((x : A) → P x → Q x) → (xs : List A) → AllByRecursion P xs → AllByRecursion Q xs
all_map P Q to [] all = tt
all_map P Q to (x ∷ xs) all = (to x all.0, all_map P Q to xs all.1)

-- so many items, none of them longer than this
pub many_short : {A : Type 0} (spelling : A → List ℕ) (most : ℕ) (xs : List A) → AllByRecursion (λ x. length (spelling x) ≤ most) xs
    → length (flat_map spelling xs) ≤ length xs * most
many_short spelling most [] all = omega arith
many_short spelling most (x ∷ xs) all =
    grind (arith, ap length (flat_map-cons spelling x xs), length-append (spelling x) (flat_map spelling xs), all.0, many_short spelling most xs all.1)

-- ---- fields

handle_is_short : (handle : List ℕ) → is_handle handle ≡ true → length handle ≤ 32
unfolding is_handle
handle_is_short handle good = grind (arith, nat_tests)

hostmask_is_short : (mask : List ℕ) → is_hostmask mask ≡ true → length mask ≤ 120
unfolding is_hostmask
hostmask_is_short mask good = grind (arith, nat_tests)

ban_channel_is_short : (channel : List ℕ) → is_ban_channel channel ≡ true → length channel ≤ 100
unfolding is_ban_channel
ban_channel_is_short channel good = grind (arith, nat_tests)

comment_is_short : (comment : List ℕ) → is_comment comment ≡ true → length comment ≤ 100
unfolding is_comment
comment_is_short comment good = grind (arith, nat_tests)

info_is_short : (info : List ℕ) → is_info info ≡ true → length info ≤ 80
unfolding is_info
info_is_short info good = grind (arith, nat_tests)

masks_short : (masks : List (List ℕ)) → list_all is_hostmask masks ≡ true → AllByRecursion (λ mask. length (text mask) ≤ 121) masks
masks_short [] good = tt
masks_short (mask ∷ masks) good =
    let both = and_true good in
    let short = hostmask_is_short mask both.0 in
    (omega arith, masks_short masks both.1)

entry_is_short : (entry : ChannelFlags) → is_entry entry ≡ true → length (entry_bytes entry) ≤ 109
entry_is_short entry good =
    let both = and_true good in
    let name = channel_name_is_short entry.channel both.0 in
    simp length-append (omega arith)

entries_short : (entries : List ChannelFlags) → list_all is_entry entries ≡ true → AllByRecursion (λ entry. length (entry_bytes entry) ≤ 109) entries
entries_short [] good = tt
entries_short (entry ∷ entries) good = let both = and_true good in (entry_is_short entry both.0, entries_short entries both.1)

few_masks : (user : User) → is_over user ≡ false → length user.masks ≤ 16
few_masks user good = grind (arith, nat_tests)

few_channels : (user : User) → is_over user ≡ false → length user.channels ≤ 16
few_channels user good = grind (arith, nat_tests)

-- ---- records

own_texts : (user : User) → is_user user ≡ true
    → (is_handle user.handle ≡ true) × (list_all is_entry user.channels ≡ true) × (is_info user.info ≡ true)
unfolding is_user
own_texts user good =
    let p = and_true good in
    let q = and_true (and_true p.0).0 in
    (q.0, q.1, p.1)

ban_texts : (ban : Ban) → is_good_ban ban ≡ true
    → (is_handle ban.creator ≡ true) × (is_ban_channel ban.channel ≡ true) × (is_comment ban.comment ≡ true)
unfolding is_good_ban
ban_texts ban good =
    let p = and_true good in
    let q = and_true p.0 in
    (q.0, q.1, p.1)

pub record_is_short : (value : Record) → IsGoodRecord value → length (record_bytes value) ≤ 4900
record_is_short (records.User user) good =
    let own = own_texts user good.shape.0 in
    let handle = handle_is_short user.handle own.0 in
    let masks = many_short text 121 user.masks (masks_short user.masks good.fields.0) in
    let channels = many_short entry_bytes 109 user.channels (entries_short user.channels own.1) in
    let m = few_masks user good.shape.2 in
    let n = few_channels user good.shape.2 in
    let info = info_is_short user.info own.2 in
    simp length-append (omega arith)
record_is_short (records.Ban ban) good =
    let texts = ban_texts ban good.shape in
    let creator = handle_is_short ban.creator texts.0 in
    let channel = ban_channel_is_short ban.channel texts.1 in
    let comment = comment_is_short ban.comment texts.2 in
    let mask = hostmask_is_short ban.mask good.fields.0 in
    simp length-append (omega arith)
