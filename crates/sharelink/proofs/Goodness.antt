-- The records of a userfile, one by one, have spellings.
use Rattle.std.proofs.Common.{◌≡◌, ◌<◌, ◌≤◌, ◌^◌, ℕ, ◌+◌, ◌||◌, true, false, List, [], ◌∷◌, ◌++◌, length, refl, sym, subst, arith}
use Rattle.std.proofs.lemmas.Bool.{and_parts, or_parts, ltb-false, ne_eqb}
use Rattle.std.specs.Prelude.{nat_lt}
use Rattle.std.specs.List.{AllByRecursion, list_all, list_any}
use Rattle.userfile.specs.Records.{Records}
use Rattle.userfile.specs.declared.user.User.{User}
use Rattle.userfile.specs.declared.ban.Ban.{Ban}
use Rattle.userfile.specs.declared.error.ChangeFault.TheVariants.{MaskExists, Full}
use Rattle.userfile.specs.declared.limits.TheConstants.{MAX_USERS, MAX_BANS}
use Rattle.userfile.specs.Together.{AreSound, is_user, is_good_ban, repeats_mask, is_over}
use Rattle.userfile.proofs.SoundLemmas.{first_none, if_none}
use Rattle.usercodec.specs.declared.records.Record.{Record}
use Rattle.usercodec.specs.Records.{HasShape, HasFields, IsGoodRecord}
use Rattle.botjournal.specs.declared.reply.Reply.{Reply}
use Rattle.botjournal.specs.declared.request.Request.{Request}
use Rattle.botjournal.specs.Bases.{AreListed, AreOut, IsGoodBase}
use Rattle.protocol.specs.Snapshots.{user_items, ban_items, items_of}

shaped : (users : List User) (bans : List Ban) → list_all is_user users ≡ true → list_any (λ user. repeats_mask user.masks) users ≡ false
    → list_any is_over users ≡ false → list_all is_good_ban bans ≡ true → AllByRecursion HasShape (user_items users ++ ban_items bans)
shaped [] [] are apart over good = tt
shaped [] (ban ∷ bans) are apart over good =
    let parts = and_parts (is_good_ban ban) (list_all is_good_ban bans) good in
    (parts.0, shaped [] bans are apart over parts.1)
shaped (user ∷ users) bans are apart over good =
    let one = and_parts (is_user user) (list_all is_user users) are in
    let masks = or_parts (repeats_mask user.masks) (list_any (λ other. repeats_mask other.masks) users) apart in
    let most = or_parts (is_over user) (list_any is_over users) over in
    ((one.0, masks.0, most.0), shaped users bans one.1 masks.1 most.1 good)

length_items : (users : List User) (bans : List Ban) → length (user_items users ++ ban_items bans) ≡ length users + length bans
length_items [] [] = refl
length_items [] (ban ∷ bans) = omega (arith, length_items [] bans)
length_items (user ∷ users) bans = omega (arith, length_items users bans)

all_good : (items : List Record) → AllByRecursion HasShape items → AllByRecursion HasFields items → AllByRecursion IsGoodRecord items
all_good [] shapes fields = tt
all_good (item ∷ items) shapes fields = (record { shape = shapes.0; fields = fields.0 }, all_good items shapes.1 fields.1)

few_items : (held : Records) → ((nat_lt MAX_USERS (length held.users) || nat_lt MAX_BANS (length held.bans)) || list_any is_over held.users) ≡ false
    → (length (items_of held) ≤ 700) × (list_any is_over held.users ≡ false)
few_items held full =
    let parts = or_parts (nat_lt MAX_USERS (length held.users) || nat_lt MAX_BANS (length held.bans)) (list_any is_over held.users) full in
    let counts = or_parts (nat_lt MAX_USERS (length held.users)) (nat_lt MAX_BANS (length held.bans)) parts.0 in
    let users : length held.users ≤ 500 = ltb-false MAX_USERS (length held.users) counts.0 in
    let bans : length held.bans ≤ 200 = ltb-false MAX_BANS (length held.bans) counts.1 in
    (omega (arith, length_items held.users held.bans), parts.1)

pub good_items : (held : Records) (items : List Record) → AreSound held → items ≡ items_of held → AllByRecursion HasFields items
    → AreListed IsGoodRecord items × (length items ≤ 700)
good_items held items sound same fields =
    let handles = first_none sound.together in
    let masks = first_none handles.1 in
    let bans = first_none masks.1 in
    let few = few_items held (if_none Full bans.1) in
    let shapes = shaped held.users held.bans sound.users (if_none MaskExists masks.0) few.1 sound.bans in (
      (
        subst (λ (l : List Record). length l < 2 ^ 16) (sym same) (omega (arith, few.0)),
        all_good items (subst (λ (l : List Record). AllByRecursion HasShape l) (sym same) shapes) fields,
      ),
      subst (λ (l : List Record). length l ≤ 700) (sym same) few.0,
    )

-- the base of a leaf
pub leaf_base-good : (number version last : ℕ) (items : List Record) (replies : List Reply) (out : List Request) → number < 2 ^ 16
    → version < 2 ^ 32 → last < 2 ^ 32 → AreListed IsGoodRecord items → replies ≡ [] → 0 < number → AreOut last out
    → IsGoodBase (record { bot = number; version = version; records = items; replies = replies; last_request = last; out = out })
leaf_base-good number version last items replies out bot small low listed none above good =
    subst (λ (l : List Reply). IsGoodBase (record { bot = number; version = version; records = items; replies = l; last_request = last; out = out }))
    (sym none) (record {
      bot = bot;
      version = small;
      records = listed;
      replies = (omega arith, tt);
      kept = refl;
      last_request = low;
      out = good;
      of_its_bot = rw (ne_eqb number 0 (λ same. absurd (omega (arith, same, above)))) refl;
    })
