-- The records of a part of sound records are of good shape.
use Rattle.std.proofs.Common.{◌≡◌, ℕ, ◌-◌, ◌*◌, true, false, List, [], ◌∷◌, drop}
use Rattle.std.specs.List.{list_any, list_all, AllByRecursion}
use Rattle.userfile.specs.Records.{Records}
use Rattle.userfile.specs.Together.{is_user, is_good_ban, repeats_mask, is_over, AreSound}
use Rattle.userfile.specs.declared.user.User.{User}
use Rattle.userfile.specs.declared.ban.Ban.{Ban}
use Rattle.userfile.proofs.SoundLemmas.{first_none, if_none}
use Rattle.userfile.proofs.RepeatLemmas.{or_false, and_true}
use Rattle.usercodec.specs.Records.{HasShape}
use Rattle.protocol.specs.Snapshots.{user_items, ban_items, items_of, part_of}
use Rattle.protocol.proofs.Lists.{all-take, all-drop, all-append}

-- ---- users and bans

users_shaped : (users : List User) → list_all is_user users ≡ true → list_any (λ (u : User). repeats_mask u.masks) users ≡ false
    → list_any is_over users ≡ false
    → AllByRecursion HasShape (user_items users)
users_shaped [] good apart within = tt
users_shaped (user ∷ users) good apart within =
    (((and_true good).0, (or_false apart).0, (or_false within).0), users_shaped users (and_true good).1 (or_false apart).1 (or_false within).1)

bans_shaped : (bans : List Ban) → list_all is_good_ban bans ≡ true → AllByRecursion HasShape (ban_items bans)
bans_shaped [] good = tt
bans_shaped (ban ∷ bans) good = ((and_true good).0, bans_shaped bans (and_true good).1)

items_shaped : (held : Records) → AreSound held → AllByRecursion HasShape (items_of held)
items_shaped held sound =
    let masks = first_none (first_none sound.together).1 in
    let over = or_false (if_none _ (first_none masks.1).1) in
    all-append HasShape (user_items held.users) (ban_items held.bans)
    (users_shaped held.users sound.users (if_none _ masks.0) over.1) (bans_shaped held.bans sound.bans)

pub part_shaped : (held : Records) (number : ℕ) → AreSound held → AllByRecursion HasShape (part_of held number)
part_shaped held number sound =
    all-take HasShape 8 (drop (8 * (number - 1)) (items_of held))
    (all-drop HasShape (8 * (number - 1)) (items_of held) (items_shaped held sound))
