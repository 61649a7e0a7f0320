-- Lines one after another.
use Rattle.std.proofs.Common.{◌≡◌, ℕ, zero, suc, ◌+◌, ◌<◌, List, [], ◌∷◌, ◌++◌, length, drop, get_or, slice_get, refl, sym, ap, ◌∙◌, arith}
use Rattle.std.proofs.Common.{append_assoc, add-one}
use Rattle.std.specs.List.{flat_map}
use Rattle.std.proofs.lemmas.List.{drop_more}
use Rattle.userfile.specs.declared.user.User.{User}
use Rattle.userfile.specs.declared.ban.Ban.{Ban}
use Rattle.recordtext.specs.Text.{user_lines, ban_lines}
use Rattle.recordtext.specs.Users.{found_user, found_ban}

-- the next lines are added
pub lines-more : {A : Type 0} (f : A → List ℕ) (xs : List A) (place : ℕ) (x : A) (before after all : List ℕ) → place < length xs → x ≡ get_or xs place x
    → after ≡ before ++ f x
    → before ++ flat_map f (drop place xs) ≡ all → after ++ flat_map f (drop (place + 1) xs) ≡ all
lines-more f xs place x before after all within is added e =
    ap (λ a. a ++ flat_map f (drop (place + 1) xs)) added
    ∙ append_assoc before (f x) (flat_map f (drop (place + 1) xs))
    ∙ ap (λ y. before ++ (f y ++ flat_map f (drop (place + 1) xs))) is
    ∙ ap (λ l. before ++ flat_map f l) (sym (drop_more xs place x within))
    ∙ e

-- a user, and a ban, who are looked up by place
found_user-drop : (bot : ℕ) (users : List User) (place : ℕ) → place < length users
    → flat_map (user_lines bot) (drop place users) ≡ found_user bot (slice_get users place) ++ flat_map (user_lines bot) (drop (suc place) users)
found_user-drop bot [] place h = absurd (omega arith)
found_user-drop bot (u ∷ us) zero h = refl
found_user-drop bot (u ∷ us) (suc place) h = found_user-drop bot us place (omega arith)

pub users-more : (bot : ℕ) (users : List User) (place : ℕ) (before after all : List ℕ) → place < length users
    → after ≡ before ++ found_user bot (slice_get users place)
    → before ++ flat_map (user_lines bot) (drop place users) ≡ all → after ++ flat_map (user_lines bot) (drop (place + 1) users) ≡ all
users-more bot users place before after all within added e =
    ap (λ a. a ++ flat_map (user_lines bot) (drop (place + 1) users)) added
    ∙ append_assoc before _ _
    ∙ ap (λ n. before ++ (found_user bot (slice_get users place) ++ flat_map (user_lines bot) (drop n users))) (add-one place)
    ∙ ap (λ l. before ++ l) (sym (found_user-drop bot users place within))
    ∙ e

found_ban-drop : (bot : ℕ) (bans : List Ban) (place : ℕ) → place < length bans
    → flat_map (ban_lines bot) (drop place bans) ≡ found_ban bot (slice_get bans place) ++ flat_map (ban_lines bot) (drop (suc place) bans)
found_ban-drop bot [] place h = absurd (omega arith)
found_ban-drop bot (b ∷ bs) zero h = refl
found_ban-drop bot (b ∷ bs) (suc place) h = found_ban-drop bot bs place (omega arith)

pub bans-more : (bot : ℕ) (bans : List Ban) (place : ℕ) (before after all : List ℕ) → place < length bans
    → after ≡ before ++ found_ban bot (slice_get bans place)
    → before ++ flat_map (ban_lines bot) (drop place bans) ≡ all → after ++ flat_map (ban_lines bot) (drop (place + 1) bans) ≡ all
bans-more bot bans place before after all within added e =
    ap (λ a. a ++ flat_map (ban_lines bot) (drop (place + 1) bans)) added
    ∙ append_assoc before _ _
    ∙ ap (λ n. before ++ (found_ban bot (slice_get bans place) ++ flat_map (ban_lines bot) (drop n bans))) (add-one place)
    ∙ ap (λ l. before ++ l) (sym (found_ban-drop bot bans place within))
    ∙ e
