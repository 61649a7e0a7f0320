-- Which records stand together, of those that have spellings: few, of which no two clash.
use Rattle.std.proofs.Common.{◌≡◌, ℕ, Bool, true, false, not, ◌&&◌, ◌||◌, nat_lt, nat_le, List, [], ◌∷◌, length, is_none, refl, ap, sym, ◌∙◌, arith, leb-true, leb-false, ltb-true, ltb-false}
use Rattle.std.proofs.Math.Bool.{or_assoc}
use Rattle.std.specs.List.{AllByRecursion, list_any}
use Rattle.rfccase.specs.Casemapping.{is_same}
use Rattle.userfile.specs.Held.{is_ban}
use Rattle.userfile.specs.Apply.{fault_if, first_of_two}
use Rattle.userfile.specs.Together.{repeats, repeats_handle, repeats_mask, repeats_ban, is_over}
use Rattle.userfile.specs.declared.ban.Ban.{Ban}
use Rattle.userfile.specs.declared.user.User.{User}
use Rattle.userfile.specs.declared.error.ChangeFault.TheVariants.{UserExists, MaskExists, BanExists, Full}
use Rattle.userfile.specs.declared.limits.TheConstants.{MAX_USERS, MAX_BANS}
use Rattle.usercodec.specs.declared.records.Record.{Record}
use Rattle.usercodec.specs.declared.records.Record.TheVariants as records
use Rattle.usercodec.specs.Records.{IsGoodRecord}
use Rattle.protocol.specs.Snapshots.{users_in, bans_in, records_from}
use Rattle.protocol.specs.Journals.{stand_together}
use Rattle.sharelink.specs.Parts.{clash}

-- ---- clashes are of users among users, and of bans among bans

clash-user : (user : User) (items : List Record)
    → list_any (clash (records.User user)) items ≡ list_any (λ other. is_same user.handle other.handle) (users_in items)
clash-user user [] = refl
clash-user user (records.User other ∷ items) = ap (λ b. is_same user.handle other.handle || b) (clash-user user items)
clash-user user (records.Ban other ∷ items) = clash-user user items

clash-ban : (ban : Ban) (items : List Record)
    → list_any (clash (records.Ban ban)) items ≡ list_any (λ other. is_ban ban.channel ban.mask other) (bans_in items)
clash-ban ban [] = refl
clash-ban ban (records.User other ∷ items) = clash-ban ban items
clash-ban ban (records.Ban other ∷ items) = ap (λ b. is_ban ban.channel ban.mask other || b) (clash-ban ban items)

either-later : (here users bans : Bool) → (here || (users || bans)) ≡ (users || (here || bans))
either-later true true bans = refl
either-later true false bans = refl
either-later false users bans = refl

repeats-split : (items : List Record) → repeats clash items ≡ (repeats_handle (users_in items) || repeats_ban (bans_in items))
repeats-split [] = refl
repeats-split (records.User user ∷ items) =
    ap (λ b. list_any (clash (records.User user)) items || b) (repeats-split items)
    ∙ ap (λ b. b || (repeats_handle (users_in items) || repeats_ban (bans_in items))) (clash-user user items)
    ∙ sym (or_assoc _ (repeats_handle (users_in items)) (repeats_ban (bans_in items)))
repeats-split (records.Ban ban ∷ items) =
    ap (λ b. list_any (clash (records.Ban ban)) items || b) (repeats-split items)
    ∙ ap (λ b. b || (repeats_handle (users_in items) || repeats_ban (bans_in items))) (clash-ban ban items)
    ∙ either-later _ (repeats_handle (users_in items)) (repeats_ban (bans_in items))

-- ---- a record that has a spelling is good by itself

no-mask-twice : (items : List Record) → AllByRecursion IsGoodRecord items
    → list_any (λ user. repeats_mask user.masks) (users_in items) ≡ false
no-mask-twice [] good = refl
no-mask-twice (records.User user ∷ items) good =
    ap (λ b. b || list_any (λ user. repeats_mask user.masks) (users_in items)) good.0.shape.1 ∙ no-mask-twice items good.1
no-mask-twice (records.Ban ban ∷ items) good = no-mask-twice items good.1

none-over : (items : List Record) → AllByRecursion IsGoodRecord items → list_any is_over (users_in items) ≡ false
none-over [] good = refl
none-over (records.User user ∷ items) good =
    ap (λ b. b || list_any is_over (users_in items)) good.0.shape.2 ∙ none-over items good.1
none-over (records.Ban ban ∷ items) good = none-over items good.1

-- ---- all together

-- nothing else stands against them
decided : (handles bans users_over bans_over : Bool)
    → ((not users_over && not bans_over) && not (handles || bans))
    ≡ is_none (first_of_two (fault_if handles UserExists)
    (first_of_two (fault_if false MaskExists) (first_of_two (fault_if bans BanExists) (fault_if (users_over || bans_over || false) Full))))
decided true bans true b = refl
decided true bans false true = refl
decided true bans false false = refl
decided false true true b = refl
decided false true false true = refl
decided false true false false = refl
decided false false true b = refl
decided false false false true = refl
decided false false false false = refl

few-not-over : (n m : ℕ) → nat_le n m ≡ not (nat_lt m n)
few-not-over n m = by (nat_le n m) (nat_lt m n) refl refl
  where
    by : (a b : Bool) → nat_le n m ≡ a → nat_lt m n ≡ b → nat_le n m ≡ not (nat_lt m n)
    by true false e f = e ∙ sym (ap not f)
    by false true e f = e ∙ sym (ap not f)
    by true true e f = absurd (omega (arith, leb-true n m e, ltb-true m n f))
    by false false e f = absurd (omega (arith, leb-false n m e, ltb-false m n f))

pub together_is : (items : List Record) → AllByRecursion IsGoodRecord items
    → ((nat_le (length (users_in items)) MAX_USERS && nat_le (length (bans_in items)) MAX_BANS) && not (repeats clash items))
    ≡ stand_together (records_from items)
together_is items good =
    let users = users_in items in
    let bans = bans_in items in
    ap (λ b. (b && nat_le (length bans) MAX_BANS) && not (repeats clash items)) (few-not-over (length users) MAX_USERS)
    ∙ ap (λ b. (not (nat_lt MAX_USERS (length users)) && b) && not (repeats clash items)) (few-not-over (length bans) MAX_BANS)
    ∙ ap (λ b. (not (nat_lt MAX_USERS (length users)) && not (nat_lt MAX_BANS (length bans))) && not b) (repeats-split items)
    ∙ decided (repeats_handle users) (repeats_ban bans) (nat_lt MAX_USERS (length users)) (nat_lt MAX_BANS (length bans))
    ∙ ap (λ b. is_none (first_of_two (fault_if (repeats_handle users) UserExists)
    (first_of_two (fault_if b MaskExists) (first_of_two (fault_if (repeats_ban bans) BanExists)
    (fault_if (nat_lt MAX_USERS (length users) || nat_lt MAX_BANS (length bans) || false) Full))))) (sym (no-mask-twice items good))
    ∙ ap (λ b. is_none (first_of_two (fault_if (repeats_handle users) UserExists)
    (first_of_two (fault_if (list_any (λ user. repeats_mask user.masks) users) MaskExists) (first_of_two (fault_if (repeats_ban bans) BanExists)
    (fault_if (nat_lt MAX_USERS (length users) || nat_lt MAX_BANS (length bans) || b) Full))))) (sym (none-over items good))
