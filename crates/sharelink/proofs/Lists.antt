-- One item more of what is made of a list item by item: what is made of the rest is what is made of the item and of those
-- after it.
use Rattle.std.proofs.Common.{◌≡◌, ◌==◌, ◌||◌, ℕ, zero, suc, ◌+◌, true, List, [], ◌∷◌, ◌++◌, drop, slice_get, Some, cond, refl, ap, sym, ◌∙◌, append_assoc, arith, add-one}
use Rattle.std.specs.List.{AllByRecursion, list_all, list_any, find}
use Rattle.userfile.specs.declared.user.User.{User}
use Rattle.userfile.specs.declared.ban.Ban.{Ban}
use Rattle.userfile.specs.Together.{is_user, is_good_ban}
use Rattle.usercodec.specs.declared.records.Record.{Record}
use Rattle.usercodec.specs.declared.records.Record.TheVariants as records
use Rattle.usercodec.specs.Records.{IsGoodRecord}
use Rattle.botjournal.specs.declared.reply.Reply.{Reply}
use Rattle.protocol.specs.Snapshots.{users_in, bans_in, user_items, ban_items}
use Rattle.botjournal.specs.declared.request.Request.{Request}
use Rattle.protocol.specs.Network.{no_replies}
use Rattle.protocol.specs.HubRules.{reply_to}
use Rattle.protocol.specs.LeafRules.{is_out}
use Rattle.protocol.specs.Journals.{replies_of, replies_among}

-- ---- the rest of a list

-- the item at a place, and those after it
pub drop-found : {X : Type 0} (xs : List X) (i : ℕ) (x : X) → slice_get xs i ≡ Some x → drop i xs ≡ x ∷ drop (i + 1) xs
drop-found [] i x found = cc
drop-found (y ∷ ys) zero x found = let same : y ≡ x = cc in ap (λ z. z ∷ ys) same
drop-found (y ∷ ys) (suc i) x found = rw (add-one) (drop-found ys i x found ∙ rw (add-one) refl)

-- ---- replies

-- one place more
replies_of-next : (first count leaf : ℕ) (replies : List Reply) → leaf ≡ first + count
    → replies_of first (suc count) replies ≡ replies_of first count replies ++ replies_among leaf replies ∷ []
replies_of-next first zero leaf replies at = ap (λ n. replies_among n replies ∷ []) (let same : first ≡ leaf = omega arith in same)
replies_of-next first (suc count) leaf replies at =
    ap (λ l. replies_among first replies ∷ l) (replies_of-next (first + 1) count leaf replies (omega arith))

pub replies_of-last : (first count leaf : ℕ) (replies : List Reply) → leaf ≡ first + count
    → replies_of first (count + 1) replies ≡ replies_of first count replies ++ replies_among leaf replies ∷ []
replies_of-last first count leaf replies at = rw add-one (replies_of-next first count leaf replies at)

-- where a base has none
pub replies_of-none : (first count : ℕ) → replies_of first count [] ≡ no_replies count
replies_of-none first zero = refl
replies_of-none first (suc count) = ap (λ l. [] ∷ l) (replies_of-none (first + 1) count)

-- the reply to a request is the first one of that number
pub find-reply : (request : ℕ) (kept : List Reply) → find (λ (r : Reply). r.request == request) kept ≡ reply_to request kept
find-reply request [] = refl
find-reply request (reply ∷ kept) = ap (λ o. cond (reply.request == request) (Some reply) o) (find-reply request kept)

-- ---- requests that are out

pub any-out : (number : ℕ) (out : List Request) → list_any (λ (r : Request). r.number == number) out ≡ is_out number out
any-out number [] = refl
any-out number (request ∷ out) = ap (λ b. (request.number == number) || b) (any-out number out)

-- ---- the items of a userfile

pub user-more : (front items all : List Record) (users : List User) (place : ℕ) (user : User) → slice_get users place ≡ Some user
    → items ≡ front ++ records.User user ∷ [] → front ++ user_items (drop place users) ≡ all
    → items ++ user_items (drop (place + 1) users) ≡ all
user-more front items all users place user found pushed so_far =
    ap (λ l. l ++ user_items (drop (place + 1) users)) pushed ∙ append_assoc front (records.User user ∷ []) (user_items (drop (place + 1) users))
    ∙ ap (λ l. front ++ user_items l) (sym (drop-found users place user found)) ∙ so_far

pub ban-more : (front items all : List Record) (bans : List Ban) (place : ℕ) (ban : Ban) → slice_get bans place ≡ Some ban
    → items ≡ front ++ records.Ban ban ∷ [] → front ++ ban_items (drop place bans) ≡ all
    → items ++ ban_items (drop (place + 1) bans) ≡ all
ban-more front items all bans place ban found pushed so_far =
    ap (λ l. l ++ ban_items (drop (place + 1) bans)) pushed ∙ append_assoc front (records.Ban ban ∷ []) (ban_items (drop (place + 1) bans))
    ∙ ap (λ l. front ++ ban_items l) (sym (drop-found bans place ban found)) ∙ so_far

-- ---- records of good shape

pub are_users : (items : List Record) → AllByRecursion IsGoodRecord items → list_all is_user (users_in items) ≡ true
are_users [] good = refl
are_users (records.User user ∷ items) good = rw (good.0.shape.0) (are_users items good.1)
are_users (records.Ban ban ∷ items) good = are_users items good.1

pub are_bans : (items : List Record) → AllByRecursion IsGoodRecord items → list_all is_good_ban (bans_in items) ≡ true
are_bans [] good = refl
are_bans (records.User user ∷ items) good = are_bans items good.1
are_bans (records.Ban ban ∷ items) good = rw (good.0.shape) (are_bans items good.1)
