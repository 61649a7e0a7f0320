-- Users whose handles differ, put into a map one by one.
use Rattle.std.proofs.Common.{◌≡◌, ℕ, ◌≤◌, Bool, true, false, cond, List, [], ◌∷◌, ◌++◌, length, sym, ap, subst, ◌∙◌, refl, nat_eq}
use Rattle.std.proofs.Common.{append_assoc, None, Some}
use Rattle.std.specs.Map.{values_of}
use Rattle.std.specs.Cmp.Lexicographic.{pointwise}
use Rattle.indexmap.specs.IndexMap.{insert_entry}
use Rattle.std.specs.declared.vec.Vec.{Vec}
use Rattle.std.specs.declared.alloc.Global.{Global}
use Rattle.std.specs.List.{list_any, list_all}
use Rattle.rfccase.specs.Casemapping.{folded, is_same}
use Rattle.userfile.specs.Keys.{IsKeyed}
use Rattle.userfile.specs.declared.user.User.{User}
use Rattle.userfile.specs.declared.limits.TheConstants.{MAX_HANDLE}
use Rattle.userfile.specs.Held.{user_of}
use Rattle.userfile.specs.Together.{is_user, repeats_handle}
use Rattle.rfccase.proofs.SameLemmas.{is_same-sym}
use Rattle.userfile.proofs.TextLemmas.{is_handle-length}
use Rattle.userfile.proofs.EntryLemmas.{Entry, IsKeyed-append, values_of-append, inserted_last}
use Rattle.userfile.proofs.RepeatLemmas.{or_false, and_true}

-- what no element passes, the one in the middle doesn't
list_any-middle : {X : Type 0} (p : X → Bool) (ys zs : List X) (x : X) → list_any p (ys ++ x ∷ zs) ≡ false → p x ≡ false
list_any-middle p [] zs x none = (or_false none).0
list_any-middle p (y ∷ ys) zs x none = list_any-middle p ys zs x (or_false none).1

list_all-middle : {X : Type 0} (p : X → Bool) (ys zs : List X) (x : X) → list_all p (ys ++ x ∷ zs) ≡ true → p x ≡ true
list_all-middle p [] zs x all = (and_true all).0
list_all-middle p (y ∷ ys) zs x all = list_all-middle p ys zs x (and_true all).1

-- where no handle is held twice, a user's is not among those before
pub fresh : (ys zs : List User) (x : User) → repeats_handle (ys ++ x ∷ zs) ≡ false → user_of x.handle ys ≡ None
fresh [] zs x apart = refl
fresh (y ∷ ys) zs x apart =
    let differs : is_same x.handle y.handle ≡ false = is_same-sym x.handle y.handle
    ∙ list_any-middle (λ (u : User). is_same y.handle u.handle) ys zs x (or_false apart).0 in
    ap (λ b. cond b (Some y) (user_of x.handle ys)) differs ∙ fresh ys zs x (or_false apart).1

-- a good user's handle is short
pub short_handle : (ys zs : List User) (x : User) → list_all is_user (ys ++ x ∷ zs) ≡ true → length x.handle ≤ MAX_HANDLE
unfolding is_user
short_handle ys zs x good = is_handle-length _ (and_true (and_true (and_true (list_all-middle is_user ys zs x good)).0).0).0

-- the next user goes last
pub one_more : (all ys zs : List User) (u : User) (es new : List Entry) (k : Vec ℕ Global) → list_all is_user all ≡ true → repeats_handle all ≡ false
    → all ≡ ys ++ u ∷ zs → IsKeyed es → values_of es ≡ ys
    → k.items ≡ folded u.handle → new ≡ insert_entry (λ a b. pointwise nat_eq a.items b.items) es k u
    → IsKeyed new × (values_of new ≡ ys ++ u ∷ []) × (all ≡ (ys ++ u ∷ []) ++ zs)
one_more all ys zs u es new k good apart parts keyed made key inserted =
    let nobody = ap (user_of u.handle) made ∙ fresh ys zs u (ap repeats_handle (sym parts) ∙ apart) in
    let last = inserted ∙ inserted_last u.handle k u es key keyed nobody in
    let short = short_handle ys zs u (ap (list_all is_user) (sym parts) ∙ good) in (
      subst IsKeyed (sym last) (IsKeyed-append _ _ _ keyed key short),
      ap values_of last ∙ values_of-append es _ _ ∙ ap (λ vs. vs ++ u ∷ []) made,
      parts
          ∙ sym (append_assoc ys (u ∷ []) zs),
    )
