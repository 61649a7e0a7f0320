-- What a map's look-ups and edits mean for the users in it.
use Rattle.std.proofs.Common.{◌≡◌, ℕ, ◌+◌, ◌<◌, ◌≤◌, Bool, true, false, cond, List, [], ◌∷◌, ◌++◌, filter, length, nat_eq, refl, sym, ap, subst}
use Rattle.std.proofs.Common.{◌∙◌, None, Some, arith}
use Rattle.std.specs.List.{position_from}
use Rattle.std.specs.Map.{values_of, keys_of, lookup, set_value}
use Rattle.std.specs.Cmp.Lexicographic.{pointwise}
use Rattle.indexmap.specs.IndexMap.{insert_entry}
use Rattle.std.specs.declared.vec.Vec.{Vec}
use Rattle.std.specs.declared.alloc.Global.{Global}
use Rattle.rfccase.specs.Casemapping.{folded, is_same}
use Rattle.userfile.specs.declared.user.User.{User}
use Rattle.userfile.specs.declared.limits.TheConstants.{MAX_HANDLE}
use Rattle.userfile.specs.Held.{user_of, with_user}
use Rattle.userfile.specs.Keys.{IsKeyed}
use Rattle.userfile.proofs.TextLemmas.{is_same-length}

-- an entry of the map
abbrev pub Entry : Type 0
Entry = Vec ℕ Global × User

-- the test by which a look-up goes
abbrev pub has_key : List ℕ → Vec ℕ Global → Bool
has_key lower k = pointwise nat_eq lower k.items

-- users that stand under their handles still do with one more that does
pub IsKeyed-append : (es : List Entry) (k : Vec ℕ Global) (u : User) → IsKeyed es → k.items ≡ folded u.handle → length u.handle ≤ MAX_HANDLE
    → IsKeyed (es ++ (k, u) ∷ [])
IsKeyed-append [] k u h e short = (e, short, tt)
IsKeyed-append (x ∷ xs) k u h e short = (h.0, h.1, IsKeyed-append xs k u h.2 e short)

-- and so do those that a test keeps
pub IsKeyed-filter : (p : Entry → Bool) (es : List Entry) → IsKeyed es → IsKeyed (filter p es)
IsKeyed-filter p [] h = tt
IsKeyed-filter p (x ∷ xs) h = by (p x) (IsKeyed-filter p xs h.2)
  where
    by : (b : Bool) → IsKeyed (filter p xs) → IsKeyed (cond b (x ∷ filter p xs) (filter p xs))
    by true rest = (h.0, h.1, rest)
    by false rest = rest

-- and so they do where one is edited and keeps its handle
pub IsKeyed-set_value : (lower : List ℕ) (es : List Entry) (v w : User) → IsKeyed es → lookup (has_key lower) es ≡ Some v → w.handle ≡ v.handle
    → IsKeyed (set_value (has_key lower) es w)
IsKeyed-set_value lower [] v w keyed found same = tt
IsKeyed-set_value lower (x ∷ xs) v w keyed found same = by (has_key lower x.0) found (λ f. IsKeyed-set_value lower xs v w keyed.2 f same)
  where
    by : (b : Bool) → cond b (Some x.1) (lookup (has_key lower) xs) ≡ Some v
        → (lookup (has_key lower) xs ≡ Some v → IsKeyed (set_value (has_key lower) xs w))
        → IsKeyed (cond b ((x.0, w) ∷ xs) (x ∷ set_value (has_key lower) xs w))
    by true here rest =
        let user : x.1 ≡ v = cc in
        let handle : x.1.handle ≡ w.handle = ap (λ (u : User). u.handle) user ∙ sym same in
        (keyed.0 ∙ ap folded handle, subst (λ (h : List ℕ). length h ≤ MAX_HANDLE) handle keyed.1, keyed.2)
    by false later rest = (keyed.0, keyed.1, rest later)

-- the values of entries that a test of the value keeps are the values that it keeps
pub values_of-filter : (p : User → Bool) (es : List Entry) → values_of (filter (λ e. p e.1) es) ≡ filter p (values_of es)
values_of-filter p [] = refl
values_of-filter p (x ∷ xs) = by (p x.1) (values_of-filter p xs)
  where
    by : (b : Bool) → values_of (filter (λ e. p e.1) xs) ≡ filter p (values_of xs)
        → values_of (cond b (x ∷ filter (λ e. p e.1) xs) (filter (λ e. p e.1) xs)) ≡ cond b (x.1 ∷ filter p (values_of xs)) (filter p (values_of xs))
    by true rest = ap (λ us. x.1 ∷ us) rest
    by false rest = rest

-- the values of entries with one more
pub values_of-append : (es : List Entry) (k : Vec ℕ Global) (u : User) → values_of (es ++ (k, u) ∷ []) ≡ values_of es ++ u ∷ []
values_of-append [] k u = refl
values_of-append (x ∷ xs) k u = ap (λ us. x.1 ∷ us) (values_of-append xs k u)

-- a look-up by a handle's lower case finds the user of the handle
pub lookup-user_of : (h lower : List ℕ) (es : List Entry) → lower ≡ folded h → IsKeyed es → lookup (has_key lower) es ≡ user_of h (values_of es)
lookup-user_of h lower [] same keyed = refl
lookup-user_of h lower (x ∷ xs) same keyed =
    by (has_key lower x.0) (pointwise nat_eq (folded h) (folded x.1.handle)) (rw (keyed.0, same) refl) (lookup-user_of h lower xs same keyed.2)
  where
    by : (b t : Bool) → b ≡ t → lookup (has_key lower) xs ≡ user_of h (values_of xs)
        → cond b (Some x.1) (lookup (has_key lower) xs) ≡ cond t (Some x.1) (user_of h (values_of xs))
    by true true e rest = refl
    by false false e rest = rest
    by true false e rest = cc
    by false true e rest = cc

-- nobody has a handle of more than 32 bytes
pub user_of-long : (h : List ℕ) (es : List Entry) → MAX_HANDLE < length h → IsKeyed es → user_of h (values_of es) ≡ None
user_of-long h [] long keyed = refl
user_of-long h (x ∷ xs) long keyed =
    let short : length x.1.handle ≤ MAX_HANDLE = keyed.1 in
    ap (λ b. cond b (Some x.1) (user_of h (values_of xs))) (is_same-length h x.1.handle (omega arith)) ∙ user_of-long h xs long keyed.2

-- a value written where a handle's lower case stands is the user of the handle after an edit that gives it
pub values_of-set_value : (h lower : List ℕ) (es : List Entry) (v : User) (edit : User → User) → lower ≡ folded h → IsKeyed es
    → lookup (has_key lower) es ≡ Some v
    → values_of (set_value (has_key lower) es (edit v)) ≡ with_user h edit (values_of es)
values_of-set_value h lower [] v edit same keyed found = refl
values_of-set_value h lower (x ∷ xs) v edit same keyed found =
    by (has_key lower x.0) (pointwise nat_eq (folded h) (folded x.1.handle)) (rw (keyed.0, same) refl) found
    (values_of-set_value h lower xs v edit same keyed.2)
  where
    by : (b t : Bool) → b ≡ t → cond b (Some x.1) (lookup (has_key lower) xs) ≡ Some v
        → (lookup (has_key lower) xs ≡ Some v → values_of (set_value (has_key lower) xs (edit v)) ≡ with_user h edit (values_of xs))
        → values_of (cond b ((x.0, edit v) ∷ xs) (x ∷ set_value (has_key lower) xs (edit v)))
        ≡ cond t (edit x.1 ∷ values_of xs) (x.1 ∷ with_user h edit (values_of xs))
    by true true e here rest = let user : x.1 ≡ v = cc in ap (λ u. edit u ∷ values_of xs) (sym user)
    by false false e later rest = ap (λ us. x.1 ∷ us) (rest later)
    by true false e f rest = cc
    by false true e f rest = cc

-- where nobody has the handle, an edit changes nothing
pub with_user-absent : (h : List ℕ) (edit : User → User) (us : List User) → user_of h us ≡ None → with_user h edit us ≡ us
with_user-absent h edit [] none = refl
with_user-absent h edit (u ∷ us) none = by (is_same h u.handle) none (with_user-absent h edit us)
  where
    by : (b : Bool) → cond b (Some u) (user_of h us) ≡ None → (user_of h us ≡ None → with_user h edit us ≡ us)
        → cond b (edit u ∷ us) (u ∷ with_user h edit us) ≡ u ∷ us
    by true none rest = cc
    by false none rest = ap (λ us. u ∷ us) (rest none)

-- where nobody has the handle, a user who is put under its lower case goes last
pub inserted_last : (h : List ℕ) (k : Vec ℕ Global) (u : User) (es : List Entry) → k.items ≡ folded h → IsKeyed es → user_of h (values_of es) ≡ None
    → insert_entry (λ a b. pointwise nat_eq a.items b.items) es k u ≡ es ++ (k, u) ∷ []
inserted_last h k u [] same keyed none = refl
inserted_last h k u (x ∷ xs) same keyed none =
    by (pointwise nat_eq k.items x.0.items) (pointwise nat_eq (folded h) (folded x.1.handle)) (rw (same, keyed.0) refl) none
    (inserted_last h k u xs same keyed.2)
  where
    by : (b t : Bool) → b ≡ t → cond t (Some x.1) (user_of h (values_of xs)) ≡ None
        → (user_of h (values_of xs) ≡ None → insert_entry (λ a b. pointwise nat_eq a.items b.items) xs k u ≡ xs ++ (k, u) ∷ [])
        → cond b ((x.0, u) ∷ xs) (x ∷ insert_entry (λ a b. pointwise nat_eq a.items b.items) xs k u) ≡ x ∷ (xs ++ (k, u) ∷ [])
    by false false e none rest = ap (λ es. x ∷ es) (rest none)
    by true true e none rest = cc
    by true false e none rest = cc
    by false true e none rest = cc

-- a look-up by a handle's lower case finds the place of the user of the handle
pub keyed-position : (h lower : List ℕ) (es : List Entry) (i : ℕ) → lower ≡ folded h → IsKeyed es
    → position_from (has_key lower) i (keys_of es) ≡ position_from (λ (u : User). is_same h u.handle) i (values_of es)
keyed-position h lower [] i same keyed = refl
keyed-position h lower (x ∷ xs) i same keyed =
    by (has_key lower x.0) (pointwise nat_eq (folded h) (folded x.1.handle)) (rw (keyed.0, same) refl) (keyed-position h lower xs (i + 1) same keyed.2)
  where
    by : (b t : Bool) → b ≡ t → position_from (has_key lower) (i + 1) (keys_of xs) ≡ position_from (λ (u : User). is_same h u.handle) (i + 1) (values_of xs)
        → cond b (Some i) (position_from (has_key lower) (i + 1) (keys_of xs))
        ≡ cond t (Some i) (position_from (λ (u : User). is_same h u.handle) (i + 1) (values_of xs))
    by true true e rest = refl
    by false false e rest = rest
    by true false e rest = cc
    by false true e rest = cc

pub position-long : (h : List ℕ) (es : List Entry) (i : ℕ) → MAX_HANDLE < length h → IsKeyed es
    → position_from (λ (u : User). is_same h u.handle) i (values_of es) ≡ None
position-long h [] i long keyed = refl
position-long h (x ∷ xs) i long keyed =
    let short : length x.1.handle ≤ MAX_HANDLE = keyed.1 in
    ap (λ b. cond b (Some i) (position_from (λ (u : User). is_same h u.handle) (i + 1) (values_of xs))) (is_same-length h x.1.handle (omega arith))
    ∙ position-long h xs (i + 1) long keyed.2

-- two edits that make the same of the user of the handle
pub with_user-like : (h : List ℕ) (f g : User → User) (us : List User) (u : User) → user_of h us ≡ Some u → f u ≡ g u
    → with_user h f us ≡ with_user h g us
with_user-like h f g [] u found same = refl
with_user-like h f g (x ∷ xs) u found same = by (is_same h x.handle) found (with_user-like h f g xs u)
  where
    by : (b : Bool) → cond b (Some x) (user_of h xs) ≡ Some u → (user_of h xs ≡ Some u → f u ≡ g u → with_user h f xs ≡ with_user h g xs)
        → cond b (f x ∷ xs) (x ∷ with_user h f xs) ≡ cond b (g x ∷ xs) (x ∷ with_user h g xs)
    by true here rest =
        let user : x ≡ u = cc in
        ap (λ v. v ∷ xs) (ap f user ∙ same ∙ sym (ap g user))
    by false later rest = ap (λ us. x ∷ us) (rest later same)
