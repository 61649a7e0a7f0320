-- What a change adds can be taken out again, and the records are then as before.
use Rattle.std.proofs.Common.{◌≡◌, ℕ, Bool, true, false, cond, not, ◌||◌, List, [], ◌∷◌, ◌++◌, filter}
use Rattle.std.proofs.Common.{Some, None, Option, Result, Ok, Err, IfOk, OnErr}
use Rattle.std.proofs.Common.{refl, ap, sym, subst, ◌∙◌, true≢false, is_some}
use Rattle.std.specs.List.{list_any}
use Rattle.rfccase.specs.Casemapping.{is_same}
use Rattle.rfccase.proofs.SameLemmas.{is_same-Decides}
use Rattle.userfile.specs.Records.{Records}
use Rattle.userfile.specs.Apply.{fault_unless, first_of_two, of_user, add_mask_fault, del_mask_fault, not_taken, edit_refusal, new_user}
use Rattle.userfile.specs.Apply.{with_mask, without_mask, new_ban, edit_made}
use Rattle.userfile.specs.Held.{user_of, with_user, has_mask, is_ban}
use Rattle.userfile.specs.Plans.{adds, taken_back, before, after, Suits, IsPlanFor}
use Rattle.userfile.specs.Shapes.{is_handle, is_hostmask, is_comment}
use Rattle.userfile.specs.Together.{AreSound}
use Rattle.userfile.specs.declared.user.User.{User}
use Rattle.userfile.specs.declared.plan.Plan.{Plan}
use Rattle.userfile.specs.declared.plan.Plan.TheVariants.{Later, Added, Channels, Info}
use Rattle.userfile.specs.declared.edit.Edit.{Edit}
use Rattle.userfile.specs.declared.edit.Edit.TheVariants.{AddUser, DelUser, AddHost, DelHost, SetGlobal, SetChan, SetBot, AddBan, DelBan, SetInfo, SetSticky}
use Rattle.userfile.specs.declared.error.ChangeFault.{ChangeFault}
use Rattle.userfile.specs.declared.error.ChangeFault.TheVariants.{BadHandle, BadMask, BadComment, NoSuchUser, NoSuchMask, NoSuchBan}
use Rattle.userfile.proofs.RepeatLemmas.{or_false, and_both, is_some-find}
use Rattle.userfile.proofs.SoundLemmas.{first_none, if_none, edit_made-sound}

-- ---- one element more

same-self : (a : List ℕ) → is_same a a ≡ true
same-self a = (is_same-Decides a a).1 refl

-- an element that was put last is there
list_any-last : {X : Type 0} (p : X → Bool) (xs : List X) (y : X) → p y ≡ true → list_any p (xs ++ y ∷ []) ≡ true
list_any-last p [] y e = rw e refl
list_any-last p (x ∷ xs) y e = by (p x) (list_any-last p xs y e)
  where
    by : (b : Bool) → list_any p (xs ++ y ∷ []) ≡ true → (b || list_any p (xs ++ y ∷ [])) ≡ true
    by true r = refl
    by false r = r

-- and where it alone passes a test, the others are as before without those that pass
without-last : {X : Type 0} (p : X → Bool) (xs : List X) (y : X) → list_any p xs ≡ false → p y ≡ true
    → filter (λ x. not (p x)) (xs ++ y ∷ []) ≡ xs
without-last p [] y none e = rw e refl
without-last p (x ∷ xs) y none e =
    ap (λ b. cond (not b) (x ∷ filter (λ z. not (p z)) (xs ++ y ∷ [])) (filter (λ z. not (p z)) (xs ++ y ∷ []))) (or_false none).0
    ∙ ap (λ zs. x ∷ zs) (without-last p xs y (or_false none).1 e)

both_none : {a b : Option ChangeFault} → a ≡ None → b ≡ None → first_of_two a b ≡ None
both_none e f = rw (e, f) refl

unless-true : {t : Bool} (f : ChangeFault) → t ≡ true → fault_unless t f ≡ None
unless-true f e = rw e refl

-- ---- a user

absent : (h : List ℕ) (us : List User) → is_some (user_of h us) ≡ false → list_any (λ (u : User). is_same h u.handle) us ≡ false
absent h us none = sym (is_some-find (λ (u : User). is_same h u.handle) us) ∙ none

there : (h : List ℕ) (us : List User) → is_some (user_of h (us ++ new_user h ∷ [])) ≡ true
there h us = is_some-find (λ (u : User). is_same h u.handle) (us ++ new_user h ∷ [])
    ∙ list_any-last (λ (u : User). is_same h u.handle) us (new_user h) (same-self h)

-- ---- a hostmask

found-again : (h m : List ℕ) (us : List User) (u : User) → user_of h us ≡ Some u → user_of h (with_user h (with_mask m) us) ≡ Some (with_mask m u)
found-again h m [] u at = cc
found-again h m (x ∷ xs) u at = by (is_same h x.handle) refl at (found-again h m xs u)
  where
    by : (b : Bool) → is_same h x.handle ≡ b → cond b (Some x) (user_of h xs) ≡ Some u
        → (user_of h xs ≡ Some u → user_of h (with_user h (with_mask m) xs) ≡ Some (with_mask m u))
        → user_of h (cond b (with_mask m x ∷ xs) (x ∷ with_user h (with_mask m) xs)) ≡ Some (with_mask m u)
    by true is here rest =
        let user : x ≡ u = cc in
        ap (λ b. cond b (Some (with_mask m x)) (user_of h xs)) is ∙ ap (λ v. Some (with_mask m v)) user
    by false is later rest = ap (λ b. cond b (Some x) (user_of h (with_user h (with_mask m) xs))) is ∙ rest later

mask-back : (m : List ℕ) (u : User) → has_mask m u.masks ≡ false → without_mask m (with_mask m u) ≡ u
mask-back m u none = ap (λ ms. record u { masks = ms }) (without-last (λ k. is_same m k) u.masks m none (same-self m))

user-back : (h m : List ℕ) (us : List User) (u : User) → user_of h us ≡ Some u → has_mask m u.masks ≡ false
    → with_user h (without_mask m) (with_user h (with_mask m) us) ≡ us
user-back h m [] u at none = refl
user-back h m (x ∷ xs) u at none = by (is_same h x.handle) refl at (λ later. user-back h m xs u later none)
  where
    by : (b : Bool) → is_same h x.handle ≡ b → cond b (Some x) (user_of h xs) ≡ Some u
        → (user_of h xs ≡ Some u → with_user h (without_mask m) (with_user h (with_mask m) xs) ≡ xs)
        → with_user h (without_mask m) (cond b (with_mask m x ∷ xs) (x ∷ with_user h (with_mask m) xs)) ≡ x ∷ xs
    by true is here rest =
        let user : x ≡ u = cc in
        ap (λ b. cond b (without_mask m (with_mask m x) ∷ xs) (with_mask m x ∷ with_user h (without_mask m) xs)) is
        ∙ ap (λ v. v ∷ xs) (mask-back m x (ap (λ (v : User). has_mask m v.masks) user ∙ none))
    by false is later rest =
        ap (λ b. cond b (without_mask m x ∷ with_user h (with_mask m) xs) (x ∷ with_user h (without_mask m) (with_user h (with_mask m) xs))) is
        ∙ ap (λ vs. x ∷ vs) (rest later)

record Bears (h m : List ℕ) (us : List User) : Type 0 where
  user : User
  at : user_of h us ≡ Some user
  none : has_mask m user.masks ≡ false

bears : (h m : List ℕ) (us : List User) → of_user (user_of h us) (add_mask_fault m) ≡ None → Bears h m us
bears h m us free = by (user_of h us) refl free
  where
    by : (o : Option User) → user_of h us ≡ o → of_user o (add_mask_fault m) ≡ None → Bears h m us
    by None is free = cc
    by (Some u) is free = record { user = u; at = is; none = if_none _ (first_none free).0 }

-- ---- any addition

-- what a change adds can be taken out
pub refusal-taken_back : (old : Records) (c : Edit) → edit_refusal old c ≡ None → adds c ≡ true → edit_refusal (edit_made old c) (taken_back c) ≡ None
refusal-taken_back old (AddUser h) free adding = both_none (first_none free).0 (unless-true NoSuchUser (there h old.users))
refusal-taken_back old (AddHost h m) free adding =
    let b = bears h m old.users (first_none free).1 in
    both_none (first_none free).0
    (ap (λ o. of_user o (del_mask_fault m)) (found-again h m old.users b.user b.at)
    ∙ unless-true NoSuchMask (list_any-last (λ k. is_same m k) b.user.masks m (same-self m)))
refusal-taken_back old (AddBan ch m cr ex co) free adding =
    let shape = first_none {a = fault_unless (is_handle cr) BadHandle} (first_none {b = not_taken old (AddBan ch m cr ex co)} free).0 in
    let texts = first_none {a = fault_unless (is_hostmask m) BadMask} shape.1 in
    let channel = first_none {b = fault_unless (is_comment co) BadComment} texts.1 in
    both_none (both_none texts.0 channel.0)
    (unless-true NoSuchBan (list_any-last (is_ban ch m) old.bans (new_ban ch m cr ex co) (and_both (same-self ch) (same-self m))))
refusal-taken_back old (DelUser h) free adding = absurd (true≢false (sym adding))
refusal-taken_back old (DelHost h m) free adding = absurd (true≢false (sym adding))
refusal-taken_back old (SetGlobal h f) free adding = absurd (true≢false (sym adding))
refusal-taken_back old (SetChan h ch f) free adding = absurd (true≢false (sym adding))
refusal-taken_back old (SetBot h f) free adding = absurd (true≢false (sym adding))
refusal-taken_back old (DelBan ch m) free adding = absurd (true≢false (sym adding))
refusal-taken_back old (SetInfo h i) free adding = absurd (true≢false (sym adding))
refusal-taken_back old (SetSticky ch m on) free adding = absurd (true≢false (sym adding))

-- and then the records are as before
pub changed-taken_back : (old : Records) (c : Edit) → edit_refusal old c ≡ None → adds c ≡ true → edit_made (edit_made old c) (taken_back c) ≡ old
changed-taken_back old (AddUser h) free adding =
    ap (λ us. record old { users = us })
    (without-last (λ (u : User). is_same h u.handle) old.users (new_user h) (absent h old.users (if_none _ (first_none (first_none free).1).0)) (same-self h))
changed-taken_back old (AddHost h m) free adding =
    let b = bears h m old.users (first_none free).1 in
    ap (λ us. record old { users = us }) (user-back h m old.users b.user b.at b.none)
changed-taken_back old (AddBan ch m cr ex co) free adding =
    ap (λ bs. record old { bans = bs })
    (without-last (is_ban ch m) old.bans (new_ban ch m cr ex co) (if_none _ (first_none (first_none free).1).0) (and_both (same-self ch) (same-self m)))
changed-taken_back old (DelUser h) free adding = absurd (true≢false (sym adding))
changed-taken_back old (DelHost h m) free adding = absurd (true≢false (sym adding))
changed-taken_back old (SetGlobal h f) free adding = absurd (true≢false (sym adding))
changed-taken_back old (SetChan h ch f) free adding = absurd (true≢false (sym adding))
changed-taken_back old (SetBot h f) free adding = absurd (true≢false (sym adding))
changed-taken_back old (DelBan ch m) free adding = absurd (true≢false (sym adding))
changed-taken_back old (SetInfo h i) free adding = absurd (true≢false (sym adding))
changed-taken_back old (SetSticky ch m on) free adding = absurd (true≢false (sym adding))

-- ---- plans

-- what is held since a plan was made stands together
pub planned-sound : {E : Type 0} (result : Result Plan E) (old held : Records) (c : Edit) → AreSound old → edit_refusal old c ≡ None
    → IfOk result (λ plan. IsPlanFor plan c old held) → OnErr result (held ≡ old) → AreSound held
planned-sound (Ok Later) old held c s free ok err = subst AreSound (sym ok.0) s
planned-sound (Ok Added) old held c s free ok err = subst AreSound (sym ok.0) (edit_made-sound old c s free)
planned-sound (Ok (Channels h es)) old held c s free ok err = subst AreSound (sym ok.0) s
planned-sound (Ok (Info h i)) old held c s free ok err = subst AreSound (sym ok.0) s
planned-sound (Err _) old held c s free ok err = subst AreSound (sym err) s

pub IsPlanFor-before : (plan : Plan) (c : Edit) (old held : Records) → edit_refusal old c ≡ None → IsPlanFor plan c old held → before plan c held ≡ old
IsPlanFor-before Later c old held free is = is.0
IsPlanFor-before Added c old held free is = ap (λ r. edit_made r (taken_back c)) is.0 ∙ changed-taken_back old c free is.1
IsPlanFor-before (Channels h es) c old held free is = is.0
IsPlanFor-before (Info h i) c old held free is = is.0

pub IsPlanFor-after : (plan : Plan) (c : Edit) (old held : Records) → IsPlanFor plan c old held → after plan c held ≡ edit_made old c
IsPlanFor-after Later c old held is = ap (λ r. edit_made r c) is.0
IsPlanFor-after Added c old held is = is.0
IsPlanFor-after (Channels h es) c old held is = ap (λ r. edit_made r c) is.0
IsPlanFor-after (Info h i) c old held is = ap (λ r. edit_made r c) is.0

pub IsPlanFor-Suits : (plan : Plan) (c : Edit) (old held : Records) → edit_refusal old c ≡ None → IsPlanFor plan c old held → Suits plan c held
IsPlanFor-Suits Later c old held free is = (subst (λ r. edit_refusal r c ≡ None) (sym is.0) free, is.1)
IsPlanFor-Suits Added c old held free is =
    (subst (λ r. edit_refusal r (taken_back c) ≡ None) (sym is.0) (refusal-taken_back old c free is.1), is.1)
IsPlanFor-Suits (Channels h es) c old held free is = subst (λ r. Suits (Channels h es) c r) (sym is.0) (free, is.1)
IsPlanFor-Suits (Info h i) c old held free is = subst (λ r. Suits (Info h i) c r) (sym is.0) (free, is.1)
