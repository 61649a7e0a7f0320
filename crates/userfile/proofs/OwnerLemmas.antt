-- What persons ask for leaves an owner.
use Rattle.std.proofs.Common.{◌≡◌, ℕ, Bool, true, false, cond, not, ◌&&◌, ◌||◌, List, [], ◌∷◌, Option, Some, None, refl, ap, sym, ◌∙◌, true≢false}
use Rattle.std.specs.List.{list_any}
use Rattle.rfccase.specs.Casemapping.{is_same}
use Rattle.userfile.specs.Records.{Records}
use Rattle.userfile.specs.Apply.{refusal, changed, edit_made, new_user}
use Rattle.userfile.specs.Apply.{with_mask, without_mask, with_global, with_channel, with_bot, with_info}
use Rattle.userfile.specs.Held.{user_of, users_without, with_user}
use Rattle.userfile.specs.Persons.{user_for, flags_of, flags_on}
use Rattle.userfile.specs.Ranks.{has_owner}
use Rattle.userfile.specs.Rights.{owns, owns_beside, is_last_owner, may_ask}
use Rattle.userfile.specs.Together.{repeats_handle, AreSound}
use Rattle.userfile.specs.declared.user.User.{User}
use Rattle.userfile.specs.declared.edit.Edit.{Edit}
use Rattle.userfile.specs.declared.edit.Edit.TheVariants.{AddUser, DelUser, AddHost, DelHost, SetGlobal, SetChan, SetBot, AddBan, DelBan, SetInfo, SetSticky}
use Rattle.userfile.specs.declared.change.Asker.{Asker}
use Rattle.userfile.specs.declared.change.Change.{Change}
use Rattle.userfile.proofs.RepeatLemmas.{or_false, and_true}
use Rattle.userfile.proofs.SoundLemmas.{first_none, if_none}
use Rattle.userfile.proofs.RankLemmas.{allowed, any-append, named-like}

or-right : (a : Bool) {b : Bool} → b ≡ true → (a || b) ≡ true
or-right true e = refl
or-right false e = e

and-yes : (a : Bool) → (a && true) ≡ a
and-yes true = refl
and-yes false = refl

-- ---- an owner with another handle

beside-some : (h : List ℕ) (us : List User) → list_any (owns_beside h) us ≡ true → has_owner us ≡ true
beside-some h [] some = some
beside-some h (x ∷ us) some = by (owns x.global) some (beside-some h us)
  where
    by : (o : Bool) → ((o && not (is_same h x.handle)) || list_any (owns_beside h) us) ≡ true
        → (list_any (owns_beside h) us ≡ true → has_owner us ≡ true) → (o || has_owner us) ≡ true
    by true e rest = refl
    by false e rest = rest e

beside-without : (h : List ℕ) (us : List User) → list_any (owns_beside h) us ≡ true → has_owner (users_without h us) ≡ true
beside-without h [] some = some
beside-without h (x ∷ us) some = by (is_same h x.handle) (owns x.global) refl some (beside-without h us)
  where
    by : (b o : Bool) → owns x.global ≡ o → ((o && not b) || list_any (owns_beside h) us) ≡ true
        → (list_any (owns_beside h) us ≡ true → has_owner (users_without h us) ≡ true)
        → has_owner (cond (not b) (x ∷ users_without h us) (users_without h us)) ≡ true
    by true true is e rest = rest e
    by true false is e rest = rest e
    by false true is e rest = ap (λ t. t || has_owner (users_without h us)) is
    by false false is e rest = ap (λ t. t || has_owner (users_without h us)) is ∙ rest e

beside-edited : (h : List ℕ) (edit : User → User) (us : List User) → list_any (owns_beside h) us ≡ true → has_owner (with_user h edit us) ≡ true
beside-edited h edit [] some = some
beside-edited h edit (x ∷ us) some = by (is_same h x.handle) (owns x.global) refl some (beside-edited h edit us)
  where
    by : (b o : Bool) → owns x.global ≡ o → ((o && not b) || list_any (owns_beside h) us) ≡ true
        → (list_any (owns_beside h) us ≡ true → has_owner (with_user h edit us) ≡ true)
        → has_owner (cond b (edit x ∷ us) (x ∷ with_user h edit us)) ≡ true
    by true true is e rest = or-right (owns (edit x).global) (beside-some h us e)
    by true false is e rest = or-right (owns (edit x).global) (beside-some h us e)
    by false true is e rest = ap (λ t. t || has_owner (with_user h edit us)) is
    by false false is e rest = ap (λ t. t || has_owner (with_user h edit us)) is ∙ rest e

-- if no user has the handle, each owner has another
beside-absent : (h : List ℕ) (us : List User) → list_any (λ (u : User). is_same h u.handle) us ≡ false → list_any (owns_beside h) us ≡ has_owner us
beside-absent h [] none = refl
beside-absent h (x ∷ us) none =
    ap (λ b. (owns x.global && not b) || list_any (owns_beside h) us) (or_false none).0
    ∙ ap (λ t. t || list_any (owns_beside h) us) (and-yes (owns x.global))
    ∙ ap (λ t. owns x.global || t) (beside-absent h us (or_false none).1)

-- if the user of the handle is no owner, each owner has another
beside-other : (h : List ℕ) (us : List User) → repeats_handle us ≡ false → owns (flags_of us h []).global ≡ false → has_owner us ≡ true
    → list_any (owns_beside h) us ≡ true
beside-other h [] apart low some = some
beside-other h (x ∷ us) apart low some = by (is_same h x.handle) refl low (beside-other h us (or_false apart).1)
  where
    by : (b : Bool) → is_same h x.handle ≡ b → owns (flags_on [] (cond b (Some x) (user_of h us))).global ≡ false
        → (owns (flags_of us h []).global ≡ false → has_owner us ≡ true → list_any (owns_beside h) us ≡ true)
        → ((owns x.global && not b) || list_any (owns_beside h) us) ≡ true
    by true is low rest =
        ap (λ t. (t && false) || list_any (owns_beside h) us) low
        ∙ beside-absent h us (named-like h x.handle us is ∙ (or_false apart).0)
        ∙ sym (ap (λ t. t || has_owner us) low) ∙ some
    by false is low rest = again (owns x.global) some
      where
        again : (o : Bool) → (o || has_owner us) ≡ true → ((o && true) || list_any (owns_beside h) us) ≡ true
        again true e = refl
        again false e = rest low e

not-last : (h : List ℕ) (us : List User) → repeats_handle us ≡ false → has_owner us ≡ true → not (is_last_owner us h) ≡ true
    → list_any (owns_beside h) us ≡ true
not-last h us apart some right = by (owns (flags_of us h []).global) (list_any (owns_beside h) us) refl refl right
  where
    by : (o l : Bool) → owns (flags_of us h []).global ≡ o → list_any (owns_beside h) us ≡ l → not (o && not l) ≡ true
        → list_any (owns_beside h) us ≡ true
    by o true is at e = at
    by false false is at e = beside-other h us apart is some
    by true false is at e = absurd (true≢false (sym e))

-- ---- one user's edit

same-owners : (h : List ℕ) (edit : User → User) (us : List User) → ((u : User) → (edit u).global ≡ u.global) → has_owner (with_user h edit us) ≡ has_owner us
same-owners h edit [] same = refl
same-owners h edit (x ∷ us) same = by (is_same h x.handle) (same-owners h edit us same)
  where
    by : (b : Bool) → has_owner (with_user h edit us) ≡ has_owner us → has_owner (cond b (edit x ∷ us) (x ∷ with_user h edit us)) ≡ has_owner (x ∷ us)
    by true rest = ap (λ g. owns g || has_owner us) (same x)
    by false rest = ap (λ t. owns x.global || t) rest

-- one who is made an owner is one more
made-owner : (h : List ℕ) (f : ℕ) (us : List User) → owns f ≡ true → has_owner us ≡ true → has_owner (with_user h (with_global f) us) ≡ true
made-owner h f [] own some = some
made-owner h f (x ∷ us) own some = by (is_same h x.handle) some (made-owner h f us own)
  where
    by : (b : Bool) → (owns x.global || has_owner us) ≡ true → (has_owner us ≡ true → has_owner (with_user h (with_global f) us) ≡ true)
        → has_owner (cond b (with_global f x ∷ us) (x ∷ with_user h (with_global f) us)) ≡ true
    by true e rest = ap (λ t. t || has_owner us) own
    by false e rest = again (owns x.global) e
      where
        again : (o : Bool) → (o || has_owner us) ≡ true → (o || has_owner (with_user h (with_global f) us)) ≡ true
        again true e = refl
        again false e = rest e

-- ---- one change

keeps-owner : (old : Records) (edit : Edit) (asker : Option User) → repeats_handle old.users ≡ false → may_ask old.users asker edit ≡ true
    → has_owner old.users ≡ true → has_owner (edit_made old edit).users ≡ true
keeps-owner old (AddUser h) asker apart right some =
    any-append (λ (u : User). owns u.global) old.users (new_user h ∷ [])
    ∙ ap (λ t. t || list_any (λ (u : User). owns u.global) (new_user h ∷ [])) some
keeps-owner old (DelUser h) asker apart right some = beside-without h old.users (not-last h old.users apart some (and_true right).1)
keeps-owner old (AddHost h m) asker apart right some = same-owners h (with_mask m) old.users (λ u. refl) ∙ some
keeps-owner old (DelHost h m) asker apart right some = same-owners h (without_mask m) old.users (λ u. refl) ∙ some
keeps-owner old (SetGlobal h f) asker apart right some = by (owns f) refl (and_true right).1
  where
    by : (o : Bool) → owns f ≡ o → (o || not (is_last_owner old.users h)) ≡ true → has_owner (with_user h (with_global f) old.users) ≡ true
    by true is e = made-owner h f old.users is some
    by false is e = beside-edited h (with_global f) old.users (not-last h old.users apart some e)
keeps-owner old (SetChan h ch f) asker apart right some = same-owners h (with_channel ch f) old.users (λ u. refl) ∙ some
keeps-owner old (SetBot h f) asker apart right some = same-owners h (with_bot f) old.users (λ u. refl) ∙ some
keeps-owner old (AddBan ch m cr ex co) asker apart right some = some
keeps-owner old (DelBan ch m) asker apart right some = some
keeps-owner old (SetInfo h i) asker apart right some = same-owners h (with_info i) old.users (λ u. refl) ∙ some
keeps-owner old (SetSticky ch m on) asker apart right some = some

pub owner : (old : Records) (change : Change) (asker : Asker) → AreSound old → change.by ≡ Some asker → refusal old change ≡ None
    → has_owner old.users ≡ true → has_owner (changed old change).users ≡ true
owner old change asker sound asks free some =
    keeps-owner old change.edit (user_for asker.casemapping asker.person old.users) (if_none _ (first_none sound.together).0)
    (allowed old change asker asks free) some
