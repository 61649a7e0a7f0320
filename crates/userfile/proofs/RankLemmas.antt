-- Only owners touch the records of masters and owners.
use Rattle.std.proofs.Common.{◌≡◌, ℕ, Bool, true, false, cond, not, ◌&&◌, ◌||◌, List, [], ◌∷◌, ◌++◌, map, filter, Option, Some, None, refl, ap, sym, subst, ◌∙◌, true≢false, zero, suc, take, drop, slice_get}
use Rattle.std.specs.List.{list_any}
use Rattle.flagexpr.specs.Letters.{has_letter}
use Rattle.rfccase.specs.Casemapping.{is_same}
use Rattle.rfccase.proofs.SameLemmas.{is_same-left}
use Rattle.userfile.specs.Records.{Records, no_records}
use Rattle.userfile.specs.Apply.{refusal, changed, edit_made, new_user, no_right}
use Rattle.userfile.specs.Apply.{with_mask, without_mask, with_global, with_channel, with_bot, with_info}
use Rattle.userfile.specs.Held.{user_of, users_without, with_user}
use Rattle.userfile.specs.Hostmasks.{is_match, literals}
use Rattle.userfile.specs.Persons.{Claim, claim, claims, claims_of, is_most, decider, user_for, flags_on}
use Rattle.userfile.specs.Ranks.{AreAccepted, plain, guarded, is_like_owner, AreTaken, AreByOthers}
use Rattle.userfile.specs.Rights.{owns, is_guarded, is_owner, may_change, is_of_guarded, may_ask, may}
use Rattle.userfile.specs.Together.{repeats_handle, AreSound}
use Rattle.userfile.specs.Versions.{after_changes, records_at}
use Rattle.rfccase.specs.declared.casemappings.Casemapping.{Casemapping}
use Rattle.userfile.specs.declared.user.User.{User}
use Rattle.userfile.specs.declared.edit.Edit.{Edit}
use Rattle.userfile.specs.declared.edit.Edit.TheVariants.{AddUser, DelUser, AddHost, DelHost, SetGlobal, SetChan, SetBot, AddBan, DelBan, SetInfo, SetSticky}
use Rattle.userfile.specs.declared.change.Asker.{Asker}
use Rattle.userfile.specs.declared.change.Change.{Change}
use Rattle.userfile.specs.declared.error.ChangeFault.TheVariants.{NotAllowed}
use Rattle.userfile.proofs.RepeatLemmas.{or_false, and_true}
use Rattle.userfile.proofs.SoundLemmas.{first_none, if_none, unless_none, changed-sound}

-- ---- tests

or-of : {a b : Bool} → a ≡ false → b ≡ false → (a || b) ≡ false
or-of {a = false} e f = f
or-of {a = true} e f = absurd (true≢false e)

not-owner : {for_owners : Bool} (asker : Option User) → is_owner asker ≡ false → may_change for_owners asker ≡ true → for_owners ≡ false
not-owner {for_owners = false} asker none may = refl
not-owner {for_owners = true} asker none may = absurd (true≢false (sym may ∙ none))

unowned : owns 0 ≡ false
unfolding has_letter
unowned = refl

unranked : is_guarded 0 ≡ false
unfolding has_letter
unranked = refl

-- ---- one user's edit

-- an edit of a user without a rank that gives none
ranked-edit : (h : List ℕ) (edit : User → User) (us : List User) → ((u : User) → is_guarded u.global ≡ false → is_guarded (edit u).global ≡ false)
    → is_of_guarded us h ≡ false → guarded (with_user h edit us) ≡ guarded us
ranked-edit h edit [] gives low = refl
ranked-edit h edit (x ∷ us) gives low = by (is_same h x.handle) low (ranked-edit h edit us gives)
  where
    by : (b : Bool) → is_guarded (flags_on [] (cond b (Some x) (user_of h us))).global ≡ false
        → (is_of_guarded us h ≡ false → guarded (with_user h edit us) ≡ guarded us)
        → guarded (cond b (edit x ∷ us) (x ∷ with_user h edit us)) ≡ guarded (x ∷ us)
    by true low rest =
        ap (λ b. map plain (cond b (edit x ∷ filter (λ u. is_guarded u.global) us) (filter (λ u. is_guarded u.global) us))) (gives x low)
        ∙ sym (ap (λ b. map plain (cond b (x ∷ filter (λ u. is_guarded u.global) us) (filter (λ u. is_guarded u.global) us))) low)
    by false low rest = again (is_guarded x.global) (rest low)
      where
        again : (b : Bool) → guarded (with_user h edit us) ≡ guarded us
            → map plain (cond b (x ∷ filter (λ u. is_guarded u.global) (with_user h edit us)) (filter (λ u. is_guarded u.global) (with_user h edit us)))
            ≡ map plain (cond b (x ∷ filter (λ u. is_guarded u.global) us) (filter (λ u. is_guarded u.global) us))
        again true same = ap (λ vs. plain x ∷ vs) same
        again false same = same

-- an info line is no part of it
ranked-info : (h i : List ℕ) (us : List User) → guarded (with_user h (with_info i) us) ≡ guarded us
ranked-info h i [] = refl
ranked-info h i (x ∷ us) = by (is_same h x.handle) (is_guarded x.global) (ranked-info h i us)
  where
    here : (b : Bool)
        → map plain (cond b (with_info i x ∷ filter (λ u. is_guarded u.global) us) (filter (λ u. is_guarded u.global) us))
        ≡ map plain (cond b (x ∷ filter (λ u. is_guarded u.global) us) (filter (λ u. is_guarded u.global) us))
    here true = refl
    here false = refl

    later : (b : Bool) → guarded (with_user h (with_info i) us) ≡ guarded us
        → map plain (cond b (x ∷ filter (λ u. is_guarded u.global) (with_user h (with_info i) us)) (filter (λ u. is_guarded u.global) (with_user h (with_info i) us)))
        ≡ map plain (cond b (x ∷ filter (λ u. is_guarded u.global) us) (filter (λ u. is_guarded u.global) us))
    later true same = ap (λ vs. plain x ∷ vs) same
    later false same = same

    by : (b r : Bool) → guarded (with_user h (with_info i) us) ≡ guarded us
        → guarded (cond b (with_info i x ∷ us) (x ∷ with_user h (with_info i) us)) ≡ guarded (x ∷ us)
    by true r same = here (is_guarded x.global)
    by false r same = later (is_guarded x.global) same

-- ---- a user more, or less

ranked-push : (us : List User) (u : User) → is_guarded u.global ≡ false → guarded (us ++ u ∷ []) ≡ guarded us
ranked-push [] u low = ap (λ b. map plain (cond b (u ∷ []) [])) low
ranked-push (x ∷ us) u low = by (is_guarded x.global) (ranked-push us u low)
  where
    by : (b : Bool) → guarded (us ++ u ∷ []) ≡ guarded us
        → map plain (cond b (x ∷ filter (λ v. is_guarded v.global) (us ++ u ∷ [])) (filter (λ v. is_guarded v.global) (us ++ u ∷ [])))
        ≡ map plain (cond b (x ∷ filter (λ v. is_guarded v.global) us) (filter (λ v. is_guarded v.global) us))
    by true same = ap (λ vs. plain x ∷ vs) same
    by false same = same

pub named-like : (a b : List ℕ) (us : List User) → is_same a b ≡ true
    → list_any (λ (u : User). is_same a u.handle) us ≡ list_any (λ (u : User). is_same b u.handle) us
named-like a b [] e = refl
named-like a b (x ∷ us) e =
    ap (λ t. t || list_any (λ (u : User). is_same a u.handle) us) (is_same-left a b x.handle e)
    ∙ ap (λ t. is_same b x.handle || t) (named-like a b us e)

without-absent : (h : List ℕ) (us : List User) → list_any (λ (u : User). is_same h u.handle) us ≡ false → users_without h us ≡ us
without-absent h [] none = refl
without-absent h (x ∷ us) none =
    ap (λ b. cond (not b) (x ∷ users_without h us) (users_without h us)) (or_false none).0
    ∙ ap (λ vs. x ∷ vs) (without-absent h us (or_false none).1)

ranked-without : (h : List ℕ) (us : List User) → repeats_handle us ≡ false → is_of_guarded us h ≡ false → guarded (users_without h us) ≡ guarded us
ranked-without h [] apart low = refl
ranked-without h (x ∷ us) apart low = by (is_same h x.handle) refl low (ranked-without h us (or_false apart).1)
  where
    by : (b : Bool) → is_same h x.handle ≡ b → is_guarded (flags_on [] (cond b (Some x) (user_of h us))).global ≡ false
        → (is_of_guarded us h ≡ false → guarded (users_without h us) ≡ guarded us)
        → guarded (cond (not b) (x ∷ users_without h us) (users_without h us)) ≡ guarded (x ∷ us)
    by true is low rest =
        ap guarded (without-absent h us (named-like h x.handle us is ∙ (or_false apart).0))
        ∙ sym (ap (λ b. map plain (cond b (x ∷ filter (λ u. is_guarded u.global) us) (filter (λ u. is_guarded u.global) us))) low)
    by false is low rest = again (is_guarded x.global) (rest low)
      where
        again : (b : Bool) → guarded (users_without h us) ≡ guarded us
            → map plain (cond b (x ∷ filter (λ u. is_guarded u.global) (users_without h us)) (filter (λ u. is_guarded u.global) (users_without h us)))
            ≡ map plain (cond b (x ∷ filter (λ u. is_guarded u.global) us) (filter (λ u. is_guarded u.global) us))
        again true same = ap (λ vs. plain x ∷ vs) same
        again false same = same

-- ---- one change

pub allowed : (old : Records) (change : Change) (asker : Asker) → change.by ≡ Some asker → refusal old change ≡ None → may old.users asker change.edit ≡ true
allowed old change asker asks free =
    let right : no_right old.users change.by change.edit ≡ None = (first_none (first_none free).1).0 in
    unless_none NotAllowed (subst (λ by. no_right old.users by change.edit ≡ None) asks right)

keeps-ranks : (old : Records) (edit : Edit) (asker : Option User) → repeats_handle old.users ≡ false → is_owner asker ≡ false
    → may_ask old.users asker edit ≡ true → guarded (edit_made old edit).users ≡ guarded old.users
keeps-ranks old (AddUser h) asker apart none right = ranked-push old.users (new_user h) unranked
keeps-ranks old (DelUser h) asker apart none right = ranked-without h old.users apart (not-owner asker none (and_true right).0)
keeps-ranks old (AddHost h m) asker apart none right = ranked-edit h (with_mask m) old.users (λ u low. low) (not-owner asker none right)
keeps-ranks old (DelHost h m) asker apart none right = ranked-edit h (without_mask m) old.users (λ u low. low) (not-owner asker none right)
keeps-ranks old (SetGlobal h f) asker apart none right =
    let for : (is_guarded f || is_of_guarded old.users h) ≡ false = not-owner asker none (and_true right).0 in
    let low = or_false for in
    ranked-edit h (with_global f) old.users (λ u same. low.0) low.1
keeps-ranks old (SetChan h ch f) asker apart none right = ranked-edit h (with_channel ch f) old.users (λ u low. low) (not-owner asker none right)
keeps-ranks old (SetBot h f) asker apart none right = ranked-edit h (with_bot f) old.users (λ u low. low) (not-owner asker none right)
keeps-ranks old (AddBan ch m cr ex co) asker apart none right = refl
keeps-ranks old (DelBan ch m) asker apart none right = refl
keeps-ranks old (SetInfo h i) asker apart none right = ranked-info h i old.users
keeps-ranks old (SetSticky ch m on) asker apart none right = refl

pub step : (old : Records) (change : Change) (asker : Asker) → AreSound old → change.by ≡ Some asker → refusal old change ≡ None
    → is_owner (user_for asker.casemapping asker.person old.users) ≡ false → guarded (changed old change).users ≡ guarded old.users
step old change asker sound asks free none =
    keeps-ranks old change.edit (user_for asker.casemapping asker.person old.users) (if_none _ (first_none sound.together).0) none
    (allowed old change asker asks free)

-- ---- who is like an owner

owned-claims : (mapping : Casemapping) (who : List ℕ) (u : User) (masks : List (List ℕ))
    → list_any (λ (c : Claim). owns c.user.global) (claims_of mapping who u masks) ≡ (owns u.global && list_any (λ m. is_match mapping m who) masks)
owned-claims mapping who u [] = by (owns u.global)
  where
    by : (b : Bool) → false ≡ (b && false)
    by true = refl
    by false = refl
owned-claims mapping who u (m ∷ masks) = by (is_match mapping m who) (owns u.global) refl (owned-claims mapping who u masks)
  where
    by : (b o : Bool) → owns u.global ≡ o
        → list_any (λ (c : Claim). owns c.user.global) (claims_of mapping who u masks) ≡ (owns u.global && list_any (λ m. is_match mapping m who) masks)
        → list_any (λ (c : Claim). owns c.user.global)
        (map (λ m. claim (literals m) u) (cond b (m ∷ filter (λ m. is_match mapping m who) masks) (filter (λ m. is_match mapping m who) masks)))
        ≡ (owns u.global && (b || list_any (λ m. is_match mapping m who) masks))
    by false o is rest = rest
    by true true is rest = ap (λ t. t || list_any (λ (c : Claim). owns c.user.global) (claims_of mapping who u masks)) is ∙ sym (ap (λ t. t && true) is)
    by true false is rest = ap (λ t. t || list_any (λ (c : Claim). owns c.user.global) (claims_of mapping who u masks)) is
        ∙ rest ∙ ap (λ t. t && list_any (λ m. is_match mapping m who) masks) is ∙ sym (ap (λ t. t && true) is)

pub any-append : {X : Type 0} (p : X → Bool) (xs ys : List X) → list_any p (xs ++ ys) ≡ (list_any p xs || list_any p ys)
any-append p [] ys = refl
any-append p (x ∷ xs) ys = by (p x) (any-append p xs ys)
  where
    by : (b : Bool) → list_any p (xs ++ ys) ≡ (list_any p xs || list_any p ys) → (b || list_any p (xs ++ ys)) ≡ ((b || list_any p xs) || list_any p ys)
    by true rest = refl
    by false rest = rest

all-owned-claims : (asker : Asker) (us : List User)
    → list_any (λ (c : Claim). owns c.user.global) (claims asker.casemapping asker.person us) ≡ is_like_owner us asker
all-owned-claims asker [] = refl
all-owned-claims asker (u ∷ us) =
    any-append (λ (c : Claim). owns c.user.global) (claims_of asker.casemapping asker.person u u.masks) (claims asker.casemapping asker.person us)
    ∙ ap (λ t. t || list_any (λ (c : Claim). owns c.user.global) (claims asker.casemapping asker.person us)) (owned-claims asker.casemapping asker.person u u.masks)
    ∙ ap (λ t. (owns u.global && list_any (λ m. is_match asker.casemapping m asker.person) u.masks) || t) (all-owned-claims asker us)

decider-unowned : (cs : List Claim) → list_any (λ (c : Claim). owns c.user.global) cs ≡ false → is_owner (decider cs) ≡ false
unfolding decider
decider-unowned [] none = unowned
decider-unowned (c ∷ cs) none = by (is_most c.literals cs) (decider-unowned cs (or_false none).1)
  where
    by : (b : Bool) → is_owner (decider cs) ≡ false → is_owner (cond b (Some c.user) (decider cs)) ≡ false
    by true rest = (or_false none).0
    by false rest = rest

pub no-owner : (us : List User) (asker : Asker) → is_like_owner us asker ≡ false → is_owner (user_for asker.casemapping asker.person us) ≡ false
no-owner us asker none = decider-unowned (claims asker.casemapping asker.person us) (all-owned-claims asker us ∙ none)

-- by those alone whose records are for owners
owned-guarded : (global : ℕ) → is_guarded global ≡ false → owns global ≡ false
owned-guarded global low = (or_false low).1

like-guarded : (us : List User) (asker : Asker) → is_like_owner us asker ≡ is_like_owner (guarded us) asker
like-guarded [] asker = refl
like-guarded (u ∷ us) asker = by (is_guarded u.global) refl (like-guarded us asker)
  where
    by : (g : Bool) → is_guarded u.global ≡ g → is_like_owner us asker ≡ is_like_owner (guarded us) asker
        → is_like_owner (u ∷ us) asker
        ≡ is_like_owner (map plain (cond g (u ∷ filter (λ v. is_guarded v.global) us) (filter (λ v. is_guarded v.global) us))) asker
    by true is rest = ap (λ t. (owns u.global && list_any (λ m. is_match asker.casemapping m asker.person) u.masks) || t) rest
    by false is rest =
        ap (λ t. (t && list_any (λ m. is_match asker.casemapping m asker.person) u.masks) || is_like_owner us asker) (owned-guarded u.global is)
        ∙ rest

same-likeness : (us vs : List User) → guarded us ≡ guarded vs → (asker : Asker) → is_like_owner us asker ≡ is_like_owner vs asker
same-likeness us vs same asker = like-guarded us asker ∙ ap (λ ws. is_like_owner ws asker) same ∙ sym (like-guarded vs asker)

still-others : (us vs : List User) → guarded vs ≡ guarded us → (changes : List Change) → AreByOthers us changes → AreByOthers vs changes
still-others us vs same [] others = tt
still-others us vs same (c ∷ changes) others =
    ((others.0.0, (others.0.1.0, same-likeness vs us same others.0.0 ∙ others.0.1.1)), still-others us vs same changes others.1)

-- ---- all changes

pub runs : (old : Records) (changes : List Change) → AreSound old → AreTaken old changes → AreByOthers old.users changes
    → guarded (after_changes old changes).users ≡ guarded old.users
runs old [] sound taken others = refl
runs old (c ∷ changes) sound taken others =
    let by = others.0 in
    let kept : guarded (changed old c).users ≡ guarded old.users = step old c by.0 sound by.1.0 taken.0 (no-owner old.users by.0 by.1.1) in
    runs (changed old c) changes (changed-sound old c sound taken.0) taken.1
    (still-others old.users (changed old c).users kept changes others.1)
    ∙ kept

pub persons : (old : Records) (changes : List Change) (asker : Asker) → AreSound old → AreTaken old changes → AreByOthers old.users changes
    → is_like_owner old.users asker ≡ false → is_owner (user_for asker.casemapping asker.person (after_changes old changes).users) ≡ false
persons old changes asker sound taken others none =
    no-owner (after_changes old changes).users asker
    (same-likeness (after_changes old changes).users old.users (runs old changes sound taken others) asker ∙ none)

-- ---- the changes that a net accepted, from a version on

taken-on : (old : Records) (changes : List Change)
    → ((place : ℕ) (c : Change) → slice_get changes place ≡ Some c → refusal (after_changes old (take place changes)) c ≡ None)
    → AreTaken old changes
taken-on old [] each = tt
taken-on old (c ∷ changes) each = (each 0 c refl, taken-on (changed old c) changes (λ place d at. each (suc place) d at))

-- each of them was taken by the records at the version before it
taken-from : (old : Records) (changes : List Change) (version : ℕ)
    → ((place : ℕ) (c : Change) → slice_get changes place ≡ Some c → refusal (after_changes old (take place changes)) c ≡ None)
    → AreTaken (after_changes old (take version changes)) (drop version changes)
taken-from old changes zero each = taken-on old changes each
taken-from old [] (suc version) each = tt
taken-from old (c ∷ changes) (suc version) each = taken-from (changed old c) changes version (λ place d at. each (suc place) d at)

rest-of-all : (old : Records) (changes : List Change) (version : ℕ)
    → after_changes (after_changes old (take version changes)) (drop version changes) ≡ after_changes old changes
rest-of-all old changes zero = refl
rest-of-all old [] (suc version) = refl
rest-of-all old (c ∷ changes) (suc version) = rest-of-all (changed old c) changes version

pub since : (changes : List Change) (version : ℕ) → AreAccepted changes → AreSound (records_at changes version)
    → AreByOthers (records_at changes version).users (drop version changes)
    → guarded (after_changes no_records changes).users ≡ guarded (records_at changes version).users
since changes version each sound others =
    ap (λ (r : Records). guarded r.users) (sym (rest-of-all no_records changes version))
    ∙ runs (records_at changes version) (drop version changes) sound (taken-from no_records changes version each) others
