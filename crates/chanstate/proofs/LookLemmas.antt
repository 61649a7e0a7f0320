-- What one finds by name behind each edit of members and channels.
use Rattle.std.proofs.Common.{◌≡◌, ℕ, Bool, true, false, cond, Option, Some, None, List, [], ◌∷◌, ◌++◌, refl, sym, ap, ◌∙◌}
use Rattle.std.specs.Prelude.{find, is_some}
use Rattle.std.specs.Option.{option_map}
use Rattle.chanstate.specs.declared.member.Member.{Member}
use Rattle.rfccase.specs.Casemapping.{is_same_by}
use Rattle.chanstate.specs.Firsts.{first_removed, first_changed}
use Rattle.chanstate.specs.Members.{is_called, has_member, with_address, with_marks_of, with_nick, arrived, listed}
use Rattle.rfccase.proofs.SameLemmas.{is_same_by-left, is_same_by-apart}
use Rattle.chanstate.proofs.FindLemmas.{list_any-find, find-agree, or_else, or_else-none, or_else-some, find-end}
use Rattle.chanstate.proofs.FindLemmas.{find-changed_same, find-changed_other, find-removed_other, find-removed_same}
use Rattle.chanstate.proofs.DistinctLemmas.{by, Distinct, at_most_one}
use Rattle.rfccase.specs.declared.casemappings.Casemapping.{Casemapping}

pub or_else-right : {X : Type 0} (o : Option X) → or_else o None ≡ o
or_else-right None = or_else-none None
or_else-right (Some x) = or_else-some x None

-- by a name, behind an edit of another name's element, where the edit keeps names
changed_by : {X : Type 0} (mapping : Casemapping) (key : X → List ℕ) (f : X → X) → ((x : X) → key (f x) ≡ key x) → (c d : List ℕ) (xs : List X) (b : Bool) → is_same_by mapping c d ≡ b →
    find (by mapping key c) (first_changed (by mapping key d) f xs) ≡ cond b (option_map f (find (by mapping key c) xs)) (find (by mapping key c) xs)
changed_by mapping key f keeps c d xs true is = find-changed_same (by mapping key c) (by mapping key d) f (λ x. is_same_by-left mapping c d (key x) is) (λ x. ap (is_same_by mapping c) (keeps x)) xs
changed_by mapping key f keeps c d xs false is =
    find-changed_other (by mapping key c) (by mapping key d) f (λ x same. is_same_by-apart mapping c d (key x) is same)
    (λ x same. ap (is_same_by mapping c) (keeps x) ∙ is_same_by-apart mapping c d (key x) is same) xs

pub find-changed : {X : Type 0} (mapping : Casemapping) (key : X → List ℕ) (f : X → X) → ((x : X) → key (f x) ≡ key x) → (c d : List ℕ) (xs : List X) →
    find (by mapping key c) (first_changed (by mapping key d) f xs) ≡ cond (is_same_by mapping c d) (option_map f (find (by mapping key c) xs)) (find (by mapping key c) xs)
find-changed mapping key f keeps c d xs = changed_by mapping key f keeps c d xs (is_same_by mapping c d) refl

removed_by : {X : Type 0} (mapping : Casemapping) (key : X → List ℕ) (c d : List ℕ) (xs : List X) → Distinct mapping key xs → (b : Bool) → is_same_by mapping c d ≡ b →
    find (by mapping key c) (first_removed (by mapping key d) xs) ≡ cond b None (find (by mapping key c) xs)
removed_by mapping key c d xs distinct true is =
    find-agree (by mapping key c) (by mapping key d) (λ x. is_same_by-left mapping c d (key x) is) (first_removed (by mapping key d) xs)
    ∙ find-removed_same (by mapping key d) xs (at_most_one mapping key d xs distinct)
removed_by mapping key c d xs distinct false is = find-removed_other (by mapping key c) (by mapping key d) (λ x same. is_same_by-apart mapping c d (key x) is same) xs

pub find-removed : {X : Type 0} (mapping : Casemapping) (key : X → List ℕ) (c d : List ℕ) (xs : List X) → Distinct mapping key xs →
    find (by mapping key c) (first_removed (by mapping key d) xs) ≡ cond (is_same_by mapping c d) None (find (by mapping key c) xs)
find-removed mapping key c d xs distinct = removed_by mapping key c d xs distinct (is_same_by mapping c d) refl

put_by : {X : Type 0} (o : Option X) (one : X) (b : Bool) → or_else (cond b None o) (cond b (Some one) None) ≡ cond b (Some one) o
put_by o one true = or_else-none (Some one)
put_by o one false = or_else-right o

pub find-put_last : {X : Type 0} (mapping : Casemapping) (key : X → List ℕ) (c : List ℕ) (one : X) (xs : List X) → Distinct mapping key xs →
    find (by mapping key c) (first_removed (by mapping key (key one)) xs ++ one ∷ []) ≡ cond (is_same_by mapping c (key one)) (Some one) (find (by mapping key c) xs)
find-put_last mapping key c one xs distinct =
    find-end (by mapping key c) (first_removed (by mapping key (key one)) xs) one
    ∙ (ap (λ o. or_else o (cond (is_same_by mapping c (key one)) (Some one) None)) (find-removed mapping key c (key one) xs distinct)
    ∙ put_by (find (by mapping key c) xs) one (is_same_by mapping c (key one)))

-- one who comes, or is listed: f is what happens to a member that is there
pub come_as : Member → (Member → Member) → Option Member → Member
come_as one f None = one
come_as one f (Some m) = f m

pub come_as-none : (one : Member) (f : Member → Member) → come_as one f None ≡ one
unfolding come_as
come_as-none one f = refl

pub come_as-some : (one : Member) (f : Member → Member) (m : Member) → come_as one f (Some m) ≡ f m
unfolding come_as
come_as-some one f m = refl

come_here : (one : Member) (f : Member → Member) (o w : Option Member) (b : Bool) → (b ≡ true → o ≡ w) → is_some w ≡ true
    → cond b (option_map f o) o ≡ cond b (Some (come_as one f o)) o
come_here one f o w false same some = refl
come_here one f None w true same some = absurd_none (same refl) some where
  absurd_none : None ≡ w → is_some w ≡ true → None ≡ Some (come_as one f None)
  absurd_none is some = let none : is_some w ≡ false = ap is_some (sym is) in cc
come_here one f (Some m) w true same some = ap Some (sym (come_as-some one f m))

come_new : (one : Member) (f : Member → Member) (o w : Option Member) (b : Bool) → (b ≡ true → o ≡ w) → is_some w ≡ false
    → or_else o (cond b (Some one) None) ≡ cond b (Some (come_as one f o)) o
come_new one f o w false same none = or_else-right o
come_new one f None w true same none = or_else-none (Some one) ∙ ap Some (sym (come_as-none one f))
come_new one f (Some m) w true same none = absurd_some (same refl) none where
  absurd_some : Some m ≡ w → is_some w ≡ false → or_else (Some m) (Some one) ≡ Some (come_as one f (Some m))
  absurd_some is none = let some : is_some w ≡ true = ap is_some (sym is) in cc

come_by : (mapping : Casemapping) (one : Member) (f : Member → Member) → ((m : Member) → (f m).nick ≡ m.nick) → (x : List ℕ) (ms : List Member) (h : Bool)
    → has_member mapping one.nick ms ≡ h →
    find (is_called mapping x) (cond h (first_changed (is_called mapping one.nick) f ms) (ms ++ one ∷ []))
    ≡ cond (is_same_by mapping x one.nick) (Some (come_as one f (find (is_called mapping x) ms))) (find (is_called mapping x) ms)
come_by mapping one f keeps x ms true is =
    find-changed mapping (λ (m : Member). m.nick) f keeps x one.nick ms
    ∙ come_here one f (find (is_called mapping x) ms) (find (is_called mapping one.nick) ms) (is_same_by mapping x one.nick)
    (λ same. find-agree (is_called mapping x) (is_called mapping one.nick) (λ m. is_same_by-left mapping x one.nick m.nick same) ms)
    (sym (list_any-find (is_called mapping one.nick) ms) ∙ is)
come_by mapping one f keeps x ms false is =
    find-end (is_called mapping x) ms one
    ∙ come_new one f (find (is_called mapping x) ms) (find (is_called mapping one.nick) ms) (is_same_by mapping x one.nick)
    (λ same. find-agree (is_called mapping x) (is_called mapping one.nick) (λ m. is_same_by-left mapping x one.nick m.nick same) ms)
    (sym (list_any-find (is_called mapping one.nick) ms) ∙ is)

pub find-arrived : (mapping : Casemapping) (one : Member) (x : List ℕ) (ms : List Member)
    → find (is_called mapping x) (arrived mapping one ms)
    ≡ cond (is_same_by mapping x one.nick) (Some (come_as one (with_address one.user one.host) (find (is_called mapping x) ms))) (find (is_called mapping x) ms)
find-arrived mapping one x ms = come_by mapping one (with_address one.user one.host) (λ m. refl) x ms (has_member mapping one.nick ms) refl

pub find-listed : (mapping : Casemapping) (one : Member) (x : List ℕ) (ms : List Member)
    → find (is_called mapping x) (listed mapping one ms)
    ≡ cond (is_same_by mapping x one.nick) (Some (come_as one (with_marks_of one) (find (is_called mapping x) ms))) (find (is_called mapping x) ms)
find-listed mapping one x ms = come_by mapping one (with_marks_of one) (λ m. refl) x ms (has_member mapping one.nick ms) refl

-- a change of nick: was is the member of the old nick
pub rename_as : (mapping : Casemapping) → List ℕ → List ℕ → List ℕ → Option Member → Option Member → Option Member
rename_as mapping old new x None o = o
rename_as mapping old new x (Some m) o = cond (is_same_by mapping x new) (Some (with_nick new m)) (cond (is_same_by mapping x old) None o)

pub rename_as-none : (mapping : Casemapping) (old new x : List ℕ) (o : Option Member) → rename_as mapping old new x None o ≡ o
unfolding rename_as
rename_as-none mapping old new x o = refl

pub rename_as-some : (mapping : Casemapping) (old new x : List ℕ) (m : Member) (o : Option Member)
    → rename_as mapping old new x (Some m) o ≡ cond (is_same_by mapping x new) (Some (with_nick new m)) (cond (is_same_by mapping x old) None o)
unfolding rename_as
rename_as-some mapping old new x m o = refl
