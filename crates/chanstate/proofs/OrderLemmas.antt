-- The order of members and of channels is that of their coming.
use Rattle.std.proofs.Common.{◌≡◌, ℕ, suc, ◌<◌, Bool, true, false, cond, not, ◌||◌, ◌&&◌, Option, Some, None, List, [], ◌∷◌, ◌++◌, map, refl, sym, ap}
use Rattle.std.proofs.Common.{subst, ◌∙◌, arith}
use Rattle.std.specs.Prelude.{find, is_some, unwrap_or}
use Rattle.std.specs.Option.{option_map}
use Rattle.std.specs.List.{list_any}
use Rattle.chanstate.specs.declared.member.Member.{Member}
use Rattle.chanstate.specs.declared.channel.Channel.{Channel}
use Rattle.chanstate.specs.declared.state.ChanState.{ChanState}
use Rattle.rfccase.specs.Casemapping.{is_same_by}
use Rattle.chanstate.specs.Firsts.{first_removed, first_changed}
use Rattle.chanstate.specs.Members.{is_called, has_member, unmarked, with_mark, with_address, with_detail, with_marks_of, with_nick, arrived, listed, renamed}
use Rattle.chanstate.specs.Members.{without_namesake}
use Rattle.chanstate.specs.Channels.{is_named, opened, with_topic, with_members, put_last}
use Rattle.chanstate.specs.Items.{Item, Welcomed, Announced, Joined, Left, Departed, Renamed, ModesSet, Marked, Titled, NamesTold, Listed, Addressed}
use Rattle.chanstate.specs.Items.{Told, ToldAtJoin, JoinsTell}
use Rattle.chanstate.specs.Steps.{step}
use Rattle.chanstate.specs.Views.{members_of}
use Rattle.chanstate.specs.History.{Behind, Rising, member_said, nick_said, joins}
use Rattle.chanstate.proofs.BoolLemmas.{or-parts, or-right}
use Rattle.rfccase.proofs.SameLemmas.{is_same_by-left, is_same_by-sym, is_same_by-refl}
use Rattle.chanstate.proofs.FindLemmas.{list_any-find, find-removed_same, Within}
use Rattle.chanstate.proofs.DistinctLemmas.{Distinct, at_most_one, distinct-removed, within-all, within-none}
use Rattle.chanstate.proofs.ItemLemmas.{nick_of_member, name_of, channel_after, mark_keeps, detail_keeps}
use Rattle.rfccase.specs.declared.casemappings.Casemapping.{Casemapping}
use Rattle.chanstate.specs.Views.{mapping_of}

-- ---- rising numbers

abbrev pub Below : ℕ → List ℕ → Type 0
Below n [] = Unit {0}
Below n (k ∷ ks) = (k < n) × Below n ks

abbrev pub Ordered : ℕ → List ℕ → Type 0
Ordered n ks = Rising ks × Below n ks

below-more : (n : ℕ) (ks : List ℕ) → Below n ks → Below (suc n) ks
below-more n [] below = tt
below-more n (k ∷ ks) below = (let less : k < n = below.0 in omega arith, below-more n ks below.1)

pub ordered-more : (n : ℕ) (ks : List ℕ) → Ordered n ks → Ordered (suc n) ks
ordered-more n ks o = (o.0, below-more n ks o.1)

behind-end : (k n : ℕ) (ks : List ℕ) → Behind k ks → k < n → Behind k (ks ++ n ∷ [])
behind-end k n [] behind less = (less, tt)
behind-end k n (j ∷ ks) behind less = (behind.0, behind-end k n ks behind.1 less)

rising-end : (n : ℕ) (ks : List ℕ) → Rising ks → Below n ks → Rising (ks ++ n ∷ [])
rising-end n [] rising below = (tt, tt)
rising-end n (k ∷ ks) rising below = (behind-end k n ks rising.0 below.0, rising-end n ks rising.1 below.1)

below-end : (n : ℕ) (ks : List ℕ) → Below n ks → Below (suc n) (ks ++ n ∷ [])
below-end n [] below = (omega arith, tt)
below-end n (k ∷ ks) below = (let less : k < n = below.0 in omega arith, below-end n ks below.1)

pub ordered-end : (n : ℕ) (ks : List ℕ) → Ordered n ks → Ordered (suc n) (ks ++ n ∷ [])
ordered-end n ks o = (rising-end n ks o.0 o.1, below-end n ks o.1)

-- without some
behind_step : {X : Type 0} (f : X → ℕ) (n : ℕ) (b : Bool) (x : X) (xs ys : List X) → Behind n (map f xs) → (n < f x) × Behind n (map f ys)
    → Behind n (map f (cond b xs (x ∷ ys)))
behind_step f n true x xs ys one two = one
behind_step f n false x xs ys one two = two

behind-removed : {X : Type 0} (f : X → ℕ) (q : X → Bool) (n : ℕ) (xs : List X) → Behind n (map f xs) → Behind n (map f (first_removed q xs))
behind-removed f q n [] behind = tt
behind-removed f q n (x ∷ xs) behind = behind_step f n (q x) x xs (first_removed q xs) behind.1 (behind.0, behind-removed f q n xs behind.1)

ordered_step : {X : Type 0} (f : X → ℕ) (n : ℕ) (b : Bool) (x : X) (xs ys : List X) → Ordered n (map f xs) → Ordered n (map f (x ∷ ys))
    → Ordered n (map f (cond b xs (x ∷ ys)))
ordered_step f n true x xs ys one two = one
ordered_step f n false x xs ys one two = two

pub ordered-removed : {X : Type 0} (f : X → ℕ) (q : X → Bool) (n : ℕ) (xs : List X) → Ordered n (map f xs) → Ordered n (map f (first_removed q xs))
ordered-removed f q n [] o = o
ordered-removed f q n (x ∷ xs) o =
    let rest = ordered-removed f q n xs (o.0.1, o.1.1) in
    ordered_step f n (q x) x xs (first_removed q xs) (o.0.1, o.1.1) ((behind-removed f q (f x) xs o.0.0, rest.0), (o.1.0, rest.1))

-- ---- lists that keep what is read of each element

abbrev pub Each : {X : Type 0} → (X → Type 0) → List X → Type 0
Each P [] = Unit {0}
Each P (x ∷ xs) = P x × Each P xs

each-by : {X : Type 0} (P Q : X → Type 0) → ((x : X) → P x → Q x) → (xs : List X) → Each P xs → Each Q xs
each-by P Q f [] all = tt
each-by P Q f (x ∷ xs) all = (f x all.0, each-by P Q f xs all.1)

map-each : {X : Type 0} (f g : X → ℕ) (xs : List X) → Each (λ x. f x ≡ g x) xs → map f xs ≡ map g xs
map-each f g [] all = refl
map-each f g (x ∷ xs) all = let head = all.0 in let tail = map-each f g xs all.1 in cc

changed_step : {X : Type 0} (g : X → ℕ) (b : Bool) (y x : X) (xs ys : List X) → g y ≡ g x → map g ys ≡ map g xs
    → map g (cond b (y ∷ xs) (x ∷ ys)) ≡ g x ∷ map g xs
changed_step g true y x xs ys one rest = ap (λ k. k ∷ map g xs) one
changed_step g false y x xs ys one rest = ap (λ ks. g x ∷ ks) rest

map-changed : {X : Type 0} (g : X → ℕ) (q : X → Bool) (f : X → X) → ((x : X) → g (f x) ≡ g x) → (xs : List X) → map g (first_changed q f xs) ≡ map g xs
map-changed g q f keeps [] = refl
map-changed g q f keeps (x ∷ xs) = changed_step g (q x) (f x) x xs (first_changed q f xs) (keeps x) (map-changed g q f keeps xs)

map-map : {X : Type 0} (g : X → ℕ) (f : X → X) → ((x : X) → g (f x) ≡ g x) → (xs : List X) → map g (map f xs) ≡ map g xs
map-map g f keeps [] = refl
map-map g f keeps (x ∷ xs) = let head = keeps x in let tail = map-map g f keeps xs in cc

map-end : {X : Type 0} (g : X → ℕ) (xs : List X) (y : X) → map g (xs ++ y ∷ []) ≡ map g xs ++ g y ∷ []
map-end g [] y = refl
map-end g (x ∷ xs) y = ap (λ ks. g x ∷ ks) (map-end g xs y)

-- each of a list is in it
each-in : (mapping : Casemapping) (ms : List Member) → Each (λ m. has_member mapping m.nick ms ≡ true) ms
each-in mapping [] = tt
each-in mapping (m ∷ ms) = (
  rw (is_same_by-refl mapping m.nick) refl,
  each-by (λ x. has_member mapping x.nick ms ≡ true) (λ x. has_member mapping x.nick (m ∷ ms) ≡ true)
      (λ x is. or-right (is_same_by mapping x.nick m.nick) (has_member mapping x.nick ms) is) ms (each-in mapping ms),
)

each-none : {X : Type 0} (p : X → Bool) (xs : List X) → list_any p xs ≡ false → Each (λ x. p x ≡ false) xs
each-none p [] none = tt
each-none p (x ∷ xs) none = let parts = or-parts (p x) (list_any p xs) none in (parts.0, each-none p xs parts.1)

-- ---- a change of nick

abbrev pub at : (List ℕ → ℕ) → Member → ℕ
at place m = place m.nick

ren_tail : (mapping : Casemapping) (new : List ℕ) (now old_place : List ℕ → ℕ) (q : Member → Bool) (ms : List Member)
    → ((m : Member) → is_same_by mapping new m.nick ≡ false → now m.nick ≡ old_place m.nick) →
    Within (is_called mapping new) q ms → list_any q ms ≡ false → map (at now) ms ≡ map (at old_place) ms
ren_tail mapping new now was q [] same within none = refl
ren_tail mapping new now was q (m ∷ ms) same within none =
    let parts = or-parts (q m) (list_any q ms) none in
    let head = same m (within.0 parts.0) in
    let tail = ren_tail mapping new now was q ms same within.1 parts.1 in
    cc

ren_step : (old new : List ℕ) (now was : List ℕ → ℕ) (b : Bool) (m : Member) (ms ys : List Member)
    → (b ≡ true → (now new ≡ was m.nick) × (map (at now) ms ≡ map (at was) ms))
    → (b ≡ false → (now m.nick ≡ was m.nick) × (map (at now) ys ≡ map (at was) ms)) →
    map (at now) (cond b (with_nick new m ∷ ms) (m ∷ ys)) ≡ was m.nick ∷ map (at was) ms
ren_step old new now was true m ms ys one two = let parts = one refl in let head = parts.0 in let tail = parts.1 in cc
ren_step old new now was false m ms ys one two = let parts = two refl in let head = parts.0 in let tail = parts.1 in cc

map-renamed : (mapping : Casemapping) (old new : List ℕ) (now was : List ℕ → ℕ) (ms : List Member) → ((m : Member) → is_same_by mapping old m.nick ≡ true → now new ≡ was m.nick)
    → ((m : Member) → is_same_by mapping new m.nick ≡ false → now m.nick ≡ was m.nick) →
    Within (is_called mapping new) (is_called mapping old) ms → Distinct mapping nick_of_member ms
    → map (at now) (first_changed (is_called mapping old) (with_nick new) ms) ≡ map (at was) ms
map-renamed mapping old new now was [] first same within distinct = refl
map-renamed mapping old new now was (m ∷ ms) first same within distinct =
    ren_step old new now was (is_called mapping old m) m ms (first_changed (is_called mapping old) (with_nick new) ms)
    (λ is. (first m is, ren_tail mapping new now was (is_called mapping old) ms same within.1 ((at_most_one mapping nick_of_member old (m ∷ ms) distinct).0 is)))
    (λ is. (same m (within.0 is), map-renamed mapping old new now was ms first same within.1 distinct.1))

pub ren_ordered : (mapping : Casemapping) (old new : List ℕ) (now was : List ℕ → ℕ) (n : ℕ) (ms : List Member) (b : Bool) → is_same_by mapping old new ≡ b →
    ((m : Member) → is_same_by mapping old m.nick ≡ true → now new ≡ was m.nick) → ((m : Member) → is_same_by mapping new m.nick ≡ false → now m.nick ≡ was m.nick)
    → Distinct mapping nick_of_member ms → Ordered n (map (at was) ms) →
    Ordered n (map (at now) (first_changed (is_called mapping old) (with_nick new) (cond b ms (first_removed (is_called mapping new) ms))))
ren_ordered mapping old new now was n ms true is first same distinct o =
    subst (Ordered n) (sym
    (map-renamed mapping old new now was ms first same
    (within-all (is_called mapping new) (is_called mapping old) (λ y none. sym (is_same_by-left mapping old new y.nick is) ∙ none) ms) distinct)) o
ren_ordered mapping old new now was n ms false is first same distinct o =
    let rest = first_removed (is_called mapping new) ms in
    let gone : find (is_called mapping new) rest ≡ None = find-removed_same (is_called mapping new) ms (at_most_one mapping nick_of_member new ms distinct) in
    subst (Ordered n) (sym
    (map-renamed mapping old new now was rest first same
    (within-none (is_called mapping new) (is_called mapping old) rest (list_any-find (is_called mapping new) rest ∙ ap is_some gone))
    (distinct-removed mapping nick_of_member (is_called mapping new) ms distinct)))
    (ordered-removed (at was) (is_called mapping new) n ms o)

-- ---- places of nicks that are the same

both_same : {A : Type 0} (b : Bool) (x : A) → cond b x x ≡ x
both_same true x = refl
both_same false x = refl

a_joined : (a o b here w : Bool) (n k l : ℕ) → (w ≡ true → k ≡ l) → unwrap_or (cond a (cond o (Some b) (cond (here && b) (Some true) None)) None) w ≡ true
    → cond (a && b) (cond (o || not w) n k) k ≡ cond (a && b) (cond (o || not w) n l) l
a_joined true true true here w n k l alike on = refl
a_joined true true false here w n k l alike on = cc
a_joined true false true here true n k l alike on = alike refl
a_joined true false true here false n k l alike on = refl
a_joined true false false true w n k l alike on = alike on
a_joined true false false false w n k l alike on = alike on
a_joined false o b here w n k l alike on = alike on

a_listed : (a here b w : Bool) (n k l : ℕ) → (w ≡ true → k ≡ l) → unwrap_or (cond (a && (here && b)) (Some true) None) w ≡ true
    → cond (a && b) (cond w k n) k ≡ cond (a && b) (cond w l n) l
a_listed true here true true n k l alike on = alike refl
a_listed true here true false n k l alike on = refl
a_listed true true false w n k l alike on = alike on
a_listed true false false w n k l alike on = alike on
a_listed false here b w n k l alike on = alike on

a_renamed : (was new old w : Bool) (n k l : ℕ) → (w ≡ true → k ≡ l) → unwrap_or (cond was (cond new (Some true) (cond old (Some false) None)) None) w ≡ true
    → cond (was && new) n k ≡ cond (was && new) n l
a_renamed true true old w n k l alike on = refl
a_renamed true false true w n k l alike on = cc
a_renamed true false false w n k l alike on = alike on
a_renamed false new old w n k l alike on = alike on

a_gone : (b w : Bool) (k l : ℕ) → (w ≡ true → k ≡ l) → unwrap_or (cond b (Some false) None) w ≡ true → k ≡ l
a_gone true w k l alike on = cc
a_gone false w k l alike on = alike on

-- the same nick has the same place, if it is on the channel
pub arrival-alike : (mapping : Casemapping) (item : Item) (me : List ℕ) (here : Bool) (c x y : List ℕ) (was : List ℕ → Bool) (place : List ℕ → ℕ) (n : ℕ)
    → is_same_by mapping x y ≡ true → was x ≡ was y → (was x ≡ true → place x ≡ place y)
    → unwrap_or (nick_said mapping item me here c was x) (was x) ≡ true
    → member_said mapping (λ _. n) (λ _. None) item me c was place x ≡ member_said mapping (λ _. n) (λ _. None) item me c was place y
arrival-alike mapping (Welcomed nick) me here c x y was place n same both alike on = cc
arrival-alike mapping (Announced tokens) me here c x y was place n same both alike on = alike on
arrival-alike mapping (Joined nick user host d) me here c x y was place n same both alike on =
    let one = is_same_by-left mapping x y nick same in
    let joined = a_joined (is_same_by mapping c d) (is_same_by mapping nick me) (is_same_by mapping x nick) here (was x) n (place x) (place y) alike on in
    cc
arrival-alike mapping (Left nick d) me here c x y was place n same both alike on =
    a_gone (is_same_by mapping c d && (is_same_by mapping nick me || is_same_by mapping x nick)) (was x) (place x) (place y) alike on
arrival-alike mapping (Departed nick) me here c x y was place n same both alike on =
    a_gone (is_same_by mapping nick me || is_same_by mapping x nick) (was x) (place x) (place y) alike on
arrival-alike mapping (Renamed old new) me here c x y was place n same both alike on =
    let one = is_same_by-left mapping x y new same in
    let renamed = a_renamed (was old) (is_same_by mapping x new) (is_same_by mapping x old) (was x) (place old) (place x) (place y) alike on in
    cc
arrival-alike mapping (ModesSet channel modes arguments) me here c x y was place n same both alike on = alike on
arrival-alike mapping (Marked d mark set nick) me here c x y was place n same both alike on =
    both_same (is_same_by mapping c d && is_same_by mapping x nick) (place x) ∙ alike on
    ∙ sym (both_same (is_same_by mapping c d && is_same_by mapping y nick) (place y))
arrival-alike mapping (Titled d topic) me here c x y was place n same both alike on = alike on
arrival-alike mapping (NamesTold channel names) me here c x y was place n same both alike on = alike on
arrival-alike mapping (Listed d one) me here c x y was place n same both alike on =
    let called = is_same_by-left mapping x y one.nick same in
    let listed = a_listed (is_same_by mapping c d) here (is_same_by mapping x one.nick) (was x) n (place x) (place y) alike on in
    cc
arrival-alike mapping (Addressed d nick user host) me here c x y was place n same both alike on =
    both_same (is_same_by mapping c d && is_same_by mapping x nick) (place x) ∙ alike on
    ∙ sym (both_same (is_same_by mapping c d && is_same_by mapping y nick) (place y))
arrival-alike mapping (Told nick detail) me here c x y was place n same both alike on = both_same (is_same_by mapping x nick) (place x) ∙ alike on ∙ sym (both_same (is_same_by mapping y nick) (place y))
arrival-alike mapping (ToldAtJoin nick account) me here c x y was place n same both alike on = alike on
arrival-alike mapping (JoinsTell tell) me here c x y was place n same both alike on = alike on

-- ---- members after an item

map-all : (now was : List ℕ → ℕ) → ((x : List ℕ) → now x ≡ was x) → (ms : List Member) → map (at now) ms ≡ map (at was) ms
map-all now was same [] = refl
map-all now was same (m ∷ ms) = let head = same m.nick in let tail = map-all now was same ms in cc

ordered-one : (k n : ℕ) → k ≡ n → Ordered (suc n) (k ∷ [])
ordered-one k n is = ((tt, tt), (omega (arith, is), tt))

come_by : (mapping : Casemapping) (one : Member) (f : Member → Member) → ((m : Member) → (f m).nick ≡ m.nick) → (now was : List ℕ → ℕ) (n : ℕ) (ms : List Member) (h : Bool)
    → has_member mapping one.nick ms ≡ h →
    ((m : Member) → has_member mapping m.nick ms ≡ true → now m.nick ≡ was m.nick) → (h ≡ false → now one.nick ≡ n) → Ordered n (map (at was) ms)
    → Ordered (suc n) (map (at now) (cond h (first_changed (is_called mapping one.nick) f ms) (ms ++ one ∷ [])))
come_by mapping one f keeps now was n ms true is old new o =
    let same = map-each (at now) (at was) ms (each-by (λ m. has_member mapping m.nick ms ≡ true) (λ m. now m.nick ≡ was m.nick) old ms (each-in mapping ms)) in
    subst (Ordered (suc n)) (sym (map-changed (at now) (is_called mapping one.nick) f (λ m. ap now (keeps m)) ms ∙ same)) (ordered-more n (map (at was) ms) o)
come_by mapping one f keeps now was n ms false is old new o =
    let same = map-each (at now) (at was) ms (each-by (λ m. has_member mapping m.nick ms ≡ true) (λ m. now m.nick ≡ was m.nick) old ms (each-in mapping ms)) in
    subst (Ordered (suc n)) (sym (map-end (at now) ms one ∙ (ap (λ ks. ks ++ now one.nick ∷ []) same ∙ ap (λ k. map (at was) ms ++ k ∷ []) (new refl))))
    (ordered-end n (map (at was) ms) o)

abbrev OrderedMembers : ℕ → (List ℕ → ℕ) → Option Channel → Type 0
OrderedMembers n place o = Ordered n (map (at place) (members_of o))

keeps_by : (b w : Bool) (n k : ℕ) → w ≡ true → cond b (cond (not w) n k) k ≡ k
keeps_by b true n k is = both_same b k
keeps_by b false n k is = cc

new_by : (b w : Bool) (n k : ℕ) → b ≡ true → w ≡ false → cond b (cond (not w) n k) k ≡ n
new_by true false n k one two = refl
new_by true true n k one two = cc
new_by false w n k one two = cc

ord_joined : (mapping : Casemapping) (nick d : List ℕ) (one : Member) (f : Member → Member) (b1 b2 : Bool) (was : List ℕ → Bool) (place : List ℕ → ℕ) (n : ℕ) (o : Option Channel)
    → one.nick ≡ nick → f ≡ with_address one.user one.host →
    ((x : List ℕ) → was x ≡ has_member mapping x (members_of o)) → OrderedMembers n place o →
    OrderedMembers (suc n) (λ x. cond (b1 && is_same_by mapping x nick) (cond (b2 || not (was x)) n (place x)) (place x))
    (cond b1 (cond b2 (Some (opened d one)) (option_map (with_members (arrived mapping one)) o)) o)
ord_joined mapping nick d one f true true was place n o named is on o_ordered = ordered-one _ n (rw named (rw (is_same_by-refl mapping nick) refl))
ord_joined mapping nick d one f true false was place n None named is on o_ordered = (tt, tt)
ord_joined mapping nick d one f true false was place n (Some ch) named is on o_ordered =
    come_by mapping one (with_address one.user one.host) (λ m. refl) (λ x. cond (is_same_by mapping x nick) (cond (not (was x)) n (place x)) (place x)) place n ch.members
    (has_member mapping one.nick ch.members) refl
    (λ m there. keeps_by (is_same_by mapping m.nick nick) (was m.nick) n (place m.nick) (on m.nick ∙ there))
    (λ away. new_by (is_same_by mapping one.nick nick) (was one.nick) n (place one.nick) (rw named (is_same_by-refl mapping nick)) (on one.nick ∙ away))
    o_ordered
ord_joined mapping nick d one f false b2 was place n o named is on o_ordered = ordered-more n _ o_ordered

kept_by : (b w : Bool) (n k : ℕ) → w ≡ true → cond b (cond w k n) k ≡ k
kept_by b true n k is = both_same b k
kept_by b false n k is = cc

added_by : (b w : Bool) (n k : ℕ) → b ≡ true → w ≡ false → cond b (cond w k n) k ≡ n
added_by true false n k one two = refl
added_by true true n k one two = cc
added_by false w n k one two = cc

ord_listed : (mapping : Casemapping) (one : Member) (b1 : Bool) (was : List ℕ → Bool) (place : List ℕ → ℕ) (n : ℕ) (o : Option Channel)
    → ((x : List ℕ) → was x ≡ has_member mapping x (members_of o)) → OrderedMembers n place o →
    OrderedMembers (suc n) (λ x. cond (b1 && is_same_by mapping x one.nick) (cond (was x) (place x) n) (place x))
    (cond b1 (option_map (with_members (listed mapping one)) o) o)
ord_listed mapping one true was place n None on ordered = (tt, tt)
ord_listed mapping one true was place n (Some ch) on ordered =
    come_by mapping one (with_marks_of one) (λ m. refl) (λ x. cond (is_same_by mapping x one.nick) (cond (was x) (place x) n) (place x)) place n ch.members
    (has_member mapping one.nick ch.members) refl
    (λ m there. kept_by (is_same_by mapping m.nick one.nick) (was m.nick) n (place m.nick) (on m.nick ∙ there))
    (λ away. added_by (is_same_by mapping one.nick one.nick) (was one.nick) n (place one.nick) (is_same_by-refl mapping one.nick) (on one.nick ∙ away))
    ordered
ord_listed mapping one false was place n o on ordered = ordered-more n _ ordered

ord_changed : (mapping : Casemapping) (nick : List ℕ) (f : Member → Member) → ((m : Member) → (f m).nick ≡ m.nick) → (b1 : Bool) (place : List ℕ → ℕ) (n : ℕ) (o : Option Channel)
    → OrderedMembers n place o →
    OrderedMembers (suc n) (λ x. cond (b1 && is_same_by mapping x nick) (place x) (place x))
    (cond b1 (option_map (with_members (first_changed (is_called mapping nick) f)) o) o)
ord_changed mapping nick f keeps true place n None ordered = (tt, tt)
ord_changed mapping nick f keeps true place n (Some ch) ordered =
    let now : List ℕ → ℕ = λ x. cond (is_same_by mapping x nick) (place x) (place x) in
    subst (Ordered (suc n))
    (sym (map-changed (at now) (is_called mapping nick) f (λ m. ap now (keeps m)) ch.members
    ∙ map-all now place (λ x. both_same (is_same_by mapping x nick) (place x)) ch.members)) (ordered-more n _ ordered)
ord_changed mapping nick f keeps false place n o ordered = ordered-more n _ ordered

ord_left : (mapping : Casemapping) (nick : List ℕ) (b1 b2 : Bool) (place : List ℕ → ℕ) (n : ℕ) (o : Option Channel) → OrderedMembers n place o →
    OrderedMembers (suc n) place (cond b1 (cond b2 None (option_map (with_members (first_removed (is_called mapping nick))) o)) o)
ord_left mapping nick true true place n o ordered = (tt, tt)
ord_left mapping nick true false place n None ordered = (tt, tt)
ord_left mapping nick true false place n (Some ch) ordered = ordered-more n _ (ordered-removed (at place) (is_called mapping nick) n ch.members ordered)
ord_left mapping nick false b2 place n o ordered = ordered-more n _ ordered

ord_titled : (topic : List ℕ) (b1 : Bool) (place : List ℕ → ℕ) (n : ℕ) (o : Option Channel) → OrderedMembers n place o
    → OrderedMembers (suc n) place (cond b1 (option_map (with_topic topic) o) o)
ord_titled topic true place n None ordered = (tt, tt)
ord_titled topic true place n (Some ch) ordered = ordered-more n _ ordered
ord_titled topic false place n o ordered = ordered-more n _ ordered

ren_first : (w b : Bool) (k j l : ℕ) → w ≡ true → b ≡ true → j ≡ l → cond (w && b) j k ≡ l
ren_first true true k j l one two is = is
ren_first true false k j l one two is = cc
ren_first false b k j l one two is = cc

ren_other : (w b : Bool) (k j : ℕ) → b ≡ false → cond (w && b) j k ≡ k
ren_other true true k j is = cc
ren_other true false k j is = refl
ren_other false b k j is = refl

ren_away : (w b : Bool) (k j : ℕ) → w ≡ false → cond (w && b) j k ≡ k
ren_away true b k j is = cc
ren_away false b k j is = refl

ren_all : (mapping : Casemapping) (old new : List ℕ) (was : List ℕ → Bool) (place : List ℕ → ℕ) (n : ℕ) (ms : List Member) (h : Bool) → has_member mapping old ms ≡ h
    → was old ≡ has_member mapping old ms →
    ((x y : List ℕ) → was x ≡ true → is_same_by mapping x y ≡ true → place x ≡ place y) → Distinct mapping nick_of_member ms → Ordered n (map (at place) ms) →
    Ordered n (map (at (λ x. cond (was old && is_same_by mapping x new) (place old) (place x)))
    (cond h (first_changed (is_called mapping old) (with_nick new) (without_namesake mapping old new ms)) ms))
ren_all mapping old new was place n ms true is on respects distinct ordered =
    ren_ordered mapping old new (λ x. cond (was old && is_same_by mapping x new) (place old) (place x)) place n ms (is_same_by mapping old new) refl
    (λ m same. ren_first (was old) (is_same_by mapping new new) (place new) (place old) (place m.nick) (on ∙ is) (is_same_by-refl mapping new) (respects old m.nick (on ∙ is) same))
    (λ m apart. ren_other (was old) (is_same_by mapping m.nick new) (place m.nick) (place old) (is_same_by-sym mapping m.nick new ∙ apart))
    distinct ordered
ren_all mapping old new was place n ms false is on respects distinct ordered =
    subst (Ordered n) (sym
    (map-all (λ x. cond (was old && is_same_by mapping x new) (place old) (place x)) place
    (λ x. ren_away (was old) (is_same_by mapping x new) (place x) (place old) (on ∙ is)) ms)) ordered

ord_renamed : (mapping : Casemapping) (old new : List ℕ) (was : List ℕ → Bool) (place : List ℕ → ℕ) (n : ℕ) (o : Option Channel)
    → ((x : List ℕ) → was x ≡ has_member mapping x (members_of o)) →
    ((x y : List ℕ) → was x ≡ true → is_same_by mapping x y ≡ true → place x ≡ place y) → Distinct mapping nick_of_member (members_of o) → OrderedMembers n place o →
    OrderedMembers (suc n) (λ x. cond (was old && is_same_by mapping x new) (place old) (place x)) (option_map (with_members (renamed mapping old new)) o)
ord_renamed mapping old new was place n None on respects distinct ordered = (tt, tt)
ord_renamed mapping old new was place n (Some ch) on respects distinct ordered =
    ordered-more n _ (ren_all mapping old new was place n ch.members (has_member mapping old ch.members) refl (on old) respects distinct ordered)

pub order-after : (mapping : Casemapping) (item : Item) (me c : List ℕ) (o : Option Channel) (was : List ℕ → Bool) (place : List ℕ → ℕ) (n : ℕ)
    → Distinct mapping nick_of_member (members_of o) → ((x : List ℕ) → was x ≡ has_member mapping x (members_of o)) →
    ((x y : List ℕ) → was x ≡ true → is_same_by mapping x y ≡ true → place x ≡ place y) → OrderedMembers n place o →
    OrderedMembers (suc n) (member_said mapping (λ _. n) (λ _. None) item me c was place) (channel_after mapping item me c o)
order-after mapping (Welcomed nick) me c o was place n distinct on respects ordered = (tt, tt)
order-after mapping (Announced tokens) me c o was place n distinct on respects ordered = ord_titled [] false place n o ordered
order-after mapping (Joined nick user host d) me c o was place n distinct on respects ordered =
    ord_joined mapping nick d (unmarked nick user host) (with_address user host) (is_same_by mapping c d) (is_same_by mapping nick me) was place n o refl refl on ordered
order-after mapping (Left nick d) me c o was place n distinct on respects ordered = ord_left mapping nick (is_same_by mapping c d) (is_same_by mapping nick me) place n o ordered
order-after mapping (Departed nick) me c o was place n distinct on respects ordered = ord_left mapping nick true (is_same_by mapping nick me) place n o ordered
order-after mapping (Renamed old new) me c o was place n distinct on respects ordered = ord_renamed mapping old new was place n o on respects distinct ordered
order-after mapping (ModesSet channel modes arguments) me c o was place n distinct on respects ordered = ord_titled [] false place n o ordered
order-after mapping (Marked d mark set nick) me c o was place n distinct on respects ordered = ord_changed mapping nick (with_mark mark set) (mark_keeps mark set)
    (is_same_by mapping c d) place n o ordered
order-after mapping (Titled d topic) me c o was place n distinct on respects ordered = ord_titled topic (is_same_by mapping c d) place n o ordered
order-after mapping (NamesTold channel names) me c o was place n distinct on respects ordered = ord_titled [] false place n o ordered
order-after mapping (Listed d one) me c o was place n distinct on respects ordered = ord_listed mapping one (is_same_by mapping c d) was place n o on ordered
order-after mapping (Addressed d nick user host) me c o was place n distinct on respects ordered = ord_changed mapping nick (with_address user host) (λ m. refl)
    (is_same_by mapping c d) place n o ordered
order-after mapping (Told nick detail) me c o was place n distinct on respects ordered = ord_changed mapping nick (with_detail detail) (detail_keeps detail) true place n o ordered
order-after mapping (ToldAtJoin nick account) me c o was place n distinct on respects ordered = ord_titled [] false place n o ordered
order-after mapping (JoinsTell tell) me c o was place n distinct on respects ordered = ord_titled [] false place n o ordered

-- ---- channels after an item

abbrev pub on_name : (List ℕ → ℕ) → Channel → ℕ
on_name place channel = place channel.name

either : {X : Type 0} (P : X → Type 0) (b : Bool) (x y : X) → (b ≡ true → P x) → (b ≡ false → P y) → P (cond b x y)
either P true x y one two = one refl
either P false x y one two = two refl

map-names : (now was : List ℕ → ℕ) → ((x : List ℕ) → now x ≡ was x) → (chs : List Channel) → map (on_name now) chs ≡ map (on_name was) chs
map-names now was same [] = refl
map-names now was same (ch ∷ chs) = let head = same ch.name in let tail = map-names now was same chs in cc

and-false : (a b : Bool) → b ≡ false → (a && b) ≡ false
and-false true b is = is
and-false false b is = refl

abbrev InOrder : ℕ → (List ℕ → ℕ) → ChanState → Type 0
InOrder n place s = Ordered n (map (on_name place) s.channels)

-- an edit of channels that keeps their names, while no channel is joined
unjoined : (place now : List ℕ → ℕ) (n : ℕ) (f : Channel → Channel) (q : Channel → Bool) → ((x : List ℕ) → now x ≡ place x)
    → ((ch : Channel) → (f ch).name ≡ ch.name) → (chs : List Channel) → Ordered n (map (on_name place) chs) →
    Ordered (suc n) (map (on_name now) (first_changed q f chs))
unjoined place now n f q same keeps chs ordered =
    subst (Ordered (suc n)) (sym (map-changed (on_name now) q f (λ ch. ap now (keeps ch)) chs ∙ map-names now place same chs)) (ordered-more n _ ordered)

opened_last : (mapping : Casemapping) (nick me d : List ℕ) (one : Channel) (place : List ℕ → ℕ) (n : ℕ) (chs : List Channel) → one.name ≡ d → is_same_by mapping nick me ≡ true
    → Distinct mapping name_of chs → Ordered n (map (on_name place) chs) →
    Ordered (suc n) (map (on_name (λ c. cond (is_same_by mapping c d && is_same_by mapping nick me) n (place c))) (put_last mapping one chs))
opened_last mapping nick me d one place n chs named own distinct ordered =
    let now : List ℕ → ℕ = λ c. cond (is_same_by mapping c d && is_same_by mapping nick me) n (place c) in
    let rest = first_removed (is_named mapping one.name) chs in
    let gone : find (is_named mapping one.name) rest ≡ None = find-removed_same (is_named mapping one.name) chs (at_most_one mapping name_of one.name chs distinct) in
    let none = each-none (is_named mapping one.name) rest (list_any-find (is_named mapping one.name) rest ∙ ap is_some gone) in
    let apart = each-by (λ ch. is_named mapping one.name ch ≡ false) (λ ch. on_name now ch ≡ on_name place ch)
    (λ ch is. ap (λ b. cond (b && is_same_by mapping nick me) n (place ch.name))
    (is_same_by-sym mapping ch.name d ∙ (ap (λ name. is_same_by mapping name ch.name) (sym named) ∙ is))) rest none in
    let new : now one.name ≡ n = rw (named, is_same_by-refl mapping d, own) refl in
    subst (Ordered (suc n))
    (sym (map-end (on_name now) rest one
    ∙ (ap (λ ks. ks ++ now one.name ∷ []) (map-each (on_name now) (on_name place) rest apart) ∙ ap (λ k. map (on_name place) rest ++ k ∷ []) new)))
    (ordered-end n (map (on_name place) rest) (ordered-removed (on_name place) (is_named mapping one.name) n chs ordered))

pub channels-in-order : (item : Item) (s : ChanState) (place : List ℕ → ℕ) (n : ℕ) → Distinct (mapping_of s) name_of s.channels
    → Ordered n (map (on_name place) s.channels) →
    Ordered (suc n) (map (on_name (λ c. cond (joins (mapping_of s) item s.nick c) n (place c))) (step item s).channels)
channels-in-order (Welcomed nick) s place n distinct ordered = (tt, tt)
channels-in-order (Announced tokens) s place n distinct ordered = ordered-more n _ ordered
channels-in-order (Joined nick user host d) s place n distinct ordered =
    either (InOrder (suc n) (λ c. cond (is_same_by (mapping_of s) c d && is_same_by (mapping_of s) nick s.nick) n (place c))) (is_same_by (mapping_of s) nick s.nick) _ _
    (λ is. opened_last (mapping_of s) nick s.nick d (opened d (unmarked nick user host)) place n s.channels refl is distinct ordered)
    (λ is. unjoined place (λ c. cond (is_same_by (mapping_of s) c d && is_same_by (mapping_of s) nick s.nick) n (place c)) n (with_members (arrived (mapping_of s) (unmarked nick user host))) (is_named (mapping_of s) d)
    (λ c. ap (λ b. cond b n (place c)) (and-false (is_same_by (mapping_of s) c d) (is_same_by (mapping_of s) nick s.nick) is)) (λ ch. refl) s.channels ordered)
channels-in-order (Left nick d) s place n distinct ordered =
    either (InOrder (suc n) place) (is_same_by (mapping_of s) nick s.nick) _ _
    (λ is. ordered-more n _ (ordered-removed (on_name place) (is_named (mapping_of s) d) n s.channels ordered))
    (λ is. unjoined place place n (with_members (first_removed (is_called (mapping_of s) nick))) (is_named (mapping_of s) d) (λ c. refl) (λ ch. refl) s.channels ordered)
channels-in-order (Departed nick) s place n distinct ordered =
    either (InOrder (suc n) place) (is_same_by (mapping_of s) nick s.nick) (record s { channels = [] }) _ (λ is. (tt, tt))
    (λ is. subst (Ordered (suc n)) (sym (map-map (on_name place) (with_members (first_removed (is_called (mapping_of s) nick))) (λ ch. refl) s.channels))
    (ordered-more n _ ordered))
channels-in-order (Renamed old new) s place n distinct ordered =
    subst (Ordered (suc n)) (sym (map-map (on_name place) (with_members (renamed (mapping_of s) old new)) (λ ch. refl) s.channels)) (ordered-more n _ ordered)
channels-in-order (ModesSet channel modes arguments) s place n distinct ordered = ordered-more n _ ordered
channels-in-order (Marked d mark set nick) s place n distinct ordered = unjoined place place n _ (is_named (mapping_of s) d) (λ c. refl) (λ ch. refl) s.channels ordered
channels-in-order (Titled d topic) s place n distinct ordered = unjoined place place n (with_topic topic) (is_named (mapping_of s) d) (λ c. refl)
    (λ ch. refl) s.channels ordered
channels-in-order (NamesTold channel names) s place n distinct ordered = ordered-more n _ ordered
channels-in-order (Listed d one) s place n distinct ordered = unjoined place place n _ (is_named (mapping_of s) d) (λ c. refl) (λ ch. refl) s.channels ordered
channels-in-order (Addressed d nick user host) s place n distinct ordered = unjoined place place n _ (is_named (mapping_of s) d) (λ c. refl)
    (λ ch. refl) s.channels ordered
channels-in-order (Told nick detail) s place n distinct ordered = subst (Ordered (suc n))
    (sym (map-map (on_name place) (with_members (first_changed (is_called (mapping_of s) nick) (with_detail detail))) (λ ch. refl) s.channels)) (ordered-more n _ ordered)
channels-in-order (ToldAtJoin nick account) s place n distinct ordered = ordered-more n _ ordered
channels-in-order (JoinsTell tell) s place n distinct ordered = ordered-more n _ ordered
