-- What is taken out of channels, and given back.
use Rattle.std.proofs.Common.{◌≡◌, ℕ, zero, suc, ◌<◌, ◌≤◌, Bool, true, false, cond, not, ◌||◌, Some, None, List, [], ◌∷◌, ◌++◌, length, get_or, set, ltb}
use Rattle.std.proofs.Common.{◌+◌, map, refl, sym, ap, subst, ◌∙◌, arith}
use Rattle.std.specs.List.{position, position_or_len}
use Rattle.std.specs.Prelude.{nat_eq}
use Rattle.std.proofs.lemmas.List.Folds.{list_any-append}
use Rattle.std.proofs.lemmas.Bool.{eqb-true, eq-eqb}
use Rattle.chanstate.specs.declared.member.Member.{Member}
use Rattle.chanstate.specs.declared.channel.Channel.{Channel}
use Rattle.chanstate.specs.declared.take.Take.{Take}
use Rattle.chanstate.specs.declared.task.Task.{Task}
use Rattle.chanstate.specs.Tasks.{done_by}
use Rattle.chanstate.specs.Takes.{pick, on_place, given, is_taken, AreKept, Holds}
use Rattle.chanstate.specs.Channels.{is_named, is_held, with_members, on_channel}
use Rattle.chanstate.proofs.BoolLemmas.{or-parts}
use Rattle.bytetext.proofs.Lists.{list_any-no_position}
use Rattle.chanstate.proofs.FirstsLemmas.{first_changed-first, first-from_position, first_changed-nowhere, somewhere}
use Rattle.rfccase.specs.declared.casemappings.Casemapping.{Casemapping}

-- ---- the channel at a place

on_place-at : (i : ℕ) (f : List Member → List Member) (cs : List Channel) (d : Channel) → i < length cs
    → on_place i f cs ≡ set cs i (with_members f (get_or cs i d))
on_place-at i f [] d less = absurd (let less : i < 0 = less in omega arith)
on_place-at zero f (c ∷ cs) d less = refl
on_place-at (suc i) f (c ∷ cs) d less =
    let less : suc i < suc (length cs) = less in
    ap (λ ds. c ∷ ds) (on_place-at i f cs d (omega arith))

-- as the code writes it
pub set_at : (i : ℕ) (f : List Member → List Member) (xs cs : List Channel) (c y : Channel) → xs ≡ cs → i < length xs → c ≡ get_or xs i c
    → with_members f c ≡ y → set xs i y ≡ on_place i f cs
set_at i f xs cs c y same less read made =
    ap (λ z. set xs i z) (sym made ∙ ap (with_members f) read) ∙ sym (on_place-at i f xs c less) ∙ ap (on_place i f) same

pub on_place-past : (i : ℕ) (f : List Member → List Member) (cs : List Channel) → length cs ≤ i → on_place i f cs ≡ cs
on_place-past i f [] past = refl
on_place-past zero f (c ∷ cs) past = absurd (let past : suc (length cs) ≤ 0 = past in omega arith)
on_place-past (suc i) f (c ∷ cs) past =
    let past : suc (length cs) ≤ suc i = past in
    ap (λ ds. c ∷ ds) (on_place-past i f cs (omega arith))

pub on_place-still : (i : ℕ) (f : List Member → List Member) (cs : List Channel) (d : Channel)
    → f (get_or cs i d).members ≡ (get_or cs i d).members → on_place i f cs ≡ cs
on_place-still i f [] d still = refl
on_place-still zero f (c ∷ cs) d still = ap (λ ms. record c { members = ms } ∷ cs) still
on_place-still (suc i) f (c ∷ cs) d still = ap (λ ds. c ∷ ds) (on_place-still i f cs d still)

on_place-twice : (i : ℕ) (f g : List Member → List Member) (cs : List Channel) → on_place i f (on_place i g cs) ≡ on_place i (λ ms. f (g ms)) cs
on_place-twice i f g [] = refl
on_place-twice zero f g (c ∷ cs) = refl
on_place-twice (suc i) f g (c ∷ cs) = ap (λ ds. c ∷ ds) (on_place-twice i f g cs)

on_place-apart : (i j : ℕ) (f g : List Member → List Member) (cs : List Channel) → (i ≡ j → ⊥)
    → on_place i f (on_place j g cs) ≡ on_place j g (on_place i f cs)
on_place-apart i j f g [] apart = refl
on_place-apart zero zero f g (c ∷ cs) apart = absurd (apart refl)
on_place-apart zero (suc j) f g (c ∷ cs) apart = refl
on_place-apart (suc i) zero f g (c ∷ cs) apart = refl
on_place-apart (suc i) (suc j) f g (c ∷ cs) apart = ap (λ ds. c ∷ ds) (on_place-apart i j f g cs (λ e. apart (ap suc e)))

not_equal : (i j : ℕ) → nat_eq i j ≡ false → i ≡ j → ⊥
not_equal i j differ same = true_false (sym (eq-eqb i j same) ∙ differ)
  where
    true_false : true ≡ false → ⊥
    true_false e = cc

-- members put over others that were put in the place of those that were there
put_over : (i : ℕ) (f : List Member → List Member) (cs : List Channel) (d : Channel) (ms : List Member) → i < length cs
    → on_place i (λ _. f (get_or cs i d).members) (set cs i (record (get_or cs i d) { members = ms })) ≡ on_place i f cs
put_over i f [] d ms less = absurd (let less : i < 0 = less in omega arith)
put_over zero f (c ∷ cs) d ms less = refl
put_over (suc i) f (c ∷ cs) d ms less =
    let less : suc i < suc (length cs) = less in
    ap (λ ds. c ∷ ds) (put_over i f cs d ms (omega arith))

-- ---- what is given back

pub given-append : (done : Bool) (ts : List Take) (t : Take) (cs : List Channel)
    → given done (ts ++ t ∷ []) cs ≡ given done ts (on_place t.at (λ _. pick done t.seating) cs)
given-append done [] t cs = refl
given-append done (u ∷ us) t cs = ap (on_place u.at (λ _. pick done u.seating)) (given-append done us t cs)

AreKept-append : (change : List Member → List Member) (ts : List Take) (t : Take) → change t.seating.1 ≡ t.seating.1 → AreKept change ts
    → AreKept change (ts ++ t ∷ [])
AreKept-append change [] t one all = (one, tt)
AreKept-append change (u ∷ us) t one all = (all.0, AreKept-append change us t one all.1)

-- as the code takes one more
pub taken : (mapping : Casemapping) (at : ℕ) (task : Task) (xs old : List Channel) (before ts takes : List Take) (c : Channel) (ms : List Member) (seating : List Member × List Member)
    → xs ≡ old → at < length old → c ≡ get_or xs at c → seating ≡ (c.members, done_by mapping task c.members) → ts ≡ before
    → takes ≡ ts ++ (record { at = at; seating = seating }) ∷ []
    → Holds mapping at task old before (set xs at (record c { members = ms })) takes
taken mapping at task xs old before ts takes c ms seating same less read made kept more = record {
  back = side false (λ ms. ms) (ap (λ (p : List Member × List Member). p.0) made) ∙ ap (given false before) (on_place-still at (λ ms. ms) old c refl);
  done = side true (done_by mapping task) (ap (λ (p : List Member × List Member). p.1) made);
  places = λ i. ap (is_taken i) is ∙ list_any-append (λ (t : Take). nat_eq t.at i) before (one ∷ []) ∙ ap (λ b. is_taken i before || b) (or_false (nat_eq at i));
  kept = λ change again all.
      let fixed : change seating.1 ≡ seating.1 = ap (λ (p : List Member × List Member). change p.1) made ∙ again c.members
      ∙ sym (ap (λ (p : List Member × List Member). p.1) made) in
      subst (AreKept change) (sym is) (AreKept-append change before one fixed all);
}
  where
    one : Take
    one = record { at = at; seating = seating }

    is : takes ≡ before ++ one ∷ []
    is = more ∙ ap (λ us. us ++ one ∷ []) kept

    or_false : (b : Bool) → (b || false) ≡ b
    or_false true = refl
    or_false false = refl

    here : c ≡ get_or old at c
    here = read ∙ ap (λ zs. get_or zs at c) same

    side : (done : Bool) (f : List Member → List Member) → pick done seating ≡ f c.members
        → given done takes (set xs at (record c { members = ms })) ≡ given done before (on_place at f old)
    side done f picked =
        ap (λ us. given done us (set xs at (record c { members = ms }))) is
        ∙ given-append done before one (set xs at (record c { members = ms }))
        ∙ ap (given done before)
        (ap (λ zs. on_place at (λ _. pick done seating) (set zs at (record c { members = ms }))) same
        ∙ ap (λ ns. on_place at (λ _. ns) (set old at (record c { members = ms }))) (picked ∙ ap (λ (x : Channel). f x.members) here)
        ∙ ap (λ (x : Channel). on_place at (λ _. f (get_or old at c).members) (set old at (record x { members = ms }))) here
        ∙ put_over at f old c ms less)

-- a change of a channel from which nothing was taken
pub given-other : (done : Bool) (i : ℕ) (f : List Member → List Member) (ts : List Take) (cs : List Channel) → is_taken i ts ≡ false
    → given done ts (on_place i f cs) ≡ on_place i f (given done ts cs)
given-other done i f [] cs none = refl
given-other done i f (t ∷ ts) cs none =
    let parts = or-parts (nat_eq t.at i) (is_taken i ts) none in
    ap (on_place t.at (λ _. pick done t.seating)) (given-other done i f ts cs parts.1)
    ∙ on_place-apart t.at i (λ _. pick done t.seating) f (given done ts cs) (not_equal t.at i parts.0)

-- and one that leaves what was taken as it will be
pub given-kept : (i : ℕ) (f : List Member → List Member) (ts : List Take) (cs : List Channel) → is_taken i ts ≡ true → AreKept f ts
    → on_place i f (given true ts cs) ≡ given true ts cs
given-kept i f [] cs some kept = cc
given-kept i f (t ∷ ts) cs some kept = by (nat_eq t.at i) refl (λ here. given-kept i f ts cs here kept.1)
  where
    rest : List Channel
    rest = given true ts cs

    later : (b : Bool) → b ≡ false → (b || is_taken i ts) ≡ true → is_taken i ts ≡ true
    later true none is = cc
    later false none is = is

    by : (b : Bool) → nat_eq t.at i ≡ b → (is_taken i ts ≡ true → on_place i f rest ≡ rest)
        → on_place i f (on_place t.at (λ _. t.seating.1) rest) ≡ on_place t.at (λ _. t.seating.1) rest
    by true is further =
        let same = eqb-true t.at i is in
        ap (λ k. on_place k f (on_place t.at (λ _. t.seating.1) rest)) (sym same)
        ∙ on_place-twice t.at f (λ _. t.seating.1) rest ∙ ap (λ ms. on_place t.at (λ _. ms) rest) kept.0
    by false is further =
        sym (on_place-apart t.at i (λ _. t.seating.1) f rest (not_equal t.at i is))
        ∙ ap (on_place t.at (λ _. t.seating.1)) (further (later (nat_eq t.at i) is some))

-- ---- names and places stay

len-on_place : (i : ℕ) (f : List Member → List Member) (cs : List Channel) → length (on_place i f cs) ≡ length cs
len-on_place i f [] = refl
len-on_place zero f (c ∷ cs) = refl
len-on_place (suc i) f (c ∷ cs) = ap suc (len-on_place i f cs)

pub len-given : (done : Bool) (ts : List Take) (cs : List Channel) → length (given done ts cs) ≡ length cs
len-given done [] cs = refl
len-given done (t ∷ ts) cs = len-on_place t.at (λ _. pick done t.seating) (given done ts cs) ∙ len-given done ts cs

first-on_place : (mapping : Casemapping) (name : List ℕ) (i : ℕ) (f : List Member → List Member) (cs : List Channel)
    → position_or_len (is_named mapping name) (on_place i f cs) ≡ position_or_len (is_named mapping name) cs
first-on_place mapping name i f [] = refl
first-on_place mapping name zero f (c ∷ cs) = refl
first-on_place mapping name (suc i) f (c ∷ cs) = ap (λ n. cond (not (is_named mapping name c)) (1 + n) 0) (first-on_place mapping name i f cs)

first-given : (mapping : Casemapping) (name : List ℕ) (done : Bool) (ts : List Take) (cs : List Channel)
    → position_or_len (is_named mapping name) (given done ts cs) ≡ position_or_len (is_named mapping name) cs
first-given mapping name done [] cs = refl
first-given mapping name done (t ∷ ts) cs = first-on_place mapping name t.at (λ _. pick done t.seating) (given done ts cs) ∙ first-given mapping name done ts cs

pub position-given : (mapping : Casemapping) (name : List ℕ) (done : Bool) (ts : List Take) (cs : List Channel)
    → position (is_named mapping name) (given done ts cs) ≡ position (is_named mapping name) cs
position-given mapping name done ts cs =
    ap (λ n. cond (ltb n (length (given done ts cs))) (Some n) None) (first-given mapping name done ts cs)
    ∙ ap (λ l. cond (ltb (position_or_len (is_named mapping name) cs) l) (Some (position_or_len (is_named mapping name) cs)) None) (len-given done ts cs)

nobody : Channel
nobody = record { name = []; topic = []; members = [] }

pub on_channel-at : (mapping : Casemapping) (name : List ℕ) (i : ℕ) (f : List Member → List Member) (cs : List Channel) → position (is_named mapping name) cs ≡ Some i
    → on_channel mapping name f cs ≡ on_place i f cs
on_channel-at mapping name i f cs is =
    let first = first-from_position (is_named mapping name) cs i nobody is in
    first_changed-first (is_named mapping name) (with_members f) cs i nobody first ∙ sym (on_place-at i f cs nobody first.within)

pub on_channel-nowhere : (mapping : Casemapping) (name : List ℕ) (f : List Member → List Member) (cs : List Channel) → position (is_named mapping name) cs ≡ None
    → on_channel mapping name f cs ≡ cs
on_channel-nowhere mapping name f cs none = first_changed-nowhere (is_named mapping name) (with_members f) cs (list_any-no_position (is_named mapping name) cs none)

-- ---- the same change on each channel in turn

-- the first so many channels changed
abbrev pub front_on : ℕ → (List Member → List Member) → List Channel → List Channel
front_on n f [] = []
front_on zero f (c ∷ cs) = c ∷ cs
front_on (suc n) f (c ∷ cs) = with_members f c ∷ front_on n f cs

pub front_on-none : (f : List Member → List Member) (cs : List Channel) → front_on 0 f cs ≡ cs
front_on-none f [] = refl
front_on-none f (c ∷ cs) = refl

pub front_on-more : (n : ℕ) (f : List Member → List Member) (cs : List Channel) → on_place n f (front_on n f cs) ≡ front_on (suc n) f cs
front_on-more n f [] = refl
front_on-more zero f (c ∷ cs) = ap (λ ds. with_members f c ∷ ds) (sym (front_on-none f cs))
front_on-more (suc n) f (c ∷ cs) = ap (λ ds. with_members f c ∷ ds) (front_on-more n f cs)

pub front_on-all : (n : ℕ) (f : List Member → List Member) (cs : List Channel) → length cs ≤ n → front_on n f cs ≡ map (with_members f) cs
front_on-all n f [] all = refl
front_on-all zero f (c ∷ cs) all = absurd (let all : suc (length cs) ≤ 0 = all in omega arith)
front_on-all (suc n) f (c ∷ cs) all =
    let all : suc (length cs) ≤ suc n = all in
    ap (λ ds. with_members f c ∷ ds) (front_on-all n f cs (omega arith))

-- ---- which channels are held

pub held_at : (mapping : Casemapping) (name : List ℕ) (i : ℕ) (cs : List Channel) → Some i ≡ position (is_named mapping name) cs → is_held mapping name cs ≡ true
held_at mapping name i cs is = somewhere (is_named mapping name) cs i nobody is

held-on_place : (mapping : Casemapping) (name : List ℕ) (i : ℕ) (f : List Member → List Member) (cs : List Channel) → is_held mapping name (on_place i f cs) ≡ is_held mapping name cs
held-on_place mapping name i f [] = refl
held-on_place mapping name zero f (c ∷ cs) = refl
held-on_place mapping name (suc i) f (c ∷ cs) = ap (λ b. is_named mapping name c || b) (held-on_place mapping name i f cs)

pub held-given : (mapping : Casemapping) (name : List ℕ) (done : Bool) (ts : List Take) (cs : List Channel) → is_held mapping name (given done ts cs) ≡ is_held mapping name cs
held-given mapping name done [] cs = refl
held-given mapping name done (t ∷ ts) cs = held-on_place mapping name t.at (λ _. pick done t.seating) (given done ts cs) ∙ held-given mapping name done ts cs
