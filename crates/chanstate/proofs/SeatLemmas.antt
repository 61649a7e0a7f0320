-- Seats and their index: what edits of both mean for those who sit there.
use Rattle.std.proofs.Common.{◌≡◌, ◌≢◌, ◌⊎◌, inl, inr, ⊎_elim, ℕ, zero, suc, ◌+◌, ◌<◌, ◌≤◌, Bool, true, false, cond, ◌||◌, List, [], ◌∷◌, ◌++◌, length, get_or}
use Rattle.std.proofs.Common.{set, take, map, nat_eq, eqb, refl, sym, ap, subst, ◌∙◌, Option, None, Some, is_some, Result, Ok, Err, IsOk, OnOk}
use Rattle.std.proofs.Common.{true≢false, if◌then◌else◌, arith}
use Rattle.std.specs.Prelude.{find}
use Rattle.std.specs.List.{list_any, filter_map, cons_option, position}
use Rattle.std.specs.Option.{option_to_list, option_copied}
use Rattle.std.specs.Borrow.{Bor}
use Rattle.std.specs.Map.{IsKeyTest, AreApart, KeepsOthers}
use Rattle.std.specs.Cmp.Lexicographic.{pointwise}
use Rattle.std.specs.declared.vec.Vec.{Vec}
use Rattle.std.specs.declared.alloc.Global.{Global}
use Rattle.std.proofs.lemmas.Bool.{cond-true, cond-false, eqb-true, eqb-false}
use Rattle.std.proofs.lemmas.List.{take_more, set-set, length-set}
use Rattle.std.proofs.lemmas.List.Elements.{filter_map-append}
use Rattle.rfccase.specs.Casemapping.{folded_by, is_same_by}
use Rattle.chanstate.specs.declared.member.Member.{Member}
use Rattle.chanstate.specs.Seats.{SitsAt, AreIndexed, IsChanged, IsIndexedNext, Entries, place_under, has_key, seated, taken, is_seat_of, IsUnder, AreUnder}
use Rattle.chanstate.specs.declared.member_edit.MemberEdit.{MemberEdit}
use Rattle.chanstate.specs.declared.member_edit.MemberEdit.TheVariants.{Marked, Listed, Addressed, Told}
use Rattle.chanstate.specs.declared.detail.Detail.TheVariants.{Account, Address}
use Rattle.chanstate.specs.declared.member.Mark.TheVariants.{Op, Voice, HalfOp}
use Rattle.chanstate.specs.Members.{is_called, with_nick, edited}
use Rattle.chanstate.specs.Firsts.{first_removed, first_changed}
use Rattle.bytetext.proofs.Lists.{list_any-no_position}
use Rattle.chanstate.proofs.FindLemmas.{pointwise-same, pointwise-refl}
use Rattle.chanstate.proofs.FirstsLemmas.{IsFirst, tail-first, first-from_position, somewhere}
use Rattle.rfccase.specs.declared.casemappings.Casemapping.{Casemapping}

abbrev pub Places : Type 0
Places = List (Option Member)

pub is_some-copied : {X : Type 0} (o : Option (Bor X)) → is_some o ≡ is_some (option_copied o)
is_some-copied None = refl
is_some-copied (Some b) = refl

-- what follows from a call that succeeds
pub at_ok : {T E : Type 0} (r : Result T E) (P : Type 0) → IsOk r → OnOk r P → P
at_ok (Ok x) P ok holds = holds
at_ok (Err e) P ok holds = cc

pub AreUnder-append : (mapping : Casemapping) (es : List (Vec ℕ Global × Member)) (e : Vec ℕ Global × Member) → AreUnder mapping es → IsUnder mapping e.0 e.1 → AreUnder mapping (es ++ e ∷ [])
AreUnder-append mapping [] e under is = (is, tt)
AreUnder-append mapping (x ∷ xs) e under is = (under.0, AreUnder-append mapping xs e under.1 is)

-- who sits at a place

pub SitsAt-within : (ps : Places) (i : ℕ) (m : Member) → SitsAt ps i m → i < length ps
SitsAt-within [] i m at = absurd at
SitsAt-within (p ∷ ps) zero m at = omega arith
SitsAt-within (p ∷ ps) (suc i) m at = let rest = SitsAt-within ps i m at in omega (arith, rest)

pub SitsAt-get_or : (ps : Places) (i : ℕ) (m : Member) (d : Option Member) → SitsAt ps i m → get_or ps i d ≡ Some m
SitsAt-get_or [] i m d at = absurd at
SitsAt-get_or (p ∷ ps) zero m d at = at
SitsAt-get_or (p ∷ ps) (suc i) m d at = SitsAt-get_or ps i m d at

pub SitsAt-from : (ps : Places) (i : ℕ) (m : Member) (d : Option Member) → i < length ps → get_or ps i d ≡ Some m → SitsAt ps i m
SitsAt-from [] i m d less is = absurd (let within : i < 0 = less in omega arith)
SitsAt-from (p ∷ ps) zero m d less is = is
SitsAt-from (p ∷ ps) (suc i) m d less is = SitsAt-from ps i m d (let within : suc i < suc (length ps) = less in omega arith) is

pub SitsAt-same : (ps : Places) (i : ℕ) (m n : Member) → SitsAt ps i m → SitsAt ps i n → m ≡ n
SitsAt-same ps i m n here there = let both = sym (SitsAt-get_or ps i m None here) ∙ SitsAt-get_or ps i n None there in cc

-- edits of a place

abbrev pub IsSet : Places → ℕ → ℕ → Option Member → Member → Type 0
IsSet ps i j o m = ((j ≡ i) × (o ≡ Some m)) ⊎ ((j ≢ i) × SitsAt ps j m)

next_set : (ps : Places) (p : Option Member) (i j : ℕ) (o : Option Member) (m : Member) → IsSet ps i j o m → IsSet (p ∷ ps) (suc i) (suc j) o m
next_set ps p i j o m is = ⊎_elim (λ here. inl (ap suc here.0, here.1)) (λ there. inr ((λ (e : suc j ≡ suc i). there.0 (omega (arith, e))), there.1)) is

pub SitsAt-set : (ps : Places) (i j : ℕ) (o : Option Member) (m : Member) → SitsAt (set ps i o) j m → IsSet ps i j o m
SitsAt-set [] i j o m at = absurd at
SitsAt-set (p ∷ ps) zero zero o m at = inl (refl, at)
SitsAt-set (p ∷ ps) zero (suc j) o m at = inr ((λ (e : suc j ≡ 0). omega (arith, e)), at)
SitsAt-set (p ∷ ps) (suc i) zero o m at = inr ((λ (e : 0 ≡ suc i). omega (arith, e)), at)
SitsAt-set (p ∷ ps) (suc i) (suc j) o m at = next_set ps p i j o m (SitsAt-set ps i j o m at)

pub SitsAt-set_same : (ps : Places) (i : ℕ) (m : Member) → i < length ps → SitsAt (set ps i (Some m)) i m
SitsAt-set_same [] i m less = absurd (let within : i < 0 = less in omega arith)
SitsAt-set_same (p ∷ ps) zero m less = refl
SitsAt-set_same (p ∷ ps) (suc i) m less = SitsAt-set_same ps i m (let within : suc i < suc (length ps) = less in omega arith)

pub SitsAt-set_other : (ps : Places) (i j : ℕ) (o : Option Member) (m : Member) → j ≢ i → SitsAt ps j m → SitsAt (set ps i o) j m
SitsAt-set_other [] i j o m apart at = absurd at
SitsAt-set_other (p ∷ ps) zero zero o m apart at = absurd (apart refl)
SitsAt-set_other (p ∷ ps) zero (suc j) o m apart at = at
SitsAt-set_other (p ∷ ps) (suc i) zero o m apart at = at
SitsAt-set_other (p ∷ ps) (suc i) (suc j) o m apart at = SitsAt-set_other ps i j o m (λ (e : j ≡ i). apart (ap suc e)) at

-- one more place

pub SitsAt-last : (ps : Places) (m : Member) → SitsAt (ps ++ Some m ∷ []) (length ps) m
SitsAt-last [] m = refl
SitsAt-last (p ∷ ps) m = SitsAt-last ps m

pub SitsAt-before : (ps : Places) (o : Option Member) (j : ℕ) (m : Member) → SitsAt ps j m → SitsAt (ps ++ o ∷ []) j m
SitsAt-before [] o j m at = absurd at
SitsAt-before (p ∷ ps) o zero m at = at
SitsAt-before (p ∷ ps) o (suc j) m at = SitsAt-before ps o j m at

abbrev pub IsLast : Places → ℕ → Option Member → Member → Type 0
IsLast ps j o m = ((j ≡ length ps) × (o ≡ Some m)) ⊎ SitsAt ps j m

pub SitsAt-append : (ps : Places) (o : Option Member) (j : ℕ) (m : Member) → SitsAt (ps ++ o ∷ []) j m → IsLast ps j o m
SitsAt-append [] o zero m at = inl (refl, at)
SitsAt-append [] o (suc j) m at = absurd at
SitsAt-append (p ∷ ps) o zero m at = inr at
SitsAt-append (p ∷ ps) o (suc j) m at = ⊎_elim (λ here. inl (ap suc here.0, here.1)) (λ there. inr there) (SitsAt-append ps o j m at)

-- lower cases as keys

abbrev pub keys_alike : Vec ℕ Global → Vec ℕ Global → Bool
keys_alike a b = has_key a.items b

is_key_test : (lower : List ℕ) → IsKeyTest keys_alike (has_key lower)
is_key_test lower x y is = ap (λ l. pointwise nat_eq l y.items) (pointwise-same lower x.items is)

are_apart : (lower other : List ℕ) → pointwise nat_eq other lower ≡ false → AreApart (has_key lower) (has_key other)
are_apart lower other apart k is = ap (pointwise nat_eq other) (sym (pointwise-same lower k.items is)) ∙ apart

-- an update of the index, as the map tells it
pub changed-by : (lower : List ℕ) (w : Option ℕ) (old new : Entries) → place_under lower new ≡ w → KeepsOthers keys_alike (has_key lower) old new
    → IsChanged lower w old new
unfolding KeepsOthers
changed-by lower w old new own keeps = record {
  own = own;
  others = λ other apart. keeps (has_key other) (is_key_test other) (are_apart lower other apart);
}

-- a lower case is the changed one, or has what it had
by_lower : (lower other : List ℕ) (w : Option ℕ) (old new : Entries) → IsChanged lower w old new →
    ((other ≡ lower) × (place_under other new ≡ w)) ⊎ (place_under other new ≡ place_under other old)
by_lower lower other w old new change = by (pointwise nat_eq other lower) refl
  where
    by : (b : Bool) → pointwise nat_eq other lower ≡ b → ((other ≡ lower) × (place_under other new ≡ w)) ⊎ (place_under other new ≡ place_under other old)
    by true is = let same = pointwise-same other lower is in inl (same, ap (λ l. place_under l new) same ∙ change.own)
    by false is = inr (change.others other is)

some_apart : {X : Type 0} (x : X) → None ≡ Some x → ⊥
some_apart x is = cc

same_place : (i j : ℕ) → Some i ≡ Some j → i ≡ j
same_place i j is = cc

-- the index after edits

-- a member leaves the seat empty
pub indexed-gone : (mapping : Casemapping) (ps : Places) (es fs : Entries) (i : ℕ) (m : Member) → AreIndexed mapping ps es → SitsAt ps i m → IsChanged (folded_by mapping m.nick) None es fs
    → AreIndexed mapping (set ps i None) fs
indexed-gone mapping ps es fs i m indexed at change = record { found = found; named = named }
  where
    found : (j : ℕ) (x : Member) → SitsAt (set ps i None) j x → place_under (folded_by mapping x.nick) fs ≡ Some j
    found j x sits = ⊎_elim
        (λ here. absurd (some_apart x here.1))
        (λ there. ⊎_elim
        (λ own. absurd (there.0 (same_place j i (sym (indexed.found j x there.1) ∙ ap (λ l. place_under l es) own.0 ∙ indexed.found i m at))))
        (λ kept. kept ∙ indexed.found j x there.1)
        (by_lower (folded_by mapping m.nick) (folded_by mapping x.nick) None es fs change))
        (SitsAt-set ps i j None x sits)

    named : (lower : List ℕ) (j : ℕ) → place_under lower fs ≡ Some j → (x : Member) × SitsAt (set ps i None) j x × (folded_by mapping x.nick ≡ lower)
    named lower j is = ⊎_elim
        (λ own. absurd (some_apart j (sym own.1 ∙ is)))
        (λ kept.
        let was = indexed.named lower j (sym kept ∙ is) in
        let x = was.0 in
        let other : j ≢ i = λ (e : j ≡ i).
        let same = SitsAt-same ps i x m (subst (λ k. SitsAt ps k x) e was.1) at in
        let lowers : lower ≡ folded_by mapping m.nick = sym was.2 ∙ ap (λ (y : Member). folded_by mapping y.nick) same in
        some_apart j (sym change.own ∙ ap (λ l. place_under l fs) (sym lowers) ∙ is) in
        (x, SitsAt-set_other ps i j None x other was.1, was.2))
        (by_lower (folded_by mapping m.nick) lower None es fs change)

-- someone takes an empty seat
pub indexed-filled : (mapping : Casemapping) (ps : Places) (es fs : Entries) (i : ℕ) (m : Member) → AreIndexed mapping ps es → i < length ps → ((x : Member) → SitsAt ps i x → ⊥)
    → place_under (folded_by mapping m.nick) es ≡ None
    → IsChanged (folded_by mapping m.nick) (Some i) es fs → AreIndexed mapping (set ps i (Some m)) fs
indexed-filled mapping ps es fs i m indexed less free none change = record { found = found; named = named }
  where
    found : (j : ℕ) (x : Member) → SitsAt (set ps i (Some m)) j x → place_under (folded_by mapping x.nick) fs ≡ Some j
    found j x sits = ⊎_elim
        (λ here.
        let same : x ≡ m = cc in
        ap (λ (y : Member). place_under (folded_by mapping y.nick) fs) same ∙ change.own ∙ ap (λ k. Some k) (sym here.0))
        (λ there. ⊎_elim
        (λ own. absurd (some_apart j (sym none ∙ ap (λ l. place_under l es) (sym own.0) ∙ indexed.found j x there.1)))
        (λ kept. kept ∙ indexed.found j x there.1)
        (by_lower (folded_by mapping m.nick) (folded_by mapping x.nick) (Some i) es fs change))
        (SitsAt-set ps i j (Some m) x sits)

    named : (lower : List ℕ) (j : ℕ) → place_under lower fs ≡ Some j → (x : Member) × SitsAt (set ps i (Some m)) j x × (folded_by mapping x.nick ≡ lower)
    named lower j is = ⊎_elim
        (λ own. (m, subst (λ k. SitsAt (set ps i (Some m)) k m) (same_place i j (sym own.1 ∙ is)) (SitsAt-set_same ps i m less), sym own.0))
        (λ kept.
        let was = indexed.named lower j (sym kept ∙ is) in
        let other : j ≢ i = λ (e : j ≡ i). free was.0 (subst (λ k. SitsAt ps k was.0) e was.1) in
        (was.0, SitsAt-set_other ps i j (Some m) was.0 other was.1, was.2))
        (by_lower (folded_by mapping m.nick) lower (Some i) es fs change)

-- someone takes a new seat
pub indexed-last : (mapping : Casemapping) (ps : Places) (es fs : Entries) (m : Member) → AreIndexed mapping ps es → place_under (folded_by mapping m.nick) es ≡ None
    → IsChanged (folded_by mapping m.nick) (Some (length ps)) es fs
    → AreIndexed mapping (ps ++ Some m ∷ []) fs
indexed-last mapping ps es fs m indexed none change = record { found = found; named = named }
  where
    found : (j : ℕ) (x : Member) → SitsAt (ps ++ Some m ∷ []) j x → place_under (folded_by mapping x.nick) fs ≡ Some j
    found j x sits = ⊎_elim
        (λ here.
        let same : x ≡ m = cc in
        ap (λ (y : Member). place_under (folded_by mapping y.nick) fs) same ∙ change.own ∙ ap (λ k. Some k) (sym here.0))
        (λ there. ⊎_elim
        (λ own. absurd (some_apart j (sym none ∙ ap (λ l. place_under l es) (sym own.0) ∙ indexed.found j x there)))
        (λ kept. kept ∙ indexed.found j x there)
        (by_lower (folded_by mapping m.nick) (folded_by mapping x.nick) (Some (length ps)) es fs change))
        (SitsAt-append ps (Some m) j x sits)

    named : (lower : List ℕ) (j : ℕ) → place_under lower fs ≡ Some j → (x : Member) × SitsAt (ps ++ Some m ∷ []) j x × (folded_by mapping x.nick ≡ lower)
    named lower j is = ⊎_elim
        (λ own. (m, subst (λ k. SitsAt (ps ++ Some m ∷ []) k m) (same_place (length ps) j (sym own.1 ∙ is)) (SitsAt-last ps m), sym own.0))
        (λ kept. let was = indexed.named lower j (sym kept ∙ is) in (was.0, SitsAt-before ps (Some m) j was.0 was.1, was.2))
        (by_lower (folded_by mapping m.nick) lower (Some (length ps)) es fs change)

-- someone is changed, and keeps the nick
pub indexed-edited : (mapping : Casemapping) (ps : Places) (es : Entries) (i : ℕ) (m n : Member) → AreIndexed mapping ps es → SitsAt ps i m → n.nick ≡ m.nick
    → AreIndexed mapping (set ps i (Some n)) es
indexed-edited mapping ps es i m n indexed at same = record { found = found; named = named }
  where
    found : (j : ℕ) (x : Member) → SitsAt (set ps i (Some n)) j x → place_under (folded_by mapping x.nick) es ≡ Some j
    found j x sits = ⊎_elim
        (λ here.
        let is : x ≡ n = cc in
        ap (λ (y : Member). place_under (folded_by mapping y.nick) es) is ∙ ap (λ l. place_under (folded_by mapping l) es) same ∙ indexed.found i m at
        ∙ ap (λ k. Some k) (sym here.0))
        (λ there. indexed.found j x there.1)
        (SitsAt-set ps i j (Some n) x sits)

    named : (lower : List ℕ) (j : ℕ) → place_under lower es ≡ Some j → (x : Member) × SitsAt (set ps i (Some n)) j x × (folded_by mapping x.nick ≡ lower)
    named lower j is = by (eqb j i) refl
      where
        was : (x : Member) × SitsAt ps j x × (folded_by mapping x.nick ≡ lower)
        was = indexed.named lower j is

        by : (b : Bool) → eqb j i ≡ b → (x : Member) × SitsAt (set ps i (Some n)) j x × (folded_by mapping x.nick ≡ lower)
        by true e =
            let here : j ≡ i = eqb-true j i e in
            let old : was.0 ≡ m = SitsAt-same ps i was.0 m (subst (λ k. SitsAt ps k was.0) here was.1) at in (
              n,
              subst (λ k. SitsAt (set ps i (Some n)) k n) (sym here) (SitsAt-set_same ps i n (SitsAt-within ps i m at)),
              ap (folded_by mapping) same
                  ∙ ap (λ (y : Member). folded_by mapping y.nick) (sym old) ∙ was.2,
            )
        by false e = (was.0, SitsAt-set_other ps i j (Some n) was.0 (eqb-false j i e) was.1, was.2)

-- those who sit there, after edits

-- nobody else has this nick
abbrev pub IsOnly : (mapping : Casemapping) → List ℕ → Places → ℕ → Type 0
IsOnly mapping nick ps i = (j : ℕ) (x : Member) → SitsAt ps j x → is_called mapping nick x ≡ true → j ≡ i

pub only-from : (mapping : Casemapping) (nick : List ℕ) (ps : Places) (es : Entries) (i : ℕ) → AreIndexed mapping ps es → place_under (folded_by mapping nick) es ≡ Some i → IsOnly mapping nick ps i
only-from mapping nick ps es i indexed is j x sits called =
    same_place j i (sym (indexed.found j x sits) ∙ ap (λ l. place_under l es) (sym (pointwise-same (folded_by mapping nick) (folded_by mapping x.nick) called)) ∙ is)

pub called-from : (mapping : Casemapping) (nick : List ℕ) (m : Member) → folded_by mapping m.nick ≡ folded_by mapping nick → is_called mapping nick m ≡ true
called-from mapping nick m same = ap (pointwise nat_eq (folded_by mapping nick)) same ∙ pointwise-refl (folded_by mapping nick)

only-tail : (mapping : Casemapping) (nick : List ℕ) (p : Option Member) (ps : Places) (i : ℕ) → IsOnly mapping nick (p ∷ ps) (suc i) → IsOnly mapping nick ps i
only-tail mapping nick p ps i only j x sits called = let e = only (suc j) x sits called in omega (arith, e)

only-head : (mapping : Casemapping) (nick : List ℕ) (x : Member) (ps : Places) (i : ℕ) → IsOnly mapping nick (Some x ∷ ps) (suc i) → is_called mapping nick x ≡ false
only-head mapping nick x ps i only = by (is_called mapping nick x) refl
  where
    by : (b : Bool) → is_called mapping nick x ≡ b → b ≡ false
    by true is = absurd (let e : 0 ≡ suc i = only 0 x refl is in omega (arith, e))
    by false is = refl

pub seated-gone : (mapping : Casemapping) (nick : List ℕ) (ps : Places) (i : ℕ) (m : Member) → SitsAt ps i m → is_called mapping nick m ≡ true → IsOnly mapping nick ps i
    → seated (set ps i None) ≡ first_removed (is_called mapping nick) (seated ps)
seated-gone mapping nick [] i m at called only = absurd at
seated-gone mapping nick (None ∷ ps) zero m at called only = cc
seated-gone mapping nick (Some x ∷ ps) zero m at called only =
    sym (cond-true (is_called mapping nick x) _ _ (ap (is_called mapping nick) (same_one x m at) ∙ called))
  where
    same_one : (x m : Member) → Some x ≡ Some m → x ≡ m
    same_one x m e = cc
seated-gone mapping nick (None ∷ ps) (suc i) m at called only = seated-gone mapping nick ps i m at called (only-tail mapping nick None ps i only)
seated-gone mapping nick (Some x ∷ ps) (suc i) m at called only =
    ap (λ ms. x ∷ ms) (seated-gone mapping nick ps i m at called (only-tail mapping nick (Some x) ps i only))
    ∙ sym (cond-false (is_called mapping nick x) _ _ (only-head mapping nick x ps i only))

pub seated-edited : (mapping : Casemapping) (nick : List ℕ) (f : Member → Member) (ps : Places) (i : ℕ) (m n : Member) → SitsAt ps i m → n ≡ f m → is_called mapping nick m ≡ true
    → IsOnly mapping nick ps i
    → seated (set ps i (Some n)) ≡ first_changed (is_called mapping nick) f (seated ps)
seated-edited mapping nick f [] i m n at made called only = absurd at
seated-edited mapping nick f (None ∷ ps) zero m n at made called only = cc
seated-edited mapping nick f (Some x ∷ ps) zero m n at made called only =
    let same : x ≡ m = same_one x m at in
    ap (λ y. y ∷ seated ps) (made ∙ ap f (sym same)) ∙ sym (cond-true (is_called mapping nick x) _ _ (ap (is_called mapping nick) same ∙ called))
  where
    same_one : (x m : Member) → Some x ≡ Some m → x ≡ m
    same_one x m e = cc
seated-edited mapping nick f (None ∷ ps) (suc i) m n at made called only = seated-edited mapping nick f ps i m n at made called (only-tail mapping nick None ps i only)
seated-edited mapping nick f (Some x ∷ ps) (suc i) m n at made called only =
    ap (λ ms. x ∷ ms) (seated-edited mapping nick f ps i m n at made called (only-tail mapping nick (Some x) ps i only))
    ∙ sym (cond-false (is_called mapping nick x) _ _ (only-head mapping nick x ps i only))

pub seated-found : (mapping : Casemapping) (nick : List ℕ) (ps : Places) (i : ℕ) (m : Member) → SitsAt ps i m → is_called mapping nick m ≡ true → IsOnly mapping nick ps i
    → find (is_called mapping nick) (seated ps) ≡ Some m
seated-found mapping nick [] i m at called only = absurd at
seated-found mapping nick (None ∷ ps) zero m at called only = cc
seated-found mapping nick (Some x ∷ ps) zero m at called only = cond-true (is_called mapping nick x) _ _ (ap (is_called mapping nick) (same_one x m at) ∙ called) ∙ at
  where
    same_one : (x m : Member) → Some x ≡ Some m → x ≡ m
    same_one x m e = cc
seated-found mapping nick (None ∷ ps) (suc i) m at called only = seated-found mapping nick ps i m at called (only-tail mapping nick None ps i only)
seated-found mapping nick (Some x ∷ ps) (suc i) m at called only =
    cond-false (is_called mapping nick x) _ _ (only-head mapping nick x ps i only) ∙ seated-found mapping nick ps i m at called (only-tail mapping nick (Some x) ps i only)

-- nobody has the nick
abbrev pub IsNobody : (mapping : Casemapping) → List ℕ → Places → Type 0
IsNobody mapping nick ps = (j : ℕ) (x : Member) → SitsAt ps j x → is_called mapping nick x ≡ false

pub seated-nobody : (mapping : Casemapping) (nick : List ℕ) (ps : Places) → IsNobody mapping nick ps → list_any (is_called mapping nick) (seated ps) ≡ false
seated-nobody mapping nick [] none = refl
seated-nobody mapping nick (None ∷ ps) none = seated-nobody mapping nick ps (λ j x sits. none (suc j) x sits)
seated-nobody mapping nick (Some y ∷ ps) none = rw (none 0 y refl) (seated-nobody mapping nick ps (λ j x sits. none (suc j) x sits))

pub nobody-from : (mapping : Casemapping) (nick : List ℕ) (ps : Places) (es : Entries) → AreIndexed mapping ps es → place_under (folded_by mapping nick) es ≡ None → IsNobody mapping nick ps
nobody-from mapping nick ps es indexed none j x sits = by (is_called mapping nick x) refl
  where
    by : (b : Bool) → is_called mapping nick x ≡ b → b ≡ false
    by true is = absurd (some_apart j (sym none ∙ ap (λ l. place_under l es) (pointwise-same (folded_by mapping nick) (folded_by mapping x.nick) is) ∙ indexed.found j x sits))
    by false is = refl

-- by the index

pub has-none : (mapping : Casemapping) (nick : List ℕ) (ps : Places) (es : Entries) → AreIndexed mapping ps es → place_under (folded_by mapping nick) es ≡ None
    → list_any (is_called mapping nick) (seated ps) ≡ false
has-none mapping nick ps es indexed none = seated-nobody mapping nick ps (nobody-from mapping nick ps es indexed none)

any_step : (a b : Bool) → (a ≡ true) ⊎ (b ≡ true) → (a || b) ≡ true
any_step true b is = refl
any_step false b is = ⊎_elim (λ e. absurd (true≢false (sym e))) (λ e. e) is

found_step : {X : Type 0} (b : Bool) (x y : X) (o : Option X) → cond b (Some y) o ≡ Some x → (b ≡ true) ⊎ (o ≡ Some x)
found_step true x y o is = inl refl
found_step false x y o is = inr is

any-found : {X : Type 0} (p : X → Bool) (xs : List X) (x : X) → find p xs ≡ Some x → list_any p xs ≡ true
any-found p [] x is = cc
any-found p (y ∷ ys) x is = any_step (p y) (list_any p ys) (⊎_elim (λ e. inl e) (λ rest. inr (any-found p ys x rest)) (found_step (p y) x y (find p ys) is))

pub has-some : (mapping : Casemapping) (nick : List ℕ) (ps : Places) (es : Entries) (i : ℕ) → AreIndexed mapping ps es → place_under (folded_by mapping nick) es ≡ Some i
    → list_any (is_called mapping nick) (seated ps) ≡ true
has-some mapping nick ps es i indexed is =
    let who = indexed.named (folded_by mapping nick) i is in
    any-found (is_called mapping nick) (seated ps) who.0 (seated-found mapping nick ps i who.0 who.1 (called-from mapping nick who.0 who.2) (only-from mapping nick ps es i indexed is))

-- who has no seat has no place
pub none-from : (mapping : Casemapping) (nick : List ℕ) (ps : Places) (es : Entries) → AreIndexed mapping ps es → list_any (is_called mapping nick) (seated ps) ≡ false
    → place_under (folded_by mapping nick) es ≡ None
none-from mapping nick ps es indexed absent = by (place_under (folded_by mapping nick) es) refl
  where
    by : (o : Option ℕ) → place_under (folded_by mapping nick) es ≡ o → o ≡ None
    by None is = refl
    by (Some i) is = let there = has-some mapping nick ps es i indexed is in cc

-- lists of seats

one_of : {Y : Type 0} (o : Option Y) → cons_option o [] ≡ option_to_list o
one_of None = refl
one_of (Some y) = refl

pub seated-append : (ps : Places) (o : Option Member) → seated (ps ++ o ∷ []) ≡ seated ps ++ option_to_list o
seated-append ps o = filter_map-append (λ x. x) ps (o ∷ []) ∙ ap (λ ms. seated ps ++ ms) (one_of o)

pub filter_map-more : {X Y : Type 0} (f : X → Option Y) (xs : List X) (i : ℕ) (d : X) → i < length xs
    → filter_map f (take (i + 1) xs) ≡ filter_map f (take i xs) ++ option_to_list (f (get_or xs i d))
filter_map-more f xs i d less =
    ap (filter_map f) (take_more xs i d less) ∙ filter_map-append f (take i xs) (get_or xs i d ∷ [])
    ∙ ap (λ ys. filter_map f (take i xs) ++ ys) (one_of (f (get_or xs i d)))

-- where someone sits, somebody is seated
pub seated-some : (ps : Places) (i : ℕ) (d : Option Member) → i < length ps → 0 < length (option_to_list (get_or ps i d)) → 0 < length (seated ps)
seated-some [] i d less some = absurd (omega arith)
seated-some (None ∷ ps) zero d less some = absurd (omega arith)
seated-some (None ∷ ps) (suc i) d less some = seated-some ps i d (omega arith) some
seated-some (Some m ∷ ps) i d less some = omega arith

pub seated-taken : (ps : Places) → seated (taken ps) ≡ seated ps
seated-taken [] = refl
seated-taken (None ∷ ps) = seated-taken ps
seated-taken (Some m ∷ ps) = ap (λ ms. m ∷ ms) (seated-taken ps)

pub seats-taken : (ps : Places) → map (λ m. Some m) (seated ps) ≡ taken ps
seats-taken [] = refl
seats-taken (None ∷ ps) = seats-taken ps
seats-taken (Some m ∷ ps) = ap (λ qs. Some m ∷ qs) (seats-taken ps)

-- a walk ends where the index says

any_seated : (mapping : Casemapping) (nick : List ℕ) (ps : Places) → list_any (is_called mapping nick) (seated ps) ≡ list_any (is_seat_of mapping nick) ps
any_seated mapping nick [] = refl
any_seated mapping nick (None ∷ ps) = any_seated mapping nick ps
any_seated mapping nick (Some m ∷ ps) = ap (λ b. is_called mapping nick m || b) (any_seated mapping nick ps)

seat_sits : (mapping : Casemapping) (nick : List ℕ) (ps : Places) (i : ℕ) (d : Option Member) → i < length ps → is_seat_of mapping nick (get_or ps i d) ≡ true
    → (m : Member) × SitsAt ps i m × (is_called mapping nick m ≡ true)
seat_sits mapping nick ps i d less passes = by (get_or ps i d) refl passes
  where
    by : (o : Option Member) → get_or ps i d ≡ o → is_seat_of mapping nick o ≡ true → (m : Member) × SitsAt ps i m × (is_called mapping nick m ≡ true)
    by None is p = cc
    by (Some m) is p = (m, SitsAt-from ps i m d less is, p)

pub walked : (mapping : Casemapping) (nick : List ℕ) (ps : Places) (es : Entries) (o : Option ℕ) → AreIndexed mapping ps es → o ≡ position (is_seat_of mapping nick) ps
    → o ≡ place_under (folded_by mapping nick) es
walked mapping nick ps es None indexed is = sym (none-from mapping nick ps es indexed (any_seated mapping nick ps ∙ list_any-no_position (is_seat_of mapping nick) ps (sym is)))
walked mapping nick ps es (Some i) indexed is =
    let first = first-from_position (is_seat_of mapping nick) ps i None (sym is) in
    let who = seat_sits mapping nick ps i None first.within first.passes in
    sym (ap (λ l. place_under l es) (pointwise-same (folded_by mapping nick) (folded_by mapping who.0.nick) who.2) ∙ indexed.found i who.0 who.1)

-- what the first seat of a nick says, by whatever it was found

-- the first of this nick sits at a place
abbrev IsSeat : Casemapping → List ℕ → Places → ℕ → Option Member → Type 0
IsSeat mapping nick ps i d = IsFirst (is_seat_of mapping nick) ps i d

pub seat_within : (mapping : Casemapping) (nick : List ℕ) (ps : Places) (i : ℕ) → position (is_seat_of mapping nick) ps ≡ Some i → i < length ps
seat_within mapping nick ps i is = (first-from_position (is_seat_of mapping nick) ps i None is).within

pub seat_indexed : (mapping : Casemapping) (nick : List ℕ) (ps : Places) (es : Entries) (i : ℕ) → AreIndexed mapping ps es
    → position (is_seat_of mapping nick) ps ≡ Some i → place_under (folded_by mapping nick) es ≡ Some i
seat_indexed mapping nick ps es i indexed is = sym (walked mapping nick ps es (Some i) indexed (sym is))

-- a seat that is found is taken
pub vacant_seat : (mapping : Casemapping) (nick : List ℕ) (ps : Places) (i : ℕ) (d : Option Member) → position (is_seat_of mapping nick) ps ≡ Some i
    → get_or ps i d ≡ None → ⊥
vacant_seat mapping nick ps i d is vacant =
    let passes : is_seat_of mapping nick (get_or ps i d) ≡ true = (first-from_position (is_seat_of mapping nick) ps i d is).passes in
    true≢false (sym passes ∙ ap (is_seat_of mapping nick) vacant)

first_seat : (mapping : Casemapping) (nick : List ℕ) (ps : Places) (i : ℕ) (d : Option Member) → IsSeat mapping nick ps i d
    → find (is_called mapping nick) (seated ps) ≡ get_or ps i d
first_seat mapping nick [] i d first = absurd (let within : i < 0 = first.within in omega arith)
first_seat mapping nick (None ∷ ps) zero d first = let passes : false ≡ true = first.passes in cc
first_seat mapping nick (Some x ∷ ps) zero d first = cond-true (is_called mapping nick x) _ _ first.passes
first_seat mapping nick (None ∷ ps) (suc i) d first =
    first_seat mapping nick ps i d (tail-first (is_seat_of mapping nick) None ps i d first)
first_seat mapping nick (Some x ∷ ps) (suc i) d first =
    cond-false (is_called mapping nick x) _ _ (first.before 0 (omega arith))
    ∙ first_seat mapping nick ps i d (tail-first (is_seat_of mapping nick) (Some x) ps i d first)

pub seat_found : (mapping : Casemapping) (nick : List ℕ) (ps : Places) (i : ℕ) (d : Option Member) → position (is_seat_of mapping nick) ps ≡ Some i
    → find (is_called mapping nick) (seated ps) ≡ get_or ps i d
seat_found mapping nick ps i d is = first_seat mapping nick ps i d (first-from_position (is_seat_of mapping nick) ps i d is)

first_edited : (mapping : Casemapping) (nick : List ℕ) (f : Member → Member) (ps : Places) (i : ℕ) (m : Member) (d : Option Member)
    → IsSeat mapping nick ps i d → get_or ps i d ≡ Some m → seated (set ps i (Some (f m))) ≡ first_changed (is_called mapping nick) f (seated ps)
first_edited mapping nick f [] i m d first at = absurd (let within : i < 0 = first.within in omega arith)
first_edited mapping nick f (None ∷ ps) zero m d first at = let passes : false ≡ true = first.passes in cc
first_edited mapping nick f (Some x ∷ ps) zero m d first at =
    ap (λ y. f y ∷ seated ps) (same_one m x (sym at)) ∙ sym (cond-true (is_called mapping nick x) _ _ first.passes)
  where
    same_one : (x m : Member) → Some x ≡ Some m → x ≡ m
    same_one x m e = cc
first_edited mapping nick f (None ∷ ps) (suc i) m d first at =
    first_edited mapping nick f ps i m d (tail-first (is_seat_of mapping nick) None ps i d first) at
first_edited mapping nick f (Some x ∷ ps) (suc i) m d first at =
    ap (λ ms. x ∷ ms) (first_edited mapping nick f ps i m d (tail-first (is_seat_of mapping nick) (Some x) ps i d first) at)
    ∙ sym (cond-false (is_called mapping nick x) _ _ (first.before 0 (omega arith)))

pub seat_edited : (mapping : Casemapping) (nick : List ℕ) (f : Member → Member) (ps : Places) (i : ℕ) (m n : Member) (d : Option Member)
    → position (is_seat_of mapping nick) ps ≡ Some i → get_or ps i d ≡ Some m → n ≡ f m
    → seated (set ps i (Some n)) ≡ first_changed (is_called mapping nick) f (seated ps)
seat_edited mapping nick f ps i m n d is at made =
    ap (λ y. seated (set ps i (Some y))) made
    ∙ first_edited mapping nick f ps i m d (first-from_position (is_seat_of mapping nick) ps i d is) at

first_gone : (mapping : Casemapping) (nick : List ℕ) (ps : Places) (i : ℕ) (d : Option Member) → IsSeat mapping nick ps i d
    → seated (set ps i None) ≡ first_removed (is_called mapping nick) (seated ps)
first_gone mapping nick [] i d first = absurd (let within : i < 0 = first.within in omega arith)
first_gone mapping nick (None ∷ ps) zero d first = let passes : false ≡ true = first.passes in cc
first_gone mapping nick (Some x ∷ ps) zero d first = sym (cond-true (is_called mapping nick x) _ _ first.passes)
first_gone mapping nick (None ∷ ps) (suc i) d first =
    first_gone mapping nick ps i d (tail-first (is_seat_of mapping nick) None ps i d first)
first_gone mapping nick (Some x ∷ ps) (suc i) d first =
    ap (λ ms. x ∷ ms) (first_gone mapping nick ps i d (tail-first (is_seat_of mapping nick) (Some x) ps i d first))
    ∙ sym (cond-false (is_called mapping nick x) _ _ (first.before 0 (omega arith)))

pub seat_gone : (mapping : Casemapping) (nick : List ℕ) (ps : Places) (i : ℕ) (o : Option Member) → position (is_seat_of mapping nick) ps ≡ Some i → o ≡ None
    → seated (set ps i o) ≡ first_removed (is_called mapping nick) (seated ps)
seat_gone mapping nick ps i o is none =
    ap (λ p. seated (set ps i p)) none ∙ first_gone mapping nick ps i None (first-from_position (is_seat_of mapping nick) ps i None is)

-- nobody of a nick sits there, or somebody does
pub unseated : (mapping : Casemapping) (nick : List ℕ) (ps : Places) → position (is_seat_of mapping nick) ps ≡ None
    → list_any (is_called mapping nick) (seated ps) ≡ false
unseated mapping nick ps none = any_seated mapping nick ps ∙ list_any-no_position (is_seat_of mapping nick) ps none

pub has_seat : (mapping : Casemapping) (nick : List ℕ) (ps : Places) (i : ℕ) → position (is_seat_of mapping nick) ps ≡ Some i
    → list_any (is_called mapping nick) (seated ps) ≡ true
has_seat mapping nick ps i is = any_seated mapping nick ps ∙ somewhere (is_seat_of mapping nick) ps i None (sym is)

pub has_some : (mapping : Casemapping) (nick : List ℕ) (ps : Places) (o : Option ℕ) → o ≡ position (is_seat_of mapping nick) ps → is_some o ≡ true
    → list_any (is_called mapping nick) (seated ps) ≡ true
has_some mapping nick ps None is some = cc
has_some mapping nick ps (Some i) is some = has_seat mapping nick ps i (sym is)

-- who has no seat is in no index, and whose name nobody has is at no seat
pub absent_index : (mapping : Casemapping) (nick : List ℕ) (ps : Places) (es : Entries) → AreIndexed mapping ps es
    → position (is_seat_of mapping nick) ps ≡ None → place_under (folded_by mapping nick) es ≡ None
absent_index mapping nick ps es indexed none = sym (walked mapping nick ps es None indexed (sym none))

pub absent_seat : (mapping : Casemapping) (nick : List ℕ) (ps : Places) → list_any (is_called mapping nick) (seated ps) ≡ false
    → position (is_seat_of mapping nick) ps ≡ None
absent_seat mapping nick ps none = by (position (is_seat_of mapping nick) ps) refl
  where
    by : (o : Option ℕ) → position (is_seat_of mapping nick) ps ≡ o → o ≡ None
    by None is = refl
    by (Some i) is = absurd (true≢false (sym (has_seat mapping nick ps i is) ∙ none))

-- an index that is made anew

taken-none : (ps : Places) → taken (ps ++ None ∷ []) ≡ taken ps
taken-none [] = refl
taken-none (None ∷ ps) = taken-none ps
taken-none (Some m ∷ ps) = ap (λ qs. Some m ∷ qs) (taken-none ps)

taken-some : (ps : Places) (m : Member) → taken (ps ++ Some m ∷ []) ≡ taken ps ++ Some m ∷ []
taken-some [] m = refl
taken-some (None ∷ ps) m = taken-some ps m
taken-some (Some x ∷ ps) m = ap (λ qs. Some x ∷ qs) (taken-some ps m)

sits-taken : (ps : Places) (j : ℕ) (x : Member) → SitsAt (taken ps) j x → (k : ℕ) × SitsAt ps k x
sits-taken [] j x at = absurd at
sits-taken (None ∷ ps) j x at = let rest = sits-taken ps j x at in (suc rest.0, rest.1)
sits-taken (Some y ∷ ps) zero x at = (0, at)
sits-taken (Some y ∷ ps) (suc j) x at = let rest = sits-taken ps j x at in (suc rest.0, rest.1)

sits-take : (i : ℕ) (ps : Places) (k : ℕ) (x : Member) → SitsAt (take i ps) k x → (k < i) × SitsAt ps k x
sits-take zero ps k x at = absurd at
sits-take (suc i) [] k x at = absurd at
sits-take (suc i) (p ∷ ps) zero x at = (omega arith, at)
sits-take (suc i) (p ∷ ps) (suc k) x at = let rest = sits-take i ps k x at in (let less : k < i = rest.0 in omega (arith, less), rest.1)

length-last : (ps : Places) (o : Option Member) → length (ps ++ o ∷ []) ≡ length ps + 1
length-last [] o = refl
length-last (p ∷ ps) o = let rest = length-last ps o in omega (arith, rest)

-- the number of entries after a member is next
next_len : (o : Option ℕ) (n k : ℕ) → k ≡ n + (if is_some o then 0 else 1) → o ≡ None → k ≡ n + 1
next_len o n k is none = is ∙ ap (λ q. n + (if is_some q then 0 else 1)) none

-- the index of indexed members has each of those who are taken so far
pub made-next : (mapping : Casemapping) (ps : Places) (all : Entries) (i : ℕ) (d : Option Member) (es fs : Entries) (n k : ℕ) → AreIndexed mapping ps all → i < length ps
    → AreIndexed mapping (taken (take i ps)) es → n ≡ length (taken (take i ps)) → IsIndexedNext mapping (get_or ps i d) n es k fs
    → AreIndexed mapping (taken (take (i + 1) ps)) fs × (k ≡ length (taken (take (i + 1) ps)))
made-next mapping ps all i d es fs n k indexed less so_far count next = by (get_or ps i d) refl next
  where
    before : Places
    before = taken (take i ps)

    more : take (i + 1) ps ≡ take i ps ++ get_or ps i d ∷ []
    more = take_more ps i d less

    by : (o : Option Member) → get_or ps i d ≡ o → IsIndexedNext mapping o n es k fs
        → AreIndexed mapping (taken (take (i + 1) ps)) fs × (k ≡ length (taken (take (i + 1) ps)))
    by None is step =
        let whole : taken (take (i + 1) ps) ≡ before = ap taken (more ∙ ap (λ o. take i ps ++ o ∷ []) is) ∙ taken-none (take i ps) in (
          subst (λ es. AreIndexed mapping (taken (take (i + 1) ps)) es) (sym step.0) (subst (λ qs. AreIndexed mapping qs es) (sym whole) so_far),
          step.1 ∙ count
              ∙ ap length (sym whole),
        )
    by (Some m) is step =
        let whole : taken (take (i + 1) ps) ≡ before ++ Some m ∷ [] = ap taken (more ∙ ap (λ o. take i ps ++ o ∷ []) is) ∙ taken-some (take i ps) m in
        let absent = none (place_under (folded_by mapping m.nick) es) refl m is in
        let total = next_len (place_under (folded_by mapping m.nick) es) n k step.1 absent in (
          subst (λ qs. AreIndexed mapping qs fs) (sym whole)
              (indexed-last mapping before es fs m so_far absent (subst (λ c. IsChanged (folded_by mapping m.nick) (Some c) es fs) count step.0)),
          (let long = length-last before (Some m) in let same = ap length whole in omega (arith, total, long, same, count)),
        )
      where
        none : (o : Option ℕ) → place_under (folded_by mapping m.nick) es ≡ o → (y : Member) → get_or ps i d ≡ Some y → o ≡ None
        none None e y at = refl
        none (Some j) e y at =
            let who = so_far.named (folded_by mapping m.nick) j e in
            let somewhere = sits-taken (take i ps) j who.0 who.1 in
            let early = sits-take i ps somewhere.0 who.0 somewhere.1 in
            let own = indexed.found i m (SitsAt-from ps i m d less is) in
            let other = indexed.found somewhere.0 who.0 early.1 ∙ refl in
            let same : somewhere.0 ≡ i = same_place somewhere.0 i (sym other ∙ ap (λ l. place_under l all) who.2 ∙ own) in
            let below : somewhere.0 < i = early.0 in
            absurd (omega (arith, same, below))

-- at most one more entry comes; if the index has as many as there are members, it had as many before
next_count : (o : Option ℕ) (n k size : ℕ) → k ≡ n + (if is_some o then 0 else 1) → n ≤ size → (k ≤ size + 1) × (k ≡ size + 1 → (o ≡ None) × (n ≡ size))
next_count None n k size is within = let one : k ≡ n + 1 = is in (omega (arith, one, within), λ full. (refl, omega (arith, one, full)))
next_count (Some j) n k size is within = let none : k ≡ n + 0 = is in (omega (arith, none, within), λ full. absurd (omega (arith, none, within, full)))

-- an index with as many entries as there are members has each of them: its entries are no more than they are, and
-- if so many, then the index had none of the nicks twice
abbrev pub IsCounted : Casemapping → Places → ℕ → Entries → Type 0
IsCounted mapping ps n es = (n ≤ length ps) × (n ≡ length ps → AreIndexed mapping ps es)

pub counted-next : (mapping : Casemapping) (ps : Places) (i : ℕ) (d : Option Member) (es fs : Entries) (n k : ℕ) → i < length ps
    → IsCounted mapping (taken (take i ps)) n es → IsIndexedNext mapping (get_or ps i d) n es k fs → IsCounted mapping (taken (take (i + 1) ps)) k fs
counted-next mapping ps i d es fs n k less so_far next = by (get_or ps i d) refl next
  where
    before : Places
    before = taken (take i ps)

    more : take (i + 1) ps ≡ take i ps ++ get_or ps i d ∷ []
    more = take_more ps i d less

    by : (o : Option Member) → get_or ps i d ≡ o → IsIndexedNext mapping o n es k fs → IsCounted mapping (taken (take (i + 1) ps)) k fs
    by None is step =
        let whole : taken (take (i + 1) ps) ≡ before = ap taken (more ∙ ap (λ o. take i ps ++ o ∷ []) is) ∙ taken-none (take i ps) in
        subst (λ qs. IsCounted mapping qs k fs) (sym whole)
        (subst (λ gs. IsCounted mapping before k gs) (sym step.0) (subst (λ j. IsCounted mapping before j es) (sym step.1) so_far))
    by (Some m) is step =
        let whole : taken (take (i + 1) ps) ≡ before ++ Some m ∷ [] = ap taken (more ∙ ap (λ o. take i ps ++ o ∷ []) is) ∙ taken-some (take i ps) m in
        let long = length-last before (Some m) in
        let count = next_count (place_under (folded_by mapping m.nick) es) n k (length before) step.1 so_far.0 in
        subst (λ qs. IsCounted mapping qs k fs) (sym whole) (
          subst (λ l. k ≤ l) (sym long) count.0,
          λ full.
              let last = count.1 (full ∙ long) in
              indexed-last mapping before es fs m (so_far.1 last.1) last.0 (subst (λ c. IsChanged (folded_by mapping m.nick) (Some c) es fs) last.1 step.0),
        )

-- edits as the code makes them: the seat at `at` is read as `o`, and the index is changed under `lower`

-- a place of the index is taken
pub not_vacant : (mapping : Casemapping) (nick : List ℕ) (ps : Places) (es : Entries) (at : ℕ) (d : Option Member) → AreIndexed mapping ps es → place_under (folded_by mapping nick) es ≡ Some at
    → get_or ps at d ≡ None → ⊥
not_vacant mapping nick ps es at d indexed is vacant =
    let who = indexed.named (folded_by mapping nick) at is in
    some_apart who.0 (sym vacant ∙ SitsAt-get_or ps at who.0 d who.1)

one_member : (m n : Member) → Some m ≡ Some n → m ≡ n
one_member m n is = cc

pub vacated : (mapping : Casemapping) (nick lower : List ℕ) (ps : Places) (es fs : Entries) (at : ℕ) (m : Member) (o d : Option Member) → AreIndexed mapping ps es
    → place_under (folded_by mapping nick) es ≡ Some at → get_or ps at d ≡ Some m → o ≡ None
    → lower ≡ folded_by mapping m.nick → place_under lower fs ≡ None → KeepsOthers keys_alike (has_key lower) es fs
    → AreIndexed mapping (set ps at o) fs × (place_under (folded_by mapping nick) fs ≡ None) × (seated (set ps at o) ≡ first_removed (is_called mapping nick) (seated ps))
    × IsChanged (folded_by mapping nick) None es fs
vacated mapping nick lower ps es fs at m o d indexed is read none lower-is own keeps =
    let who = indexed.named (folded_by mapping nick) at is in
    let same : m ≡ who.0 = one_member m who.0 (sym read ∙ SitsAt-get_or ps at who.0 d who.1) in
    let lowers : lower ≡ folded_by mapping who.0.nick = lower-is ∙ ap (λ (y : Member). folded_by mapping y.nick) same in
    let change : IsChanged (folded_by mapping who.0.nick) None es fs = subst (λ l. IsChanged l None es fs) lowers (changed-by lower None es fs own keeps) in (
      subst (λ p. AreIndexed mapping (set ps at p) fs) (sym none) (indexed-gone mapping ps es fs at who.0 indexed who.1 change),
      ap (λ l. place_under l fs) (sym who.2) ∙ change.own,
      ap (λ p. seated (set ps at p)) none ∙ seated-gone mapping nick ps at who.0 who.1 (called-from mapping nick who.0 who.2) (only-from mapping nick ps es at indexed is),
      subst (λ l. IsChanged l None es fs) who.2 change,
    )

none_still : (o : Option ℕ) (i : ℕ) → o ≡ None → o ≡ Some i → ⊥
none_still o i none some = cc

pub respelled : (mapping : Casemapping) (old nick lower : List ℕ) (key : Vec ℕ Global) (ps : Places) (es fs gs : Entries) (at : ℕ) (m n : Member) (o d : Option Member)
    → AreIndexed mapping ps es → place_under (folded_by mapping old) es ≡ Some at → get_or ps at d ≡ Some m → o ≡ None
    → lower ≡ folded_by mapping m.nick → place_under lower fs ≡ None → KeepsOthers keys_alike (has_key lower) es fs
    → key.items ≡ folded_by mapping nick → place_under key.items gs ≡ Some at → KeepsOthers keys_alike (has_key key.items) fs gs
    → ((i : ℕ) → place_under (folded_by mapping nick) es ≡ Some i → is_same_by mapping old nick ≡ true) → n ≡ with_nick nick m
    → AreIndexed mapping (set (set ps at o) at (Some n)) gs × (seated (set (set ps at o) at (Some n)) ≡ first_changed (is_called mapping old) (with_nick nick) (seated ps))
respelled mapping old nick lower key ps es fs gs at m n o d indexed is read none lower-is own keeps key-is put others apart made =
    let who = indexed.named (folded_by mapping old) at is in
    let same : m ≡ who.0 = one_member m who.0 (sym read ∙ SitsAt-get_or ps at who.0 d who.1) in
    let gone = vacated mapping old lower ps es fs at m o d indexed is read none lower-is own keeps in
    let within : at < length ps = SitsAt-within ps at who.0 who.1 in
    let long : length (set ps at o) ≡ length ps = length-set ps at o in
    let called : n.nick ≡ nick = ap (λ (y : Member). y.nick) made in
    let change : IsChanged (folded_by mapping n.nick) (Some at) fs gs = subst (λ l. IsChanged l (Some at) fs gs) (key-is ∙ ap (folded_by mapping) (sym called))
    (changed-by key.items (Some at) fs gs put others) in
    let absent : place_under (folded_by mapping n.nick) fs ≡ None = ap (λ l. place_under (folded_by mapping l) fs) called
    ∙ vacant (place_under (folded_by mapping nick) fs) refl gone.1 gone.3 in (
      indexed-filled mapping (set ps at o) fs gs at n gone.0 (omega (arith, within, long)) free absent change,
      ap seated (set-set ps at o (Some n))
          ∙ seated-edited mapping old (with_nick nick) ps at who.0 n who.1 (made ∙ ap (with_nick nick) same) (called-from mapping old who.0 who.2)
          (only-from mapping old ps es at indexed is),
    )
  where
    free : (x : Member) → SitsAt (set ps at o) at x → ⊥
    free x sits = ⊎_elim (λ here. some_apart x (sym none ∙ here.1)) (λ there. there.0 refl) (SitsAt-set ps at at o x sits)

    vacant : (p : Option ℕ) → place_under (folded_by mapping nick) fs ≡ p → place_under (folded_by mapping old) fs ≡ None → IsChanged (folded_by mapping old) None es fs → p ≡ None
    vacant None e left change = refl
    vacant (Some i) e left change = ⊎_elim
        (λ here. sym e ∙ here.1)
        (λ kept. absurd (none_still (place_under (folded_by mapping nick) fs) i
        (ap (λ l. place_under l fs) (sym (pointwise-same (folded_by mapping old) (folded_by mapping nick) (apart i (sym kept ∙ e)))) ∙ left) e))
        (by_lower (folded_by mapping old) (folded_by mapping nick) None es fs change)

-- an edit leaves the nick
pub edited-nick : (edit : MemberEdit) (m : Member) → (edited edit m).nick ≡ m.nick
edited-nick (Marked Op on) m = refl
edited-nick (Marked Voice on) m = refl
edited-nick (Marked HalfOp on) m = refl
edited-nick (Listed more) m = refl
edited-nick (Addressed user host) m = refl
edited-nick (Told (Account account)) m = refl
edited-nick (Told (Address user host)) m = refl

pub edited-indexed : (mapping : Casemapping) (edit : MemberEdit) (ps : Places) (es : Entries) (at : ℕ) (m n : Member) (o : Option Member) → at < length ps → o ≡ get_or ps at o
    → o ≡ Some m → n ≡ edited edit m → AreIndexed mapping ps es → AreIndexed mapping (set ps at (Some n)) es
edited-indexed mapping edit ps es at m n o within read is made indexed =
    indexed-edited mapping ps es at m n indexed (SitsAt-from ps at m o within (sym read ∙ is)) (ap (λ (y : Member). y.nick) made ∙ edited-nick edit m)

pub edited-seated : (mapping : Casemapping) (edit : MemberEdit) (nick : List ℕ) (ps : Places) (es : Entries) (at : ℕ) (m n : Member) (o : Option Member) → o ≡ get_or ps at o
    → o ≡ Some m → n ≡ edited edit m → AreIndexed mapping ps es
    → place_under (folded_by mapping nick) es ≡ Some at → seated (set ps at (Some n)) ≡ first_changed (is_called mapping nick) (edited edit) (seated ps)
edited-seated mapping edit nick ps es at m n o read is made indexed place =
    let who = indexed.named (folded_by mapping nick) at place in
    let same : m ≡ who.0 = one_member m who.0 (sym is ∙ read ∙ SitsAt-get_or ps at who.0 o who.1) in
    seated-edited mapping nick (edited edit) ps at who.0 n who.1 (made ∙ ap (edited edit) same) (called-from mapping nick who.0 who.2)
    (only-from mapping nick ps es at indexed place)

pub has-is : (mapping : Casemapping) (nick : List ℕ) (ps : Places) (es : Entries) (o : Option ℕ) → AreIndexed mapping ps es → o ≡ place_under (folded_by mapping nick) es → is_some o ≡ true
    → list_any (is_called mapping nick) (seated ps) ≡ true
has-is mapping nick ps es None indexed same is = cc
has-is mapping nick ps es (Some i) indexed same is = has-some mapping nick ps es i indexed (sym same)

pub index_within : (mapping : Casemapping) (lower : List ℕ) (ps : Places) (es : Entries) (i : ℕ) → AreIndexed mapping ps es → place_under lower es ≡ Some i → i < length ps
index_within mapping lower ps es i indexed is = let who = indexed.named lower i is in SitsAt-within ps i who.0 who.1
