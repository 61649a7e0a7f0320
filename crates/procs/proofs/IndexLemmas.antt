-- The indexes of all kinds, when the binds of one kind change.
use Rattle.std.proofs.Common.{◌≡◌, ℕ, ◌<◌, Bool, true, false, not, cond, if◌then◌else◌, List, [], ◌∷◌, ◌++◌, length, map, filter, get_or}
use Rattle.std.proofs.Common.{slice_get, Some, Ok, Err, ◌&&◌, inl, inr, refl, sym, ap, subst, ◌∙◌, arith, length-set}
use Rattle.std.proofs.Common.{Result, OnOk, OnErr}
use Rattle.std.proofs.Math.ListN.{set}
use Rattle.std.proofs.lemmas.Bool.{cases_eq, ne_eqb}
use Rattle.std.proofs.lemmas.Option.{slice_get-get_or, get_or_from_slice_get, slice_get_within}
use Rattle.std.proofs.lemmas.List.{get_or-set_other, append-nil}
use Rattle.std.proofs.lemmas.List.Elements.{filter-append}
use Rattle.std.proofs.lemmas.Grind.{get_or-set_at}
use Rattle.rfccase.specs.Casemapping.{is_same}
use Rattle.procs.specs.declared.bind_kind.BindKind.{BindKind}
use Rattle.procs.specs.declared.bind.Bind.{Bind}
use Rattle.procs.specs.declared.index.KindIndex.{KindIndex}
use Rattle.procs.specs.Kinds.{is_kind, is_single, place_of}
use Rattle.procs.specs.Tables.{is_such, is_replaced, without_such, without_replaced}
use Rattle.procs.specs.Masks.{entry_of, key_of}
use Rattle.procs.specs.Index.{of_kind, IsIndexOf, AreIndexed}
use Rattle.procs.specs.Words.{words_of}
use Rattle.procs.proofs.ApartLemmas.{same_place, replaced-kind, such-kind, same_kind, is_kind-refl}

-- the index of a kind
pub index-at : (binds : List Bind) (indexes : List KindIndex) (kind : BindKind) (place : ℕ) (d : KindIndex) → AreIndexed binds indexes → place ≡ place_of kind
    → place < length indexes → IsIndexOf kind binds (get_or indexes place d)
index-at binds indexes kind place d indexed at within =
    indexed kind (get_or indexes place d) (ap (slice_get indexes) (sym at) ∙ slice_get-get_or indexes place d within)

-- an index is as good of other binds that have the same of its kind
pub IsIndexOf-same : (kind : BindKind) (old new : List Bind) (index : KindIndex) → of_kind kind new ≡ of_kind kind old → IsIndexOf kind old index
    → IsIndexOf kind new index
IsIndexOf-same kind old new index same is =
    record {
      entries = is.entries ∙ ap (map entry_of) (sym same);
      words = is.words ∙ ap (λ bs. if is_single kind then map key_of bs else []) (sym same);
    }

-- one index made anew, and the others kept
pub AreIndexed-set : (old new : List Bind) (indexes : List KindIndex) (kind : BindKind) (place : ℕ) (index : KindIndex) → AreIndexed old indexes
    → place ≡ place_of kind
    → place < length indexes → IsIndexOf kind new index → ((other : BindKind) → is_kind other kind ≡ false → of_kind other new ≡ of_kind other old)
    → AreIndexed new (set indexes place index)
AreIndexed-set old new indexes kind place index indexed at within good others other held found =
    elim (cases_eq (place_of other) place) [
      | inl here ↦ replaced (same_place other kind (here ∙ at)) (get_or-set_at indexes place (place_of other) index held here within)
      | inr elsewhere ↦ kept (λ same. elsewhere (same ∙ sym at)) (get_or-set_other indexes place (place_of other) index held elsewhere)
    ]
  where
    read : get_or (set indexes place index) (place_of other) held ≡ held
    read = get_or_from_slice_get (set indexes place index) (place_of other) held held found

    replaced : other ≡ kind → get_or (set indexes place index) (place_of other) held ≡ index → IsIndexOf other new held
    replaced same written =
        let which : index ≡ held = sym written ∙ read in
        subst (λ k. IsIndexOf k new held) (sym same) (subst (IsIndexOf kind new) which good)

    kept : (place_of other ≡ place_of kind → ⊥) → get_or (set indexes place index) (place_of other) held ≡ get_or indexes (place_of other) held
        → IsIndexOf other new held
    kept apart same =
        let inside : place_of other < length indexes =
        omega (arith, slice_get_within (set indexes place index) (place_of other) held found, length-set indexes place index) in
        let was : slice_get indexes (place_of other) ≡ Some held =
        slice_get-get_or indexes (place_of other) held inside ∙ ap Some (sym same ∙ read) in
        IsIndexOf-same other old new held (others other (ne_eqb (place_of other) (place_of kind) apart)) (indexed other held was)

-- ---- no binds

-- an index without entries and words is that of no binds
pub none-indexed : (kind : BindKind) (index : KindIndex) → index.entries.items ≡ [] → words_of index ≡ [] → IsIndexOf kind [] index
none-indexed kind index entries words = record { entries = entries; words = words ∙ by (is_single kind) }
  where
    by : (single : Bool) → [] ≡ (if single then map key_of [] else [])
    by true = refl
    by false = refl

-- ---- what other kinds have

-- those of a kind are those among the ones that a test keeps, where it keeps all of the kind
pub filter-kept : (p q : Bind → Bool) → ((b : Bind) → p b ≡ true → q b ≡ true) → (binds : List Bind) → filter p (filter q binds) ≡ filter p binds
filter-kept p q keeps [] = refl
filter-kept p q keeps (b ∷ binds) = by (q b) (p b) (keeps b) refl (filter-kept p q keeps binds)
  where
    by : (c d : Bool) → (d ≡ true → c ≡ true) → p b ≡ d → filter p (filter q binds) ≡ filter p binds
        → filter p (cond c (b ∷ filter q binds) (filter q binds)) ≡ cond d (b ∷ filter p binds) (filter p binds)
    by true d keep e rest = ap (λ c. cond c (b ∷ filter p (filter q binds)) (filter p (filter q binds))) e ∙ ap (λ bs. cond d (b ∷ bs) bs) rest
    by false true keep e rest = let never = keep refl in absurd cc
    by false false keep e rest = rest

other_kind : (other kind : BindKind) (b : Bind) → is_kind other kind ≡ false → is_kind other b.kind ≡ true → is_kind kind b.kind ≡ true → ⊥
other_kind other kind b apart left right =
    let same : kind ≡ other = same_kind kind b.kind right ∙ sym (same_kind other b.kind left) in
    let never : is_kind other kind ≡ true = ap (is_kind other) same ∙ is_kind-refl other in
    cc

not-of : (t : Bool) → (t ≡ true → ⊥) → not t ≡ true
not-of true h = absurd (h refl)
not-of false h = refl

-- binds of other kinds are neither replaced nor taken away
pub others-replaced : (other kind : BindKind) (mask : List ℕ) (binds : List Bind) → is_kind other kind ≡ false
    → of_kind other (without_replaced kind mask binds) ≡ of_kind other binds
others-replaced other kind mask binds apart =
    filter-kept (λ b. is_kind other b.kind) (λ b. not (is_replaced kind mask b))
    (λ b of_it. not-of (is_replaced kind mask b) (λ goes. other_kind other kind b apart of_it (replaced-kind kind mask b goes))) binds

pub others-such : (other kind : BindKind) (mask proc : List ℕ) (binds : List Bind) → is_kind other kind ≡ false
    → of_kind other (without_such kind mask proc binds) ≡ of_kind other binds
others-such other kind mask proc binds apart =
    filter-kept (λ b. is_kind other b.kind) (λ b. not (is_such kind mask proc b))
    (λ b of_it. not-of (is_such kind mask proc b) (λ goes. other_kind other kind b apart of_it (such-kind kind mask proc b goes))) binds

-- nor is one more
pub others-put : {E : Type 0} (other : BindKind) (one : Bind) (old new : List Bind) (r : Result (Unit {0}) E) → is_kind other one.kind ≡ false
    → OnOk r (new ≡ without_replaced one.kind one.mask old ++ one ∷ []) → OnErr r (new ≡ old) → of_kind other new ≡ of_kind other old
others-put other one old new (Ok u) apart ok err =
    ap (of_kind other) ok ∙ filter-append (λ b. is_kind other b.kind) (without_replaced one.kind one.mask old) (one ∷ [])
    ∙ ap (λ c. of_kind other (without_replaced one.kind one.mask old) ++ cond c (one ∷ []) []) apart
    ∙ append-nil (of_kind other (without_replaced one.kind one.mask old)) ∙ others-replaced other one.kind one.mask old apart
others-put other one old new (Err e) apart ok err = ap (of_kind other) err

-- ---- a kind that goes by masks replaces none

pub without_replaced-mask : (kind : BindKind) (mask : List ℕ) (binds : List Bind) → is_single kind ≡ false → without_replaced kind mask binds ≡ binds
without_replaced-mask kind mask [] many = refl
without_replaced-mask kind mask (b ∷ binds) many =
    let stays : is_replaced kind mask b ≡ false = ap (λ s. s && (is_kind kind b.kind && is_same mask b.mask)) many in
    ap (λ t. cond (not t) (b ∷ without_replaced kind mask binds) (without_replaced kind mask binds)) stays
    ∙ ap (λ bs. b ∷ bs) (without_replaced-mask kind mask binds many)
