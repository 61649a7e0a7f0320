-- Changes: what is read is spelled so, what is spelled so is read, and what was told stays.
use Rattle.std.proofs.Common.{◌≡◌, ℕ, suc, ◌<◌, Bool, true, false, eqb, if◌then◌else◌, List, [], ◌∷◌, ◌++◌, Option, Some, None, Ok, Err, refl, sym, ap, subst, ◌∙◌, inl, inr}
use Rattle.std.proofs.lemmas.Bool.{eqb-true}
use Rattle.rfccase.specs.declared.casemappings.Casemapping.{Casemapping}
use Rattle.rfccase.specs.declared.casemappings.Casemapping.TheVariants.{Ascii, StrictRfc1459, Rfc1459}
use Rattle.userfile.specs.Shapes.{is_person}
use Rattle.userfile.specs.Apply.{bad_asker, bad_edit, bad_shape}
use Rattle.userfile.specs.Changes.{by_nobody, by_person}
use Rattle.userfile.specs.declared.change.Asker.{Asker}
use Rattle.userfile.specs.declared.change.Change.{Change}
use Rattle.userfile.specs.declared.edit.Edit.{Edit}
use Rattle.userfile.specs.declared.edit.Edit.TheVariants.{AddUser, DelUser, AddHost, DelHost, SetGlobal, SetChan, SetBot, AddBan, DelBan}
use Rattle.userfile.specs.declared.edit.Edit.TheVariants.{SetInfo, SetSticky}
use Rattle.usercodec.specs.declared.fault.CodecFault.TheVariants.{BadTag, NotCanonical}
use Rattle.usercodec.specs.Fields.{Reading, ◌>>=◌, checked, byte_at}
use Rattle.usercodec.specs.FaultBytes.{known}
use Rattle.usercodec.specs.Changes.{edit_bytes, IsGoodEdit, casemapping_byte, asker_bytes, bytes_by, change_bytes, IsGoodChange, both, made}
use Rattle.usercodec.specs.Changes.{is_edit_tag, edit_fields_at, edit_at, casemapping_from, casemapping_at, asker_of, asker_at, asked_edit_at, named_at}
use Rattle.usercodec.specs.Changes.{fields_at, change_at}
use Rattle.usercodec.specs.Laws.{Stays}
use Rattle.usercodec.proofs.ShapeLaws.{parts_pass, passes}
use Rattle.usercodec.proofs.Steps.{IsBytes, chosen, bind_ok, ok_is, Takes, stays_bind, stays_if, stays_checked, NoTag, no_tag_bind}
use Rattle.usercodec.proofs.FieldLaws.{IsSort, IsField, byte_field, both_field, made_field}
use Rattle.usercodec.proofs.EditLaws.{person_field, edit_sort, fields_take, fields_stay, known_edit}

no_value : {A : Type 0} (x : A) (rest : List ℕ) → (let r : Reading A = Err BadTag in r) ≡ Ok (x, rest) → ⊥
no_value x rest e = cc

-- ---- who asks

some_is : (x y : Casemapping) → (let s : Option Casemapping = Some x in s) ≡ Some y → x ≡ y
some_is x y e = cc

byte_is : (byte n : ℕ) (mapping x : Casemapping) → eqb byte n ≡ true → (let s : Option Casemapping = Some mapping in s) ≡ Some x
    → casemapping_byte mapping ≡ n → casemapping_byte x ≡ byte
byte_is byte n mapping x same e is = ap casemapping_byte (sym (some_is mapping x e)) ∙ is ∙ sym (eqb-true byte n same)

casemapping_byte-from : (byte : ℕ) (x : Casemapping) → casemapping_from byte ≡ Some x → casemapping_byte x ≡ byte
unfolding casemapping_from
casemapping_byte-from byte x e =
    elim (chosen (eqb byte 0) _ _ _ e) [
      | inl p ↦ byte_is byte 0 Ascii x p.0 p.1 refl
      | inr p ↦
          elim (chosen (eqb byte 1) _ _ _ p.1) [
            | inl p ↦ byte_is byte 1 StrictRfc1459 x p.0 p.1 refl
            | inr p ↦
                elim (chosen (eqb byte 2) _ _ _ p.1) [
                  | inl p ↦ byte_is byte 2 Rfc1459 x p.0 p.1 refl
                  | inr p ↦ absurd (none_is x p.1)
                ]
          ]
    ]
  where
    none_is : (x : Casemapping) → (let n : Option Casemapping = None in n) ≡ Some x → ⊥
    none_is x e = cc

casemapping_from-byte : (mapping : Casemapping) → casemapping_from (casemapping_byte mapping) ≡ Some mapping
unfolding casemapping_from
casemapping_from-byte Ascii = refl
casemapping_from-byte StrictRfc1459 = refl
casemapping_from-byte Rfc1459 = refl

-- a known value, and the bytes after it
known_is : (value : Option Casemapping) (bytes : List ℕ) (x : Casemapping) (rest : List ℕ) → known value bytes ≡ Ok (x, rest) → (value ≡ Some x) × (bytes ≡ rest)
known_is (Some y) bytes x rest e =
    let same = ok_is (y, bytes) (x, rest) e in
    (ap (λ (p : Casemapping × List ℕ). Some p.0) same, ap (λ (p : Casemapping × List ℕ). p.1) same)
known_is None bytes x rest e = absurd cc

known_stays : (value : Option Casemapping) (bytes more : List ℕ) → Stays (known value bytes) (known value (bytes ++ more)) more
known_stays (Some x) bytes more = refl
known_stays None bytes more = refl

known_no_tag : (value : Option Casemapping) (bytes : List ℕ) → NoTag (known value bytes)
known_no_tag (Some x) bytes = tt
known_no_tag None bytes = tt

casemapping_field : IsField casemapping_at (λ mapping. casemapping_byte mapping ∷ []) (λ mapping. Unit {0})
unfolding casemapping_at byte_at
casemapping_field = record { laws = record { part = record { takes = takes; again = again }; stays = stays }; no_tag = no_tag }
  where
    takes : (bytes : List ℕ) (x : Casemapping) (rest : List ℕ) → IsBytes bytes → casemapping_at bytes ≡ Ok (x, rest)
        → Takes bytes (casemapping_byte x ∷ []) rest × Unit {0}
    takes bytes x rest fits e =
        let a = bind_ok (byte_at bytes) (λ byte. known (casemapping_from byte.0) byte.1) (x, rest) e in
        let t = (byte_field.laws.part.takes bytes a.0.0 a.0.1 fits a.1).0 in
        let k = known_is (casemapping_from a.0.0) a.0.1 x rest a.2 in
        let took : Takes bytes (casemapping_byte x ∷ []) a.0.1 =
        subst (λ (b : ℕ). Takes bytes (b ∷ []) a.0.1) (sym (casemapping_byte-from a.0.0 x k.0)) t in
        (subst (λ (r : List ℕ). Takes bytes (casemapping_byte x ∷ []) r) k.1 took, tt)

    again : (x : Casemapping) (rest : List ℕ) → Unit {0} → casemapping_at ((casemapping_byte x ∷ []) ++ rest) ≡ Ok (x, rest)
    again x rest good = rw (casemapping_from-byte x) refl

    stays : (bytes more : List ℕ) → Stays (casemapping_at bytes) (casemapping_at (bytes ++ more)) more
    stays bytes more =
        stays_bind (byte_at bytes) _ _ more (byte_field.laws.stays bytes more) (λ byte. known_stays (casemapping_from byte.0) byte.1 more)

    no_tag : (bytes : List ℕ) → NoTag (casemapping_at bytes)
    no_tag bytes = no_tag_bind (byte_at bytes) _ (byte_field.no_tag bytes) (λ byte. known_no_tag (casemapping_from byte.0) byte.1)

-- the person of who asks has a spelling
abbrev IsGoodAsker : Asker → Type 0
IsGoodAsker asker = is_person asker.person ≡ true

asker_field : IsField asker_at asker_bytes IsGoodAsker
unfolding asker_at
asker_field =
    made_field (both_field person_field casemapping_field) asker_of (λ asker. (asker.person, asker.casemapping)) (λ y. refl)
    asker_bytes (λ x good. refl) (λ y. refl) IsGoodAsker (λ x good. good.0) (λ y good. (good, tt))

-- ---- the edit that a person asks for

-- the tag that was read, if it is one of an edit
abbrev kept : Bool → ℕ → List ℕ → Reading ℕ
kept known tag bytes = if known then Ok (tag, bytes) else Err NotCanonical

was_known : (known : Bool) (tag : ℕ) (bytes : List ℕ) (x : Edit) (rest : List ℕ)
    → (kept known tag bytes >>= λ t. edit_fields_at t.0 t.1) ≡ Ok (x, rest) → edit_fields_at tag bytes ≡ Ok (x, rest)
was_known true tag bytes x rest e = e
was_known false tag bytes x rest e = absurd cc

-- the spelling of an edit begins with one of the tags
begins_known : (x : Edit) (rest : List ℕ) → asked_edit_at (edit_bytes x ++ rest) ≡ edit_at (edit_bytes x ++ rest)
unfolding asked_edit_at edit_at byte_at
begins_known (AddUser handle) rest = refl
begins_known (DelUser handle) rest = refl
begins_known (AddHost handle mask) rest = refl
begins_known (DelHost handle mask) rest = refl
begins_known (SetGlobal handle bits) rest = refl
begins_known (SetChan handle channel bits) rest = refl
begins_known (SetBot handle bits) rest = refl
begins_known (AddBan channel mask creator expires comment) rest = refl
begins_known (DelBan channel mask) rest = refl
begins_known (SetInfo handle info) rest = refl
begins_known (SetSticky channel mask on) rest = refl

asked_field : IsField asked_edit_at edit_bytes IsGoodEdit
unfolding asked_edit_at edit_at byte_at
asked_field = record { laws = record { part = record { takes = takes; again = again }; stays = stays }; no_tag = no_tag }
  where
    takes : (bytes : List ℕ) (x : Edit) (rest : List ℕ) → IsBytes bytes → asked_edit_at bytes ≡ Ok (x, rest) → Takes bytes (edit_bytes x) rest × IsGoodEdit x
    takes [] x rest fits e = absurd cc
    takes (tag ∷ bytes) x rest fits e = edit_sort.part.takes (tag ∷ bytes) x rest fits (was_known (is_edit_tag tag) tag bytes x rest e)

    again : (x : Edit) (rest : List ℕ) → IsGoodEdit x → asked_edit_at (edit_bytes x ++ rest) ≡ Ok (x, rest)
    again x rest good = begins_known x rest ∙ edit_sort.part.again x rest good

    stays : (bytes more : List ℕ) → Stays (asked_edit_at bytes) (asked_edit_at (bytes ++ more)) more
    stays bytes more =
        stays_bind (checked is_edit_tag (byte_at bytes)) _ _ more (stays_checked is_edit_tag (byte_at bytes) _ more (byte_field.laws.stays bytes more))
        (λ tag. fields_stay tag.0 tag.1 more)

    no_tag : (bytes : List ℕ) → NoTag (asked_edit_at bytes)
    no_tag [] = tt
    no_tag (tag ∷ bytes) = by (is_edit_tag tag) refl
      where
        by : (known : Bool) → is_edit_tag tag ≡ known → NoTag (kept known tag bytes >>= λ t. edit_fields_at t.0 t.1)
        by true is = known_edit tag bytes is
        by false is = tt

named_field : IsField (both asker_at asked_edit_at) (λ x. asker_bytes x.0 ++ edit_bytes x.1) (λ x. IsGoodAsker x.0 × IsGoodEdit x.1)
named_field = both_field asker_field asked_field

pub named_no_tag : (bytes : List ℕ) → NoTag (named_at bytes)
unfolding named_at
named_no_tag bytes = no_tag_bind (both asker_at asked_edit_at bytes) _ (named_field.no_tag bytes) (λ x. tt)

-- ---- changes

nobody : (edit : Edit) → IsGoodEdit edit → IsGoodChange (by_nobody edit)
nobody edit good = record { shape = good.shape; room = good.room }

somebody : (asker : Asker) (edit : Edit) → IsGoodAsker asker → IsGoodEdit edit → IsGoodChange (by_person asker edit)
somebody asker edit named good = record { shape = rw named good.shape; room = good.room }

pub edit_is_good : (change : Change) → IsGoodChange change → IsGoodEdit change.edit
edit_is_good change good = record { shape = (parts_pass change good.shape).1; room = good.room }

-- a reading of an edit is one of a change in nobody's name
pub nobody_takes : (bytes : List ℕ) (reading : Reading Edit) (x : Change) (rest : List ℕ)
    → ((edit : Edit) (after : List ℕ) → reading ≡ Ok (edit, after) → Takes bytes (edit_bytes edit) after × IsGoodEdit edit)
    → made by_nobody reading ≡ Ok (x, rest) → Takes bytes (change_bytes x) rest × (IsGoodChange x × (x.by ≡ None))
nobody_takes bytes reading x rest takes e =
    let a = bind_ok reading (λ y. Ok (by_nobody y.0, y.1)) (x, rest) e in
    let t = takes a.0.0 a.0.1 a.1 in
    subst (λ (p : Change × List ℕ). Takes bytes (change_bytes p.0) p.1 × (IsGoodChange p.0 × (p.0.by ≡ None)))
    (ok_is (by_nobody a.0.0, a.0.1) (x, rest) a.2) (t.0, (nobody a.0.0 t.1, refl))

named_takes : (tag : ℕ) (bytes : List ℕ) (x : Change) (rest : List ℕ) → IsBytes bytes → eqb tag 12 ≡ true → named_at bytes ≡ Ok (x, rest)
    → Takes (tag ∷ bytes) (change_bytes x) rest × IsGoodChange x
unfolding named_at
named_takes tag bytes x rest fits same e =
    let tag_is : tag ≡ 12 = eqb-true tag 12 same in
    let a = bind_ok (both asker_at asked_edit_at bytes) (λ y. Ok (by_person y.0.0 y.0.1, y.1)) (x, rest) e in
    let t = named_field.laws.part.takes bytes a.0.0 a.0.1 fits a.1 in
    let parts : tag ∷ bytes ≡ change_bytes (by_person a.0.0.0 a.0.0.1) ++ a.0.1 =
    ap (λ (k : ℕ). k ∷ bytes) tag_is ∙ ap (λ (b : List ℕ). 12 ∷ b) t.0.parts in
    subst (λ (p : Change × List ℕ). Takes (tag ∷ bytes) (change_bytes p.0) p.1 × IsGoodChange p.0)
    (ok_is (by_person a.0.0.0 a.0.0.1, a.0.1) (x, rest) a.2)
    (record { parts = parts; rest_fits = t.0.rest_fits }, somebody a.0.0.0 a.0.0.1 t.1.0 t.1.1)

named_stays : (bytes more : List ℕ) → Stays (named_at bytes) (named_at (bytes ++ more)) more
unfolding named_at
named_stays bytes more = stays_bind (both asker_at asked_edit_at bytes) _ _ more (named_field.laws.stays bytes more) (λ x. refl)

-- no edit has the tag of a change in a person's name
no_edit : (bytes : List ℕ) → edit_fields_at 12 bytes ≡ Err BadTag
unfolding edit_fields_at
no_edit bytes = refl

-- an edit that is read is a change in nobody's name
reads_nobody : (bytes : List ℕ) (edit : Edit) (rest : List ℕ) → edit_at bytes ≡ Ok (edit, rest) → change_at bytes ≡ Ok (by_nobody edit, rest)
unfolding edit_at change_at fields_at byte_at
reads_nobody [] edit rest e = absurd cc
reads_nobody (tag ∷ bytes) edit rest e = by (eqb tag 12) refl
  where
    by : (named : Bool) → eqb tag 12 ≡ named → (if named then named_at bytes else made by_nobody (edit_fields_at tag bytes)) ≡ Ok (by_nobody edit, rest)
    by true same =
        let tag_is : tag ≡ 12 = eqb-true tag 12 same in
        absurd (no_value edit rest (sym (no_edit bytes) ∙ ap (λ k. edit_fields_at k bytes) (sym tag_is) ∙ e))
    by false other = ap (made by_nobody) e

again_by : (by : Option Asker) (edit : Edit) (rest : List ℕ) → bad_asker by ≡ None → IsGoodEdit edit
    → change_at (bytes_by by edit ++ rest) ≡ Ok (record { by = by; edit = edit }, rest)
unfolding change_at fields_at byte_at named_at
again_by None edit rest named good = reads_nobody (edit_bytes edit ++ rest) edit rest (edit_sort.part.again edit rest good)
again_by (Some asker) edit rest named good =
    ap (made (λ x. by_person x.0 x.1)) (named_field.laws.part.again (asker, edit) rest (passes _ _ named, good))

pub change_sort : IsSort change_at change_bytes IsGoodChange
unfolding change_at fields_at byte_at
change_sort = record { part = record { takes = takes; again = again }; stays = stays }
  where
    takes : (bytes : List ℕ) (x : Change) (rest : List ℕ) → IsBytes bytes → change_at bytes ≡ Ok (x, rest)
        → Takes bytes (change_bytes x) rest × IsGoodChange x
    takes [] x rest fits e = absurd cc
    takes (tag ∷ bytes) x rest fits e =
        elim (chosen (eqb tag 12) _ _ _ e) [
          | inl p ↦ named_takes tag bytes x rest (λ i. fits (suc i)) p.0 p.1
          | inr p ↦
              let t = nobody_takes (tag ∷ bytes) (edit_fields_at tag bytes) x rest (edit_takes tag bytes fits) p.1 in
              (t.0, t.1.0)
        ]
      where
        edit_takes : (tag : ℕ) (bytes : List ℕ) → IsBytes (tag ∷ bytes) → (edit : Edit) (after : List ℕ) → edit_fields_at tag bytes ≡ Ok (edit, after)
            → Takes (tag ∷ bytes) (edit_bytes edit) after × IsGoodEdit edit
        edit_takes tag bytes fits edit after e = fields_take tag bytes edit after (λ i. fits (suc i)) e

    again : (x : Change) (rest : List ℕ) → IsGoodChange x → change_at (change_bytes x ++ rest) ≡ Ok (x, rest)
    again x rest good = again_by x.by x.edit rest (parts_pass x good.shape).0 (edit_is_good x good)

    stays : (bytes more : List ℕ) → Stays (change_at bytes) (change_at (bytes ++ more)) more
    stays bytes more =
        stays_bind (byte_at bytes) _ _ more (byte_field.laws.stays bytes more) (λ tag.
        stays_if (eqb tag.0 12) _ _ _ _ more (named_stays tag.1 more)
        (stays_bind (edit_fields_at tag.0 tag.1) _ _ more (fields_stay tag.0 tag.1 more) (λ x. refl)))
