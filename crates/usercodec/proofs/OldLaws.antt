-- Changes and records as older layouts spelled them: what is read was spelled so, what was spelled so is read, and what was told stays.
use Rattle.std.proofs.Common.{◌≡◌, ℕ, suc, true, false, eqb, List, [], ◌∷◌, ◌++◌, Option, None, Ok, Err, refl, sym, ap, subst, ◌∙◌, inl, inr}
use Rattle.std.proofs.lemmas.Bool.{eqb-true}
use Rattle.userfile.specs.Shapes.{is_info}
use Rattle.userfile.specs.declared.ban.Ban.{Ban}
use Rattle.userfile.specs.declared.user.User.{User}
use Rattle.userfile.specs.Changes.{by_nobody}
use Rattle.userfile.specs.declared.change.Asker.{Asker}
use Rattle.userfile.specs.declared.change.Change.{Change}
use Rattle.userfile.specs.declared.edit.Edit.{Edit}
use Rattle.userfile.specs.declared.edit.Edit.TheVariants.{AddUser, DelUser, AddHost, DelHost, SetGlobal, SetChan, SetBot, AddBan, DelBan}
use Rattle.userfile.specs.declared.edit.Edit.TheVariants.{SetInfo, SetSticky}
use Rattle.usercodec.specs.declared.fault.CodecFault.TheVariants.{BadTag}
use Rattle.usercodec.specs.declared.records.Record.{Record}
use Rattle.usercodec.specs.declared.records.Record.TheVariants as records
use Rattle.usercodec.specs.Fields.{Reading, byte_at}
use Rattle.usercodec.specs.Changes.{edit_bytes, bytes_by, change_bytes, made, ban_at, edit_fields_at, edit_at}
use Rattle.usercodec.specs.Records.{plain_user_at}
use Rattle.usercodec.specs.Laws.{Stays}
use Rattle.usercodec.specs.Old.{IsGoodNamelessChange, nameless_change_at}
use Rattle.usercodec.specs.Old.{change_bytes_old, IsOldEdit, IsGoodChangeOld, is_change_tag_old, fields_at_old, change_at_old}
use Rattle.usercodec.specs.Old.{record_bytes_old, IsGoodRecordOld, record_fields_at_old, record_at_old}
use Rattle.usercodec.proofs.Steps.{IsBytes, head_is, chosen, bind_ok, ok_is, Takes, stays_bind, stays_if}
use Rattle.usercodec.proofs.FieldLaws.{IsSort, IsField, byte_field}
use Rattle.usercodec.proofs.EditLaws.{edit_sort, fields_stay, PlainBanPasses, ban_field}
use Rattle.usercodec.proofs.ChangeLaws.{edit_is_good, nobody_takes}
use Rattle.usercodec.proofs.RecordLaws.{PlainUserPasses, plain_user_field, user_is_good, user_passes, ban_is_good, ban_passes}

no_value : {A : Type 0} (x : A) (rest : List ℕ) → (let r : Reading A = Err BadTag in r) ≡ Ok (x, rest) → ⊥
no_value x rest e = cc

-- ---- changes in nobody's name

-- such a change is spelled as its edit
bare : (x : Change) → x.by ≡ None → change_bytes x ≡ edit_bytes x.edit
bare x nameless = ap (λ by. bytes_by by x.edit) nameless

-- and is read again from it
nobody_again : (x : Change) (reading : Reading Edit) (rest : List ℕ) → x.by ≡ None → reading ≡ Ok (x.edit, rest) → made by_nobody reading ≡ Ok (x, rest)
nobody_again x reading rest nameless e = ap (made by_nobody) e ∙ ap (λ (by : Option Asker). Ok (record x { by = by }, rest)) (sym nameless)

pub nameless_sort : IsSort nameless_change_at change_bytes IsGoodNamelessChange
unfolding nameless_change_at
nameless_sort = record { part = record { takes = takes; again = again }; stays = stays }
  where
    takes : (bytes : List ℕ) (x : Change) (rest : List ℕ) → IsBytes bytes → nameless_change_at bytes ≡ Ok (x, rest)
        → Takes bytes (change_bytes x) rest × IsGoodNamelessChange x
    takes bytes x rest fits e =
        let t = nobody_takes bytes (edit_at bytes) x rest (λ edit after. edit_sort.part.takes bytes edit after fits) e in
        (t.0, record { good = t.1.0; nameless = t.1.1 })

    again : (x : Change) (rest : List ℕ) → IsGoodNamelessChange x → nameless_change_at (change_bytes x ++ rest) ≡ Ok (x, rest)
    again x rest good =
        ap (λ (b : List ℕ). nameless_change_at (b ++ rest)) (bare x good.nameless)
        ∙ nobody_again x (edit_at (edit_bytes x.edit ++ rest)) rest good.nameless (edit_sort.part.again x.edit rest (edit_is_good x good.good))

    stays : (bytes more : List ℕ) → Stays (nameless_change_at bytes) (nameless_change_at (bytes ++ more)) more
    stays bytes more = stays_bind (edit_at bytes) _ _ more (edit_sort.stays bytes more) (λ x. refl)

-- ---- changes of layout 1

differ : false ≡ true → ⊥
differ e = cc

-- what begins with an old tag is an old edit
was_old : (x : Edit) (tag : ℕ) (bytes rest : List ℕ) → is_change_tag_old tag ≡ true → tag ∷ bytes ≡ edit_bytes x ++ rest → IsOldEdit x
was_old (AddUser handle) tag bytes rest known e = tt
was_old (DelUser handle) tag bytes rest known e = tt
was_old (AddHost handle mask) tag bytes rest known e = tt
was_old (DelHost handle mask) tag bytes rest known e = tt
was_old (SetGlobal handle bits) tag bytes rest known e = tt
was_old (SetChan handle channel bits) tag bytes rest known e = tt
was_old (SetBot handle bits) tag bytes rest known e = tt
was_old (AddBan channel mask creator expires comment) tag bytes rest known e = tt
was_old (DelBan channel mask) tag bytes rest known e = tt
was_old (SetInfo handle info) tag bytes rest known e = differ (sym (ap is_change_tag_old (head_is tag bytes 10 _ e)) ∙ known)
was_old (SetSticky channel mask on) tag bytes rest known e = differ (sym (ap is_change_tag_old (head_is tag bytes 11 _ e)) ∙ known)

-- an old edit begins with an old tag
begins_old : (x : Edit) (rest : List ℕ) → IsOldEdit x → change_at_old (edit_bytes x ++ rest) ≡ made by_nobody (edit_at (edit_bytes x ++ rest))
unfolding change_at_old fields_at_old edit_at byte_at
begins_old (AddUser handle) rest old = refl
begins_old (DelUser handle) rest old = refl
begins_old (AddHost handle mask) rest old = refl
begins_old (DelHost handle mask) rest old = refl
begins_old (SetGlobal handle bits) rest old = refl
begins_old (SetChan handle channel bits) rest old = refl
begins_old (SetBot handle bits) rest old = refl
begins_old (AddBan channel mask creator expires comment) rest old = refl
begins_old (DelBan channel mask) rest old = refl
begins_old (SetInfo handle info) rest old = absurd old
begins_old (SetSticky channel mask on) rest old = absurd old

pub change_sort_old : IsSort change_at_old change_bytes_old IsGoodChangeOld
unfolding change_at_old fields_at_old edit_at byte_at
change_sort_old = record { part = record { takes = takes; again = again }; stays = stays }
  where
    takes : (bytes : List ℕ) (x : Change) (rest : List ℕ) → IsBytes bytes → change_at_old bytes ≡ Ok (x, rest)
        → Takes bytes (change_bytes_old x) rest × IsGoodChangeOld x
    takes [] x rest fits e = absurd cc
    takes (tag ∷ bytes) x rest fits e =
        elim (chosen (is_change_tag_old tag) _ _ _ e) [
          | inl p ↦
              let t = nobody_takes (tag ∷ bytes) (edit_fields_at tag bytes) x rest (λ edit after. edit_sort.part.takes (tag ∷ bytes) edit after fits) p.1 in
              let old = was_old x.edit tag bytes rest p.0 (t.0.parts ∙ ap (λ (b : List ℕ). b ++ rest) (bare x t.1.1)) in
              (t.0, record { good = t.1.0; nameless = t.1.1; old = old })
          | inr p ↦ absurd (no_value x rest p.1)
        ]

    again : (x : Change) (rest : List ℕ) → IsGoodChangeOld x → change_at_old (change_bytes_old x ++ rest) ≡ Ok (x, rest)
    again x rest good =
        ap (λ (b : List ℕ). change_at_old (b ++ rest)) (bare x good.nameless)
        ∙ begins_old x.edit rest good.old
        ∙ nobody_again x (edit_at (edit_bytes x.edit ++ rest)) rest good.nameless (edit_sort.part.again x.edit rest (edit_is_good x good.good))

    stays : (bytes more : List ℕ) → Stays (change_at_old bytes) (change_at_old (bytes ++ more)) more
    stays bytes more =
        stays_bind (byte_at bytes) _ _ more (byte_field.laws.stays bytes more) (λ tag.
        stays_if (is_change_tag_old tag.0) _ _ _ _ more
        (stays_bind (edit_fields_at tag.0 tag.1) _ _ more (fields_stay tag.0 tag.1 more) (λ x. refl)) refl)

-- ---- records of layout 1

no_info : (info : List ℕ) → info ≡ [] → is_info info ≡ true
unfolding is_info
no_info info none = rw none refl

old_user : (user : User) → PlainUserPasses user → IsGoodRecordOld (records.User user)
old_user user p = record { good = user_is_good user (p.0, no_info user.info p.1); old = p.1 }

old_ban : (ban : Ban) → PlainBanPasses ban → IsGoodRecordOld (records.Ban ban)
old_ban ban p = record { good = ban_is_good ban p.0; old = p.1 }

abbrev Taken : ℕ → List ℕ → Record → List ℕ → Type 0
Taken tag bytes x rest = Takes (tag ∷ bytes) (record_bytes_old x) rest × IsGoodRecordOld x

tagged_takes : {A : Type 0} {read : List ℕ → Reading A} {spelling : A → List ℕ} {IsGood : A → Type 0} (kind tag : ℕ) (record_of : A → Record)
    → IsField read spelling IsGood → ((x : A) → record_bytes_old (record_of x) ≡ kind ∷ spelling x)
    → ((x : A) → IsGood x → IsGoodRecordOld (record_of x)) → (bytes : List ℕ) (x : Record) (rest : List ℕ) → IsBytes bytes → eqb tag kind ≡ true
    → made record_of (read bytes) ≡ Ok (x, rest) → Taken tag bytes x rest
tagged_takes {A = A} {read = read} {spelling = spelling} kind tag record_of field spelled good bytes x rest fits same e =
    let tag_is : tag ≡ kind = eqb-true tag kind same in
    let a = bind_ok (read bytes) (λ y. Ok (record_of y.0, y.1)) (x, rest) e in
    let t = field.laws.part.takes bytes a.0.0 a.0.1 fits a.1 in
    let front : tag ∷ bytes ≡ (kind ∷ spelling a.0.0) ++ a.0.1 = ap (λ (k : ℕ). k ∷ bytes) tag_is ∙ ap (λ (b : List ℕ). kind ∷ b) t.0.parts in
    let parts : tag ∷ bytes ≡ record_bytes_old (record_of a.0.0) ++ a.0.1 = front ∙ ap (λ (b : List ℕ). b ++ a.0.1) (sym (spelled a.0.0)) in
    subst (λ (p : Record × List ℕ). Taken tag bytes p.0 p.1) (ok_is (record_of a.0.0, a.0.1) (x, rest) a.2)
    (record { parts = parts; rest_fits = t.0.rest_fits }, good a.0.0 t.1)

pub record_sort_old : IsSort record_at_old record_bytes_old IsGoodRecordOld
unfolding record_at_old record_fields_at_old byte_at
record_sort_old = record { part = record { takes = takes; again = again }; stays = stays }
  where
    fields_take : (tag : ℕ) (bytes : List ℕ) (x : Record) (rest : List ℕ) → IsBytes bytes → record_fields_at_old tag bytes ≡ Ok (x, rest)
        → Taken tag bytes x rest
    fields_take tag bytes x rest fits e =
        elim (chosen (eqb tag 1) _ _ _ e) [
          | inl p ↦ tagged_takes 1 tag records.User plain_user_field (λ y. refl) old_user bytes x rest fits p.0 p.1
          | inr p ↦
              elim (chosen (eqb tag 2) _ _ _ p.1) [
                | inl p ↦ tagged_takes 2 tag records.Ban ban_field (λ y. refl) old_ban bytes x rest fits p.0 p.1
                | inr p ↦ absurd (no_value x rest p.1)
              ]
        ]

    takes : (bytes : List ℕ) (x : Record) (rest : List ℕ) → IsBytes bytes → record_at_old bytes ≡ Ok (x, rest)
        → Takes bytes (record_bytes_old x) rest × IsGoodRecordOld x
    takes [] x rest fits e = absurd cc
    takes (tag ∷ bytes) x rest fits e = fields_take tag bytes x rest (λ i. fits (suc i)) e

    again : (x : Record) (rest : List ℕ) → IsGoodRecordOld x → record_at_old (record_bytes_old x ++ rest) ≡ Ok (x, rest)
    again (records.User user) rest good = ap (made records.User) (plain_user_field.laws.part.again user rest ((user_passes user good.good).0, good.old))
    again (records.Ban ban) rest good = ap (made records.Ban) (ban_field.laws.part.again ban rest (ban_passes ban good.good, good.old))

    stays : (bytes more : List ℕ) → Stays (record_at_old bytes) (record_at_old (bytes ++ more)) more
    stays bytes more = stays_bind (byte_at bytes) _ _ more (byte_field.laws.stays bytes more) (λ tag.
        stays_if (eqb tag.0 1) _ _ _ _ more (stays_bind (plain_user_at tag.1) _ _ more (plain_user_field.laws.stays tag.1 more) (λ x. refl))
        (stays_if (eqb tag.0 2) _ _ _ _ more (stays_bind (ban_at tag.1) _ _ more (ban_field.laws.stays tag.1 more) (λ x. refl)) refl))
