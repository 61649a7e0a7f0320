-- Where a tag is at fault: exactly where the first byte is no tag.
use Rattle.std.proofs.Common.{◌≡◌, ℕ, suc, ◌≤◌, Bool, true, false, cond, eqb, List, [], ◌∷◌, Ok, Err, refl, sym, ap, ◌∙◌, arith}
use Rattle.std.proofs.lemmas.Bool.{eqb-true}
use Rattle.std.proofs.lemmas.Bool.Decides.{nat_tests}
use Rattle.std.specs.Prelude.{◌↔◌}
use Rattle.userfile.specs.Changes.{by_nobody}
use Rattle.userfile.specs.declared.change.Change.{Change}
use Rattle.userfile.specs.declared.edit.Edit.{Edit}
use Rattle.usercodec.specs.declared.records.Record.{Record}
use Rattle.usercodec.specs.declared.fault.CodecFault.TheVariants.{Short, BadTag, NotCanonical}
use Rattle.usercodec.specs.Fields.{Reading, byte_at}
use Rattle.usercodec.specs.Changes.{made, ban_at, is_edit_tag, edit_fields_at, edit_at, is_change_tag, fields_at, change_at}
use Rattle.usercodec.specs.Records.{plain_user_at, user_at, held_ban_at, is_record_tag, record_fields_at, record_at}
use Rattle.usercodec.specs.Old.{nameless_change_at}
use Rattle.usercodec.specs.Old.{is_change_tag_old, fields_at_old, change_at_old, is_record_tag_old, record_fields_at_old, record_at_old}
use Rattle.usercodec.specs.Laws.{BeginsUnknown}
use Rattle.usercodec.proofs.Steps.{head_is, NoTag, no_tag_bind, no_tag_where}
use Rattle.usercodec.proofs.EditLaws.{ban_field, known_edit}
use Rattle.usercodec.proofs.ChangeLaws.{named_no_tag}
use Rattle.usercodec.proofs.RecordLaws.{plain_user_field, user_field, held_ban_field}

-- what has no fault of a tag isn't refused for one
tells_none : {A : Type 0} (reading : Reading A) → NoTag reading → reading ≡ Err BadTag → ⊥
tells_none (Ok x) none e = cc
tells_none (Err Short) none e = cc
tells_none (Err BadTag) none e = none
tells_none (Err NotCanonical) none e = cc

-- a byte that is no tag is none of the tags
other_than : (is_tag : ℕ → Bool) (tag k : ℕ) → is_tag k ≡ true → is_tag tag ≡ false → eqb tag k ≡ false
other_than is_tag tag k known unknown = by (eqb tag k) refl
  where
    by : (b : Bool) → eqb tag k ≡ b → b ≡ false
    by false e = refl
    by true e = absurd (differ (sym (ap is_tag (eqb-true tag k e) ∙ known) ∙ unknown))
      where
        differ : true ≡ false → ⊥
        differ e = cc

unknown_is : (b : Bool) → (b ≡ true → ⊥) → b ≡ false
unknown_is true never = absurd (never refl)
unknown_is false never = refl

not_cons : (tag : ℕ) (rest : List ℕ) → (let none : List ℕ = [] in none) ≡ tag ∷ rest → ⊥
not_cons tag rest e = cc

-- ---- tags and what stands after them

no_byte : {A : Type 0} (is_tag : ℕ → Bool) → (let short : Reading A = Err Short in short ≡ Err BadTag) ↔ BeginsUnknown is_tag []
no_byte {A = A} is_tag = (λ e. absurd (tells_none {A = A} (Err Short) tt e), λ (tag, (rest, (e, unknown))). absurd (not_cons tag rest e))

-- where fields of a known tag have no fault of a tag, and others are refused for it
begins : {A : Type 0} (is_tag : ℕ → Bool) (fields : ℕ → List ℕ → Reading A)
    → ((tag : ℕ) (bytes : List ℕ) → is_tag tag ≡ true → NoTag (fields tag bytes))
    → ((tag : ℕ) (bytes : List ℕ) → is_tag tag ≡ false → fields tag bytes ≡ Err BadTag)
    → (tag : ℕ) (bytes : List ℕ) → (fields tag bytes ≡ Err BadTag) ↔ BeginsUnknown is_tag (tag ∷ bytes)
begins is_tag fields known unknown tag bytes = (to, from)
  where
    to : fields tag bytes ≡ Err BadTag → BeginsUnknown is_tag (tag ∷ bytes)
    to e = (tag, (bytes, (refl, unknown_is (is_tag tag) (λ is_known. tells_none (fields tag bytes) (known tag bytes is_known) e))))

    from : BeginsUnknown is_tag (tag ∷ bytes) → fields tag bytes ≡ Err BadTag
    from other =
        let same : tag ≡ other.0 = head_is tag bytes other.0 other.1.0 other.1.1.0 in
        unknown tag bytes (ap is_tag same ∙ other.1.1.1)

-- ---- changes

unknown_edit : (tag : ℕ) (bytes : List ℕ) → is_edit_tag tag ≡ false → edit_fields_at tag bytes ≡ Err BadTag
unfolding edit_fields_at
unknown_edit tag bytes unknown =
    rw (
      other_than is_edit_tag tag 1 refl unknown,
      other_than is_edit_tag tag 2 refl unknown,
      other_than is_edit_tag tag 3 refl unknown,
      other_than is_edit_tag tag 4 refl unknown,
      other_than is_edit_tag tag 5 refl unknown,
      other_than is_edit_tag tag 6 refl unknown,
      other_than is_edit_tag tag 7 refl unknown,
      other_than is_edit_tag tag 8 refl unknown,
      other_than is_edit_tag tag 9 refl unknown,
      other_than is_edit_tag tag 10 refl unknown,
      other_than is_edit_tag tag 11 refl unknown,
    ) refl

made_refused : (reading : Reading Edit) → reading ≡ Err BadTag → made by_nobody reading ≡ Err BadTag
made_refused reading e = ap (made by_nobody) e

known_change : (tag : ℕ) (bytes : List ℕ) → is_change_tag tag ≡ true → NoTag (fields_at tag bytes)
unfolding fields_at
known_change tag bytes known =
    no_tag_where (eqb tag 12) _ _ (λ e. named_no_tag bytes) (λ other.
    no_tag_bind (edit_fields_at tag bytes) _ (known_edit tag bytes (is_edit other)) (λ x. tt))
  where
    is_edit : eqb tag 12 ≡ false → is_edit_tag tag ≡ true
    is_edit other = grind (arith, nat_tests)

unknown_change : (tag : ℕ) (bytes : List ℕ) → is_change_tag tag ≡ false → fields_at tag bytes ≡ Err BadTag
unfolding fields_at
unknown_change tag bytes unknown = rw (other_than is_change_tag tag 12 refl unknown) (made_refused (edit_fields_at tag bytes) (unknown_edit tag bytes is_none))
  where
    is_none : is_edit_tag tag ≡ false
    is_none = grind (arith, nat_tests)

pub change_tag : (bytes : List ℕ) → (change_at bytes ≡ Err BadTag) ↔ BeginsUnknown is_change_tag bytes
unfolding change_at byte_at
change_tag [] = no_byte {A = Change} is_change_tag
change_tag (tag ∷ bytes) = begins is_change_tag fields_at known_change unknown_change tag bytes

-- those of the layouts 2 and 3

pub nameless_tag : (bytes : List ℕ) → (nameless_change_at bytes ≡ Err BadTag) ↔ BeginsUnknown is_edit_tag bytes
unfolding nameless_change_at edit_at byte_at
nameless_tag [] = no_byte {A = Change} is_edit_tag
nameless_tag (tag ∷ bytes) =
    begins is_edit_tag (λ tag bytes. made by_nobody (edit_fields_at tag bytes))
    (λ tag bytes known. no_tag_bind (edit_fields_at tag bytes) _ (known_edit tag bytes known) (λ x. tt))
    (λ tag bytes unknown. made_refused (edit_fields_at tag bytes) (unknown_edit tag bytes unknown)) tag bytes

-- those of layout 1

known_change_old : (tag : ℕ) (bytes : List ℕ) → is_change_tag_old tag ≡ true → NoTag (fields_at_old tag bytes)
unfolding fields_at_old
known_change_old tag bytes known = no_tag_where (is_change_tag_old tag) _ _ (λ e. no_tag_bind (edit_fields_at tag bytes) _ (known_edit tag bytes still) (λ x. tt)) (λ other. absurd (differ (sym other ∙ known)))
  where
    still : is_edit_tag tag ≡ true
    still = grind (arith, nat_tests)

    differ : false ≡ true → ⊥
    differ e = cc

unknown_change_old : (tag : ℕ) (bytes : List ℕ) → is_change_tag_old tag ≡ false → fields_at_old tag bytes ≡ Err BadTag
unfolding fields_at_old
unknown_change_old tag bytes unknown = rw unknown refl

pub change_tag_old : (bytes : List ℕ) → (change_at_old bytes ≡ Err BadTag) ↔ BeginsUnknown is_change_tag_old bytes
unfolding change_at_old byte_at
change_tag_old [] = no_byte {A = Change} is_change_tag_old
change_tag_old (tag ∷ bytes) = begins is_change_tag_old fields_at_old known_change_old unknown_change_old tag bytes

-- ---- records

known_record : (tag : ℕ) (bytes : List ℕ) → is_record_tag tag ≡ true → NoTag (record_fields_at tag bytes)
unfolding record_fields_at
known_record tag bytes known =
    no_tag_where (eqb tag 3) _ _ (λ e. no_tag_bind (user_at bytes) _ (user_field.no_tag bytes) (λ x. tt)) (λ n3.
    no_tag_where (eqb tag 4) _ _ (λ e. no_tag_bind (held_ban_at bytes) _ (held_ban_field.no_tag bytes) (λ x. tt)) (λ n4. absurd (neither n3 n4)))
  where
    differ : false ≡ true → ⊥
    differ e = cc

    neither : eqb tag 3 ≡ false → eqb tag 4 ≡ false → ⊥
    neither n3 n4 = differ (sym (rw (n3, n4) refl) ∙ known)

unknown_record : (tag : ℕ) (bytes : List ℕ) → is_record_tag tag ≡ false → record_fields_at tag bytes ≡ Err BadTag
unfolding record_fields_at
unknown_record tag bytes unknown = rw (other_than is_record_tag tag 3 refl unknown, other_than is_record_tag tag 4 refl unknown) refl

pub record_tag : (bytes : List ℕ) → (record_at bytes ≡ Err BadTag) ↔ BeginsUnknown is_record_tag bytes
unfolding record_at byte_at
record_tag [] = no_byte {A = Record} is_record_tag
record_tag (tag ∷ bytes) = begins is_record_tag record_fields_at known_record unknown_record tag bytes

-- those of layout 1

known_record_old : (tag : ℕ) (bytes : List ℕ) → is_record_tag_old tag ≡ true → NoTag (record_fields_at_old tag bytes)
unfolding record_fields_at_old
known_record_old tag bytes known =
    no_tag_where (eqb tag 1) _ _ (λ e. no_tag_bind (plain_user_at bytes) _ (plain_user_field.no_tag bytes) (λ x. tt)) (λ n1.
    no_tag_where (eqb tag 2) _ _ (λ e. no_tag_bind (ban_at bytes) _ (ban_field.no_tag bytes) (λ x. tt)) (λ n2. absurd (neither n1 n2)))
  where
    differ : false ≡ true → ⊥
    differ e = cc

    neither : eqb tag 1 ≡ false → eqb tag 2 ≡ false → ⊥
    neither n1 n2 = differ (sym (rw (n1, n2) refl) ∙ known)

unknown_record_old : (tag : ℕ) (bytes : List ℕ) → is_record_tag_old tag ≡ false → record_fields_at_old tag bytes ≡ Err BadTag
unfolding record_fields_at_old
unknown_record_old tag bytes unknown = rw (other_than is_record_tag_old tag 1 refl unknown, other_than is_record_tag_old tag 2 refl unknown) refl

pub record_tag_old : (bytes : List ℕ) → (record_at_old bytes ≡ Err BadTag) ↔ BeginsUnknown is_record_tag_old bytes
unfolding record_at_old byte_at
record_tag_old [] = no_byte {A = Record} is_record_tag_old
record_tag_old (tag ∷ bytes) = begins is_record_tag_old record_fields_at_old known_record_old unknown_record_old tag bytes
