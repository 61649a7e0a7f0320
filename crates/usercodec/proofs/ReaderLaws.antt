-- The fields that a reader answers: what is read is spelled so, and what is spelled so is read. For callers.
use Rattle.std.proofs.Common.{◌≡◌, ℕ, ◌^◌, ◌<◌, true, eqb, List, [], ◌∷◌, ◌++◌, Option, Some, None, Ok, refl, sym, ap, subst, ◌∙◌, inl, inr}
use Rattle.std.specs.Int.{w16, w32}
use Rattle.std.proofs.lemmas.Bool.{eqb-true}
use Rattle.userfile.specs.declared.error.ChangeFault.{ChangeFault}
use Rattle.userfile.specs.declared.error.ChangeFault.TheVariants.{BadHandle, BadMask, BadChannel, BadComment, NoSuchUser, UserExists, MaskExists}
use Rattle.userfile.specs.declared.error.ChangeFault.TheVariants.{NoSuchMask, BanExists, NoSuchBan, Full, NotAllowed}
use Rattle.usercodec.specs.Fields.{number, byte_at, number_at}
use Rattle.usercodec.specs.Changes.{both, change_at, change_bytes, IsGoodChange}
use Rattle.usercodec.specs.FaultBytes.{fault_byte, fault_from, known, fault_at}
use Rattle.usercodec.specs.Records.{record_at, record_bytes, IsGoodRecord}
use Rattle.usercodec.specs.Old.{IsGoodNamelessChange, nameless_change_at}
use Rattle.usercodec.specs.Old.{change_at_old, change_bytes_old, IsGoodChangeOld, record_at_old, record_bytes_old, IsGoodRecordOld}
use Rattle.usercodec.proofs.Steps.{IsBytes, bind_ok, chosen, ok_is, Takes}
use Rattle.usercodec.proofs.PartLaws.{IsPart, both_part}
use Rattle.usercodec.proofs.FieldLaws.{byte_field, field16, field32}
use Rattle.usercodec.proofs.ChangeLaws.{change_sort}
use Rattle.usercodec.proofs.RecordLaws.{record_sort}
use Rattle.usercodec.proofs.OldLaws.{nameless_sort, change_sort_old, record_sort_old}

pub byte_part : IsPart byte_at (λ byte. byte ∷ []) (λ byte. byte < 256)
byte_part = byte_field.laws.part

pub u16_part : IsPart (number_at w16) (number w16) (λ n. n < 2 ^ 16)
u16_part = field16.laws.part

pub u32_part : IsPart (number_at w32) (number w32) (λ n. n < 2 ^ 32)
u32_part = field32.laws.part

pub change_part : IsPart change_at change_bytes IsGoodChange
change_part = change_sort.part

pub record_part : IsPart record_at record_bytes IsGoodRecord
record_part = record_sort.part

pub nameless_change_part : IsPart nameless_change_at change_bytes IsGoodNamelessChange
nameless_change_part = nameless_sort.part

pub change_part_old : IsPart change_at_old change_bytes_old IsGoodChangeOld
change_part_old = change_sort_old.part

pub record_part_old : IsPart record_at_old record_bytes_old IsGoodRecordOld
record_part_old = record_sort_old.part

-- ---- why a change was refused

pub some_is : {A : Type 0} (x y : A) → (let s : Option A = Some x in s) ≡ Some y → x ≡ y
some_is x y e = cc

byte_is : (byte n : ℕ) (fault x : ChangeFault) → eqb byte n ≡ true → (let s : Option ChangeFault = Some fault in s) ≡ Some x → fault_byte fault ≡ n
    → fault_byte x ≡ byte
byte_is byte n fault x same e is = ap fault_byte (sym (some_is fault x e)) ∙ is ∙ sym (eqb-true byte n same)

pub fault_byte-from : (byte : ℕ) (x : ChangeFault) → fault_from byte ≡ Some x → fault_byte x ≡ byte
unfolding fault_from
fault_byte-from byte x e =
    elim (chosen (eqb byte 1) _ _ _ e) [
      | inl p ↦ byte_is byte 1 BadHandle x p.0 p.1 refl
      | inr p ↦
          elim (chosen (eqb byte 2) _ _ _ p.1) [
            | inl p ↦ byte_is byte 2 UserExists x p.0 p.1 refl
            | inr p ↦
                elim (chosen (eqb byte 3) _ _ _ p.1) [
                  | inl p ↦ byte_is byte 3 NoSuchUser x p.0 p.1 refl
                  | inr p ↦
                      elim (chosen (eqb byte 4) _ _ _ p.1) [
                        | inl p ↦ byte_is byte 4 BadMask x p.0 p.1 refl
                        | inr p ↦
                            elim (chosen (eqb byte 5) _ _ _ p.1) [
                              | inl p ↦ byte_is byte 5 MaskExists x p.0 p.1 refl
                              | inr p ↦
                                  elim (chosen (eqb byte 6) _ _ _ p.1) [
                                    | inl p ↦ byte_is byte 6 NoSuchMask x p.0 p.1 refl
                                    | inr p ↦
                                        elim (chosen (eqb byte 7) _ _ _ p.1) [
                                          | inl p ↦ byte_is byte 7 BadChannel x p.0 p.1 refl
                                          | inr p ↦
                                              elim (chosen (eqb byte 8) _ _ _ p.1) [
                                                | inl p ↦ byte_is byte 8 BanExists x p.0 p.1 refl
                                                | inr p ↦
                                                    elim (chosen (eqb byte 9) _ _ _ p.1) [
                                                      | inl p ↦ byte_is byte 9 NoSuchBan x p.0 p.1 refl
                                                      | inr p ↦
                                                          elim (chosen (eqb byte 10) _ _ _ p.1) [
                                                            | inl p ↦ byte_is byte 10 BadComment x p.0 p.1 refl
                                                            | inr p ↦
                                                                elim (chosen (eqb byte 11) _ _ _ p.1) [
                                                                  | inl p ↦ byte_is byte 11 Full x p.0 p.1 refl
                                                                  | inr p ↦
                                                                      elim (chosen (eqb byte 12) _ _ _ p.1) [
                                                                        | inl p ↦ byte_is byte 12 NotAllowed x p.0 p.1 refl
                                                                        | inr p ↦
                                                                            absurd (none_is x p.1)
                                                                      ]
                                                                ]
                                                          ]
                                                    ]
                                              ]
                                        ]
                                  ]
                            ]
                      ]
                ]
          ]
    ]
  where
    none_is : (x : ChangeFault) → (let n : Option ChangeFault = None in n) ≡ Some x → ⊥
    none_is x e = cc

pub fault_from-byte : (fault : ChangeFault) → fault_from (fault_byte fault) ≡ Some fault
unfolding fault_from
fault_from-byte BadHandle = refl
fault_from-byte UserExists = refl
fault_from-byte NoSuchUser = refl
fault_from-byte BadMask = refl
fault_from-byte MaskExists = refl
fault_from-byte NoSuchMask = refl
fault_from-byte BadChannel = refl
fault_from-byte BanExists = refl
fault_from-byte NoSuchBan = refl
fault_from-byte BadComment = refl
fault_from-byte Full = refl
fault_from-byte NotAllowed = refl

pub known_is : {A : Type 0} (value : Option A) (bytes : List ℕ) (x : A) (rest : List ℕ) → known value bytes ≡ Ok (x, rest) → (value ≡ Some x) × (bytes ≡ rest)
known_is {A = A} (Some y) bytes x rest e =
    let same = ok_is (y, bytes) (x, rest) e in
    (ap (λ (p : A × List ℕ). Some p.0) same, ap (λ (p : A × List ℕ). p.1) same)
known_is None bytes x rest e = absurd cc

pub fault_part : IsPart fault_at (λ fault. fault_byte fault ∷ []) (λ fault. Unit {0})
unfolding fault_at byte_at
fault_part = record { takes = takes; again = again }
  where
    takes : (bytes : List ℕ) (x : ChangeFault) (rest : List ℕ) → IsBytes bytes → fault_at bytes ≡ Ok (x, rest)
        → Takes bytes (fault_byte x ∷ []) rest × Unit {0}
    takes bytes x rest fits e =
        let a = bind_ok (byte_at bytes) (λ byte. known (fault_from byte.0) byte.1) (x, rest) e in
        let t = (byte_part.takes bytes a.0.0 a.0.1 fits a.1).0 in
        let k = known_is (fault_from a.0.0) a.0.1 x rest a.2 in
        let took : Takes bytes (fault_byte x ∷ []) a.0.1 = subst (λ (b : ℕ). Takes bytes (b ∷ []) a.0.1) (sym (fault_byte-from a.0.0 x k.0)) t in
        (subst (λ (r : List ℕ). Takes bytes (fault_byte x ∷ []) r) k.1 took, tt)

    again : (x : ChangeFault) (rest : List ℕ) → Unit {0} → fault_at ((fault_byte x ∷ []) ++ rest) ≡ Ok (x, rest)
    again x rest good = rw (fault_from-byte x) refl

-- a leaf, its request, and why that was refused
pub refused_part : IsPart (both (number_at w16) (both (number_at w32) fault_at)) (λ x. number w16 x.0 ++ (number w32 x.1.0 ++ fault_byte x.1.1 ∷ []))
    (λ x. (x.0 < 2 ^ 16) × ((x.1.0 < 2 ^ 32) × Unit {0}))
refused_part = both_part u16_part (both_part u32_part fault_part)
