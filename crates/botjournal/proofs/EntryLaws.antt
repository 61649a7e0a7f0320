-- Entries in each layout: what is read is spelled so, and what is spelled so is read.
use Rattle.std.proofs.Common.{◌≡◌, ℕ, suc, ◌^◌, ◌<◌, true, eqb, List, [], ◌∷◌, ◌++◌, Option, Some, None, Ok, Err, refl, sym, ap, subst, ◌∙◌, inl, inr}
use Rattle.std.specs.Int.{w16, w32}
use Rattle.std.proofs.lemmas.Bool.{eqb-true}
use Rattle.usercodec.specs.declared.fault.CodecFault.TheVariants.{BadTag}
use Rattle.usercodec.specs.Fields.{number, Reading, byte_at, number_at}
use Rattle.usercodec.specs.Changes.{both, made, change_bytes}
use Rattle.usercodec.proofs.Steps.{IsBytes, chosen, bind_ok, ok_is, Takes}
use Rattle.botjournal.specs.declared.entry.Entry.{Entry}
use Rattle.botjournal.specs.declared.entry.Entry.TheVariants.{Accepted, Settled, Applied, ReqOut, ReqDone}
use Rattle.botjournal.specs.declared.layouts.Layout.{Layout}
use Rattle.botjournal.specs.Layouts.{IsGoodChangeBy, change_by}
use Rattle.botjournal.specs.Entries.{entry_bytes, IsGoodEntry, IsGoodEntryBy, accepted_at, settled_at, applied_at, request_out_at, request_done_at, entry_fields_at, entry_at}
use Rattle.botjournal.specs.Entries.{entry_in, IsEntryOf}
use Rattle.usercodec.proofs.PartLaws.{IsPart, both_part}
use Rattle.usercodec.proofs.ReaderLaws.{u16_part, u32_part, refused_part}
use Rattle.botjournal.proofs.WholeLaws.{whole_again, whole_spelled}
use Rattle.botjournal.proofs.LayoutLaws.{change_part_by, change_good}

-- ---- the fields of each kind

accepted_part : (layout : Layout)
    → IsPart (both (number_at w16) (both (number_at w32) (change_by layout))) (λ x. number w16 x.0 ++ (number w32 x.1.0 ++ change_bytes x.1.1))
    (λ x. (x.0 < 2 ^ 16) × ((x.1.0 < 2 ^ 32) × IsGoodChangeBy layout x.1.1))
accepted_part layout = both_part u16_part (both_part u32_part (change_part_by layout))

numbered_part : (layout : Layout) → IsPart (both (number_at w32) (change_by layout)) (λ x. number w32 x.0 ++ change_bytes x.1)
    (λ x. (x.0 < 2 ^ 32) × IsGoodChangeBy layout x.1)
numbered_part layout = both_part u32_part (change_part_by layout)

-- ---- what stands after a tag

-- the tag and its fields are an entry that has a spelling
abbrev Taken : Layout → ℕ → List ℕ → Entry → List ℕ → Type 0
Taken layout tag bytes x rest = Takes (tag ∷ bytes) (entry_bytes x) rest × IsGoodEntryBy layout x

tagged_takes : {A : Type 0} {read : List ℕ → Reading A} {spelling : A → List ℕ} {IsGood : A → Type 0} (layout : Layout) (kind tag : ℕ)
    (entry_of : A → Entry) → IsPart read spelling IsGood → ((x : A) → entry_bytes (entry_of x) ≡ kind ∷ spelling x)
    → ((x : A) → IsGood x → IsGoodEntryBy layout (entry_of x))
    → (bytes : List ℕ) (x : Entry) (rest : List ℕ) → IsBytes bytes → eqb tag kind ≡ true → made entry_of (read bytes) ≡ Ok (x, rest)
    → Taken layout tag bytes x rest
tagged_takes {A = A} {read = read} {spelling = spelling} layout kind tag entry_of part spelled good bytes x rest fits same e =
    let tag_is : tag ≡ kind = eqb-true tag kind same in
    let a = bind_ok (read bytes) (λ y. Ok (entry_of y.0, y.1)) (x, rest) e in
    let t = part.takes bytes a.0.0 a.0.1 fits a.1 in
    let front : tag ∷ bytes ≡ (kind ∷ spelling a.0.0) ++ a.0.1 = ap (λ (k : ℕ). k ∷ bytes) tag_is ∙ ap (λ (b : List ℕ). kind ∷ b) t.0.parts in
    let parts : tag ∷ bytes ≡ entry_bytes (entry_of a.0.0) ++ a.0.1 = front ∙ ap (λ (b : List ℕ). b ++ a.0.1) (sym (spelled a.0.0)) in
    subst (λ (p : Entry × List ℕ). Taken layout tag bytes p.0 p.1) (ok_is (entry_of a.0.0, a.0.1) (x, rest) a.2)
    (record { parts = parts; rest_fits = t.0.rest_fits }, good a.0.0 t.1)

no_value : (x : Entry) (rest : List ℕ) → (let r : Reading Entry = Err BadTag in r) ≡ Ok (x, rest) → ⊥
no_value x rest e = cc

fields_take : (layout : Layout) (tag : ℕ) (bytes : List ℕ) (x : Entry) (rest : List ℕ) → IsBytes bytes
    → entry_fields_at layout tag bytes ≡ Ok (x, rest) → Taken layout tag bytes x rest
unfolding entry_fields_at accepted_at settled_at applied_at request_out_at request_done_at
fields_take layout tag bytes x rest fits e =
    elim (chosen (eqb tag 1) _ _ _ e) [
      | inl p ↦ tagged_takes layout 1 tag (λ x. Accepted x.0 x.1.0 x.1.1) (accepted_part layout) (λ x. refl) (λ x g. g) bytes x rest fits p.0 p.1
      | inr p ↦
          elim (chosen (eqb tag 2) _ _ _ p.1) [
            | inl p ↦ tagged_takes layout 2 tag (λ x. Settled x.0 x.1.0 x.1.1) refused_part (λ x. refl) (λ x g. (g.0, g.1.0)) bytes x rest fits p.0 p.1
            | inr p ↦
                elim (chosen (eqb tag 3) _ _ _ p.1) [
                  | inl p ↦ tagged_takes layout 3 tag (λ x. Applied x.0 x.1) (numbered_part layout) (λ x. refl) (λ x g. g) bytes x rest fits p.0 p.1
                  | inr p ↦
                      elim (chosen (eqb tag 4) _ _ _ p.1) [
                        | inl p ↦ tagged_takes layout 4 tag (λ x. ReqOut x.0 x.1) (numbered_part layout) (λ x. refl) (λ x g. g) bytes x rest fits p.0 p.1
                        | inr p ↦
                            elim (chosen (eqb tag 5) _ _ _ p.1) [
                              | inl p ↦ tagged_takes layout 5 tag ReqDone u32_part (λ x. refl) (λ x g. g) bytes x rest fits p.0 p.1
                              | inr p ↦ absurd (no_value x rest p.1)
                            ]
                      ]
                ]
          ]
    ]

pub entry_part : (layout : Layout) → IsPart (entry_at layout) entry_bytes (IsGoodEntryBy layout)
unfolding entry_at entry_fields_at byte_at accepted_at settled_at applied_at request_out_at request_done_at
entry_part layout = record { takes = takes; again = again }
  where
    takes : (bytes : List ℕ) (x : Entry) (rest : List ℕ) → IsBytes bytes → entry_at layout bytes ≡ Ok (x, rest)
        → Takes bytes (entry_bytes x) rest × IsGoodEntryBy layout x
    takes [] x rest fits e = absurd cc
    takes (tag ∷ bytes) x rest fits e = fields_take layout tag bytes x rest (λ i. fits (suc i)) e

    again : (x : Entry) (rest : List ℕ) → IsGoodEntryBy layout x → entry_at layout (entry_bytes x ++ rest) ≡ Ok (x, rest)
    again (Accepted origin r c) rest good = ap (made (λ x. Accepted x.0 x.1.0 x.1.1)) ((accepted_part layout).again (origin, (r, c)) rest good)
    again (Settled leaf r fault) rest good = ap (made (λ x. Settled x.0 x.1.0 x.1.1)) (refused_part.again (leaf, (r, fault)) rest (good.0, (good.1, tt)))
    again (Applied n c) rest good = ap (made (λ x. Applied x.0 x.1)) ((numbered_part layout).again (n, c) rest good)
    again (ReqOut r c) rest good = ap (made (λ x. ReqOut x.0 x.1)) ((numbered_part layout).again (r, c) rest good)
    again (ReqDone r) rest good = ap (made ReqDone) (u32_part.again r rest good)

-- ---- entries that are all of their bytes

pub entry_again : (layout : Layout) (entry : Entry) → IsGoodEntryBy layout entry → entry_in layout (entry_bytes entry) ≡ Some entry
entry_again layout entry good = whole_again (entry_part layout) entry good

pub found_is : (layout : Layout) (bytes : List ℕ) (found : Option Entry) → IsBytes bytes → found ≡ entry_in layout bytes → IsEntryOf layout bytes found
found_is layout bytes None fits e = tt
found_is layout bytes (Some entry) fits e = whole_spelled (entry_part layout) bytes entry fits (sym e)

pub is_found : (layout : Layout) (bytes : List ℕ) (entry : Entry) (found : Option Entry) → found ≡ entry_in layout bytes
    → IsGoodEntryBy layout entry → bytes ≡ entry_bytes entry → found ≡ Some entry
is_found layout bytes entry found e good is = e ∙ ap (entry_in layout) is ∙ entry_again layout entry good

-- what any layout spells has the spelling that is written
pub entry_good : (layout : Layout) (entry : Entry) → IsGoodEntryBy layout entry → IsGoodEntry entry
entry_good layout (Accepted origin r c) good = (good.0, (good.1.0, change_good layout c good.1.1))
entry_good layout (Settled leaf r fault) good = good
entry_good layout (Applied n c) good = (good.0, change_good layout c good.1)
entry_good layout (ReqOut r c) good = (good.0, change_good layout c good.1)
entry_good layout (ReqDone r) good = good
