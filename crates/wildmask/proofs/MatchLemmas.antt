-- What items match, one item, one byte and one list after another.
use Rattle.std.proofs.Common.{◌≡◌, ◌≢◌, ◌↔◌, ◌⊎◌, ℕ, zero, suc, ◌+◌, ◌-◌, ◌<◌, ◌≤◌, Bool, true, false, not, eqb, cond, List, [], ◌∷◌, ◌++◌, length, take, drop, map, length-drop, drop-drop, refl, sym, subst, ap, ◌∙◌, arith, inl, inr, All, true≢false}
use Rattle.std.proofs.lemmas.List.{length-take-le, take-take, drop-take}
use Rattle.std.proofs.lemmas.Bool.{eqb-true, eq-eqb, ne_eqb}
use Rattle.rfccase.specs.Casemapping.{low_by, IsSameBy}
use Rattle.rfccase.specs.declared.casemappings.Casemapping.{Casemapping}
use Rattle.rfccase.proofs.SameLemmas.{low_by-low_by, low_by-space, IsSame-from}
use Rattle.rfccase.specs.declared.casemappings.Casemapping.TheVariants.{Rfc1459}
use Rattle.wildmask.specs.declared.items.Item.{Item}
use Rattle.wildmask.specs.declared.items.Item.TheVariants.{Literal, AnyByte, AnyText, NoSpace, Spaces}
use Rattle.wildmask.specs.Matching.{Takes, Matches}
use Rattle.wildmask.specs.Items.{is_literal}
use Rattle.wildmask.specs.Codes.{lower, decoded}
use Rattle.wildmask.specs.Walks.{may_be_empty, takes_one, takes_byte, MatchesAfter, AllLower, AllOne}

-- ---- lower cases

pub lower-lower : (mapping : Casemapping) (item : Item) → lower mapping (lower mapping item) ≡ lower mapping item
lower-lower mapping (Literal b) = ap Literal (low_by-low_by mapping b)
lower-lower mapping AnyByte = refl
lower-lower mapping AnyText = refl
lower-lower mapping NoSpace = refl
lower-lower mapping Spaces = refl

pub AllLower-map : (mapping : Casemapping) (items : List Item) → AllLower mapping (map (lower mapping) items)
AllLower-map mapping [] = tt
AllLower-map mapping (item ∷ items) = (lower-lower mapping item, AllLower-map mapping items)

-- the lower case of a literal takes the same texts
pub Takes-lower : (mapping : Casemapping) (item : Item) (text : List ℕ) → Takes mapping (lower mapping item) text ↔ Takes mapping item text
Takes-lower mapping (Literal b) text = (λ h. h ∙ ap (λ n. n ∷ []) (low_by-low_by mapping b), λ h. h ∙ ap (λ n. n ∷ []) (sym (low_by-low_by mapping b)))
Takes-lower mapping AnyByte text = (λ h. h, λ h. h)
Takes-lower mapping AnyText text = (λ h. h, λ h. h)
Takes-lower mapping NoSpace text = (λ h. h, λ h. h)
Takes-lower mapping Spaces text = (λ h. h, λ h. h)

pub Matches-lower : (mapping : Casemapping) (items : List Item) (text : List ℕ) → Matches mapping (map (lower mapping) items) text ↔ Matches mapping items text
Matches-lower mapping [] text = (λ h. h, λ h. h)
Matches-lower mapping (item ∷ items) text = (
  λ h. (h.0, (h.1.0, (Takes-lower mapping item _).0 h.1.1, (Matches-lower mapping items _).0 h.1.2)),
  λ h. (h.0, (h.1.0, (Takes-lower mapping item _).1 h.1.1, (Matches-lower mapping items _).1 h.1.2)),
)

-- the code of a literal is its byte
pub literal_code : (code : ℕ) → is_literal (decoded code) ≡ true → decoded code ≡ Literal code
literal_code code = by (eqb code 65) (eqb code 66) (eqb code 67) (eqb code 68)
  where
    by : (a b c d : Bool) → is_literal (cond a AnyByte (cond b AnyText (cond c NoSpace (cond d Spaces (Literal code))))) ≡ true
        → cond a AnyByte (cond b AnyText (cond c NoSpace (cond d Spaces (Literal code)))) ≡ Literal code
    by true b c d h = cc
    by false true c d h = cc
    by false false true d h = cc
    by false false false true h = cc
    by false false false false h = refl

-- ---- one byte more

abbrev pub Byte : Casemapping → Item → List Item → ℕ → List ℕ → Type 0
Byte mapping item others b text = ((may_be_empty item ≡ true) × Matches mapping others (b ∷ text)) ⊎ ((takes_byte item (low_by mapping b) ≡ true) × MatchesAfter mapping item others text)

-- an item and others match a byte and a text where the item takes nothing, or the byte
pub Matches-byte : (mapping : Casemapping) (item : Item) (others : List Item) (b : ℕ) (text : List ℕ) → lower mapping item ≡ item → Matches mapping (item ∷ others) (b ∷ text) ↔ Byte mapping item others b text
Matches-byte mapping (Literal c) others b text is_lower = (λ h. there h.0 text h.1.0 h.1.1 h.1.2, back)
  where
    same : low_by mapping c ≡ c
    same = cc

    there : (cut : ℕ) (text : List ℕ) → cut ≤ length (b ∷ text) → Takes mapping (Literal c) (take cut (b ∷ text)) → Matches mapping others (drop cut (b ∷ text))
        → Byte mapping (Literal c) others b text
    there zero text within taken rest = cc
    there (suc zero) text within taken rest = inr (eq-eqb c (low_by mapping b) (let e : low_by mapping b ≡ low_by mapping c = cc in sym (e ∙ same)), rest)
    there (suc (suc k)) [] within taken rest = absurd (omega arith)
    there (suc (suc k)) (y ∷ text) within taken rest = cc

    back : Byte mapping (Literal c) others b text → Matches mapping (Literal c ∷ others) (b ∷ text)
    back h = elim h [ inl e ↦ cc (e.0) | inr m ↦ (1, (omega arith, here m.0, m.1)) ]
      where
        here : eqb c (low_by mapping b) ≡ true → IsSameBy mapping (b ∷ []) (c ∷ [])
        here e = ap (λ n. n ∷ []) (sym (eqb-true c (low_by mapping b) e) ∙ sym same)
Matches-byte mapping AnyByte others b text is_lower = (λ h. there h.0 text h.1.0 h.1.1 h.1.2, back)
  where
    there : (cut : ℕ) (text : List ℕ) → cut ≤ length (b ∷ text) → Takes mapping AnyByte (take cut (b ∷ text)) → Matches mapping others (drop cut (b ∷ text))
        → Byte mapping AnyByte others b text
    there zero text within taken rest = absurd (omega arith)
    there (suc zero) text within taken rest = inr (refl, rest)
    there (suc (suc k)) [] within taken rest = absurd (omega arith)
    there (suc (suc k)) (y ∷ text) within taken rest = absurd (omega arith)

    back : Byte mapping AnyByte others b text → Matches mapping (AnyByte ∷ others) (b ∷ text)
    back h = elim h [ inl e ↦ cc (e.0) | inr m ↦ (1, (omega arith, refl, m.1)) ]
Matches-byte mapping AnyText others b text is_lower = (λ h. there h.0 h.1.0 h.1.2, back)
  where
    there : (cut : ℕ) → cut ≤ length (b ∷ text) → Matches mapping others (drop cut (b ∷ text)) → Byte mapping AnyText others b text
    there zero within rest = inl (refl, rest)
    there (suc k) within rest = inr (refl, (k, (omega arith, tt, rest)))

    back : Byte mapping AnyText others b text → Matches mapping (AnyText ∷ others) (b ∷ text)
    back h = elim h [ inl m ↦ (0, (omega arith, tt, m.1)) | inr m ↦ (suc m.1.0, (omega (arith, m.1.1.0), tt, m.1.1.2)) ]
Matches-byte mapping NoSpace others b text is_lower = (λ h. there h.0 h.1.0 h.1.1 h.1.2, back)
  where
    there : (cut : ℕ) → cut ≤ length (b ∷ text) → Takes mapping NoSpace (take cut (b ∷ text)) → Matches mapping others (drop cut (b ∷ text)) → Byte mapping NoSpace others b text
    there zero within taken rest = inl (refl, rest)
    there (suc k) within taken rest =
        inr (not_space (λ e. taken 0 0 (omega arith) (low_by-space mapping b e)), (k, (omega arith, (λ j d lt. taken (suc j) d (omega arith)), rest)))
      where
        not_space : (low_by mapping b ≡ 32 → ⊥) → not (eqb (low_by mapping b) 32) ≡ true
        not_space other = ap not (other_eqb other)
          where
            other_eqb : (low_by mapping b ≡ 32 → ⊥) → eqb (low_by mapping b) 32 ≡ false
            other_eqb other = ne_eqb (low_by mapping b) 32 other

    back : Byte mapping NoSpace others b text → Matches mapping (NoSpace ∷ others) (b ∷ text)
    back h = elim h [ inl m ↦ (0, (omega arith, (λ j d lt. absurd (omega arith)), m.1)) | inr m ↦ longer m.0 m.1 ]
      where
        front : (k : ℕ) → not (eqb (low_by mapping b) 32) ≡ true → All (λ c. c ≢ 32) (take k text) → All (λ c. c ≢ 32) (b ∷ take k text)
        front k other all zero d lt = λ e. true≢false (sym other ∙ ap (λ n. not (eqb (low_by mapping n) 32)) e)
        front k other all (suc j) d lt = all j d (omega arith)

        longer : not (eqb (low_by mapping b) 32) ≡ true → Matches mapping (NoSpace ∷ others) text → Matches mapping (NoSpace ∷ others) (b ∷ text)
        longer other w = (suc w.0, (omega (arith, w.1.0), front w.0 other w.1.1, w.1.2))
Matches-byte mapping Spaces others b text is_lower = (λ h. there h.0 text h.1.0 h.1.1 h.1.2, back)
  where
    there : (cut : ℕ) (text : List ℕ) → cut ≤ length (b ∷ text) → Takes mapping Spaces (take cut (b ∷ text)) → Matches mapping others (drop cut (b ∷ text))
        → Byte mapping Spaces others b text
    there zero text within taken rest = absurd (omega (arith, taken.0))
    there (suc zero) text within taken rest = inr (space (taken.1 0 0 (omega arith)), inr rest)
      where
        space : b ≡ 32 → eqb (low_by mapping b) 32 ≡ true
        space e = ap (λ n. eqb (low_by mapping n) 32) e
    there (suc (suc k)) text within taken rest =
        inr (space (taken.1 0 0 (omega arith)), inl (suc k, (omega arith, (some, λ j d lt. taken.1 (suc j) d (omega arith)), rest)))
      where
        space : b ≡ 32 → eqb (low_by mapping b) 32 ≡ true
        space e = ap (λ n. eqb (low_by mapping n) 32) e

        some : 0 < length (take (suc k) text)
        some = omega (arith, length-take-le (suc k) text (omega arith))

    back : Byte mapping Spaces others b text → Matches mapping (Spaces ∷ others) (b ∷ text)
    back h = elim h [ inl e ↦ cc (e.0) | inr m ↦ elim m.1 [ inl w ↦ longer (is_space m.0) w | inr rest ↦ shortest (is_space m.0) rest ] ]
      where
        is_space : eqb (low_by mapping b) 32 ≡ true → b ≡ 32
        is_space e = low_by-space mapping b (eqb-true (low_by mapping b) 32 e)

        front : (k : ℕ) → b ≡ 32 → All (λ c. c ≡ 32) (take k text) → All (λ c. c ≡ 32) (b ∷ take k text)
        front k here all zero d lt = here
        front k here all (suc j) d lt = all j d (omega arith)

        longer : b ≡ 32 → Matches mapping (Spaces ∷ others) text → Matches mapping (Spaces ∷ others) (b ∷ text)
        longer here w = (suc w.0, (omega (arith, w.1.0), (omega arith, front w.0 here w.1.1.1), w.1.2))

        shortest : b ≡ 32 → Matches mapping others text → Matches mapping (Spaces ∷ others) (b ∷ text)
        shortest here rest = (1, (omega arith, (omega arith, front 0 here (λ j d lt. absurd (omega arith))), rest))

-- an item and others match the empty text where the item takes nothing
pub Matches-nil : (mapping : Casemapping) (item : Item) (others : List Item) → Matches mapping (item ∷ others) [] ↔ ((may_be_empty item ≡ true) × Matches mapping others [])
Matches-nil mapping (Literal c) others = (λ h. there h.0 h.1.1, λ h. cc (h.0))
  where
    there : (cut : ℕ) → Takes mapping (Literal c) (take cut []) → (may_be_empty (Literal c) ≡ true) × Matches mapping others []
    there zero taken = cc
    there (suc k) taken = cc
Matches-nil mapping AnyByte others = (λ h. there h.0 h.1.1, λ h. cc (h.0))
  where
    there : (cut : ℕ) → Takes mapping AnyByte (take cut []) → (may_be_empty AnyByte ≡ true) × Matches mapping others []
    there zero taken = absurd (omega arith)
    there (suc k) taken = absurd (omega arith)
Matches-nil mapping AnyText others = (λ h. there h.0 h.1.2, λ h. (0, (omega arith, tt, h.1)))
  where
    there : (cut : ℕ) → Matches mapping others (drop cut []) → (may_be_empty AnyText ≡ true) × Matches mapping others []
    there zero rest = (refl, rest)
    there (suc k) rest = (refl, rest)
Matches-nil mapping NoSpace others = (λ h. there h.0 h.1.2, λ h. (0, (omega arith, (λ j d lt. absurd (omega arith)), h.1)))
  where
    there : (cut : ℕ) → Matches mapping others (drop cut []) → (may_be_empty NoSpace ≡ true) × Matches mapping others []
    there zero rest = (refl, rest)
    there (suc k) rest = (refl, rest)
Matches-nil mapping Spaces others = (λ h. there h.0 h.1.1, λ h. cc (h.0))
  where
    there : (cut : ℕ) → Takes mapping Spaces (take cut []) → (may_be_empty Spaces ≡ true) × Matches mapping others []
    there zero some = absurd (omega (arith, some.0))
    there (suc k) some = absurd (omega (arith, some.0))

-- an item that may take nothing and others match what the others match
pub Matches-skip : (mapping : Casemapping) (item : Item) (others : List Item) (text : List ℕ) → may_be_empty item ≡ true → Matches mapping others text → Matches mapping (item ∷ others) text
Matches-skip mapping (Literal c) others text empty rest = cc
Matches-skip mapping AnyByte others text empty rest = cc
Matches-skip mapping AnyText others text empty rest = (0, (omega arith, tt, rest))
Matches-skip mapping NoSpace others text empty rest = (0, (omega arith, (λ j d lt. absurd (omega arith)), rest))
Matches-skip mapping Spaces others text empty rest = cc

-- ---- stars

-- what some items of a list match ends with what the others match
pub Matches-drop : (mapping : Casemapping) (n : ℕ) (items : List Item) (text : List ℕ) → Matches mapping items text → (c : ℕ) × ((c ≤ length text) × Matches mapping (drop n items) (drop c text))
Matches-drop mapping zero items text m = (0, (omega arith, m))
Matches-drop mapping (suc n) [] text m = (0, (omega arith, m))
Matches-drop mapping (suc n) (item ∷ items) text m =
    let others = Matches-drop mapping n items (drop m.0 text) m.1.2 in
    let long : length (drop m.0 text) ≡ length text - m.0 = length-drop m.0 text in
    (m.0 + others.0, (omega (arith, others.1.0, m.1.0), subst (Matches mapping (drop n items)) (drop-drop others.0 m.0 text) others.1.1))

-- a star takes what stands before a text that it matches with others
pub star_takes_more : (mapping : Casemapping) (others : List Item) (text : List ℕ) (c : ℕ) → c ≤ length text → Matches mapping (AnyText ∷ others) (drop c text)
    → Matches mapping (AnyText ∷ others) text
star_takes_more mapping others text c within m =
    let long : length (drop c text) ≡ length text - c = length-drop c text in
    (c + m.0, (omega (arith, m.1.0), tt, subst (Matches mapping others) (drop-drop m.0 c text) m.1.2))

-- so whatever matches from a place before a star matches from the star
pub star_is_enough : (mapping : Casemapping) (items others : List Item) (q p : ℕ) (text : List ℕ) → q ≤ p → drop p items ≡ AnyText ∷ others → Matches mapping (drop q items) text
    → Matches mapping (drop p items) text
star_is_enough mapping items others q p text before star m =
    let later = Matches-drop mapping (p - q) (drop q items) text m in
    let at : q + (p - q) ≡ p = omega arith in
    let same : drop (p - q) (drop q items) ≡ AnyText ∷ others = drop-drop (p - q) q items ∙ ap (λ i. drop i items) at ∙ star in
    subst (λ xs. Matches mapping xs text) (sym star) (star_takes_more mapping others text later.0 later.1.0 (subst (λ xs. Matches mapping xs (drop later.0 text)) same later.1.1))

-- ---- lists of items

-- a cut of a text before which the ones match, and after which the others do
abbrev pub Cut : Casemapping → List Item → List Item → List ℕ → Type 0
Cut mapping xs ys text = (c : ℕ) × ((c ≤ length text) × Matches mapping xs (take c text) × Matches mapping ys (drop c text))

pub Matches-append : (mapping : Casemapping) (xs ys : List Item) (text : List ℕ) → Matches mapping (xs ++ ys) text ↔ Cut mapping xs ys text
Matches-append mapping [] ys text = (λ m. (0, (omega arith, refl, m)), λ w. back w.0 w.1.0 w.1.1 w.1.2)
  where
    back : (c : ℕ) → c ≤ length text → take c text ≡ [] → Matches mapping ys (drop c text) → Matches mapping ys text
    back zero within none m = m
    back (suc c) within none m = absurd (omega (arith, length-take-le (suc c) text within, ap length none))
Matches-append mapping (x ∷ xs) ys text = (
  λ m. there m.0 m.1.0 m.1.1 ((Matches-append mapping xs ys (drop m.0 text)).0 m.1.2),
  λ w. back (λ k. (Matches-append mapping xs ys (drop k text)).1) w.0 w.1.0 w.1.1.0 w.1.1.1.0 w.1.1.1.1 w.1.1.1.2 w.1.2,
)
  where
    there : (k : ℕ) → k ≤ length text → Takes mapping x (take k text) → Cut mapping xs ys (drop k text) → Cut mapping (x ∷ xs) ys text
    there k within taken w =
        let long : length (drop k text) ≡ length text - k = length-drop k text in
        let inside : k + w.0 ≤ length text = omega (arith, w.1.0) in
        let short : length (take (k + w.0) text) ≡ k + w.0 = length-take-le (k + w.0) text inside in (
          k + w.0,
          (
            inside,
            (k, (omega arith, subst (Takes mapping x) (sym (take-take k (k + w.0) text (omega arith))) taken, subst (Matches mapping xs) (sym (drop-take k w.0 text)) w.1.1)),
            subst (Matches mapping ys) (drop-drop w.0 k text) w.1.2,
          ),
        )

    back : ((k : ℕ) → Cut mapping xs ys (drop k text) → Matches mapping (xs ++ ys) (drop k text)) → (c : ℕ) → c ≤ length text → (k : ℕ) → k ≤ length (take c text)
        → Takes mapping x (take k (take c text)) → Matches mapping xs (drop k (take c text)) → Matches mapping ys (drop c text) → Matches mapping ((x ∷ xs) ++ ys) text
    back joined c within k early taken m rest =
        let short : length (take c text) ≡ c = length-take-le c text within in
        let long : length (drop k text) ≡ length text - k = length-drop k text in
        let at : k + (c - k) ≡ c = omega arith in
        let middle : drop k (take c text) ≡ take (c - k) (drop k text) = ap (λ i. drop k (take i text)) (sym at) ∙ drop-take k (c - k) text in
        let end : drop (c - k) (drop k text) ≡ drop c text = drop-drop (c - k) k text ∙ ap (λ i. drop i text) at in (
          k,
          (
            omega arith,
            subst (Takes mapping x) (take-take k c text (omega arith)) taken,
            joined k (c - k, (omega arith, subst (Matches mapping xs) middle m, subst (Matches mapping ys) (sym end) rest)),
          ),
        )

-- an item that takes just one byte takes texts of one byte alone
pub takes_one-length : (mapping : Casemapping) (item : Item) (piece : List ℕ) → takes_one item ≡ true → Takes mapping item piece → length piece ≡ 1
takes_one-length mapping (Literal b) [] one taken = cc
takes_one-length mapping (Literal b) (x ∷ []) one taken = refl
takes_one-length mapping (Literal b) (x ∷ y ∷ piece) one taken = cc
takes_one-length mapping AnyByte piece one taken = taken
takes_one-length mapping AnyText piece one taken = cc
takes_one-length mapping NoSpace piece one taken = cc
takes_one-length mapping Spaces piece one taken = cc

-- such items take a text of as many bytes
pub AllOne-length : (mapping : Casemapping) (items : List Item) (text : List ℕ) → AllOne items → Matches mapping items text → length text ≡ length items
AllOne-length mapping [] text one m = ap length m
AllOne-length mapping (item ∷ items) text one m =
    let first : length (take m.0 text) ≡ 1 = takes_one-length mapping item (take m.0 text) one.0 m.1.1 in
    let rest : length (drop m.0 text) ≡ length items = AllOne-length mapping items (drop m.0 text) one.1 m.1.2 in
    omega (arith, length-take-le m.0 text m.1.0, length-drop m.0 text, m.1.0)

-- a run of them and others match where the run matches the front
pub run_first : (mapping : Casemapping) (run others : List Item) (text : List ℕ) → AllOne run
    → Matches mapping (run ++ others) text ↔ ((length run ≤ length text) × Matches mapping run (take (length run) text) × Matches mapping others (drop (length run) text))
run_first mapping run others text one = (λ m. there ((Matches-append mapping run others text).0 m), λ h. (Matches-append mapping run others text).1 (length run, (h.0, h.1, h.2)))
  where
    there : Cut mapping run others text → (length run ≤ length text) × Matches mapping run (take (length run) text) × Matches mapping others (drop (length run) text)
    there w =
        let at : w.0 ≡ length run = sym (length-take-le w.0 text w.1.0) ∙ AllOne-length mapping run (take w.0 text) one w.1.1 in
        (omega (arith, w.1.0), subst (λ i. Matches mapping run (take i text)) at w.1.1, subst (λ i. Matches mapping others (drop i text)) at w.1.2)

-- and others and a run where the run matches the end
pub run_last : (mapping : Casemapping) (others run : List Item) (text : List ℕ) → AllOne run
    → Matches mapping (others ++ run) text ↔ ((length run ≤ length text) × Matches mapping others (take (length text - length run) text)
    × Matches mapping run (drop (length text - length run) text))
run_last mapping others run text one = (
  λ m. there ((Matches-append mapping others run text).0 m),
  λ h. (Matches-append mapping others run text).1 (length text - length run, (omega (arith, h.0), h.1, h.2)),
)
  where
    there : Cut mapping others run text → (length run ≤ length text) × Matches mapping others (take (length text - length run) text)
        × Matches mapping run (drop (length text - length run) text)
    there w =
        let left : length text - w.0 ≡ length run = sym (length-drop w.0 text) ∙ AllOne-length mapping run (drop w.0 text) one w.1.2 in
        let at : w.0 ≡ length text - length run = omega (arith, w.1.0) in
        (omega (arith, w.1.0), subst (λ i. Matches mapping others (take i text)) at w.1.1, subst (λ i. Matches mapping run (drop i text)) at w.1.2)

-- ---- a run between two stars

-- where the text is shorter than the run, nothing matches
pub run_too_long : (mapping : Casemapping) (run others : List Item) (text : List ℕ) → AllOne run → length text < length run → Matches mapping (AnyText ∷ run ++ others) text → ⊥
run_too_long mapping run others text one short m =
    let at = (run_first mapping run others (drop m.0 text) one).0 m.1.2 in
    absurd (omega (arith, at.0, length-drop m.0 text))

-- where the run does not match the front, the star takes a byte
pub run_misses : (mapping : Casemapping) (run others : List Item) (b : ℕ) (text : List ℕ) → AllOne run → (Matches mapping run (take (length run) (b ∷ text)) → ⊥)
    → Matches mapping (AnyText ∷ run ++ others) (b ∷ text) ↔ Matches mapping (AnyText ∷ run ++ others) text
run_misses mapping run others b text one miss = (
  λ m. elim
      ((Matches-byte mapping AnyText (run ++ others) b text refl).0 m) [
        | inl here ↦ absurd (miss ((run_first mapping run others (b ∷ text) one).0 here.1).1)
        | inr later ↦ later.1
      ],
  λ m. star_takes_more mapping (run ++ others) (b ∷ text) 1 (omega arith) m,
)

-- where it does, the next star takes what the first one would
pub run_hits : (mapping : Casemapping) (run others : List Item) (text : List ℕ) → AllOne run → length run ≤ length text → Matches mapping run (take (length run) text)
    → Matches mapping (AnyText ∷ run ++ AnyText ∷ others) text ↔ Matches mapping (AnyText ∷ others) (drop (length run) text)
run_hits mapping run others text one within here = (there, λ m. (0, (omega arith, tt, (run_first mapping run (AnyText ∷ others) text one).1 (within, here, m))))
  where
    there : Matches mapping (AnyText ∷ run ++ AnyText ∷ others) text → Matches mapping (AnyText ∷ others) (drop (length run) text)
    there m =
        let at = (run_first mapping run (AnyText ∷ others) (drop m.0 text) one).0 m.1.2 in
        let order : m.0 + length run ≡ length run + m.0 = omega arith in
        let same : drop (length run) (drop m.0 text) ≡ drop m.0 (drop (length run) text) = drop-drop (length run) m.0 text
        ∙ ap (λ i. drop i text) order ∙ sym (drop-drop m.0 (length run) text) in
        star_takes_more mapping others (drop (length run) text) m.0 (omega (arith, at.0, m.1.0, length-drop m.0 text, length-drop (length run) text))
        (subst (Matches mapping (AnyText ∷ others)) same at.2)

-- ---- what matches by a server's casemapping matches by RFC 2812

pub Takes-wider : (mapping : Casemapping) (item : Item) (text : List ℕ) → Takes mapping item text → Takes Rfc1459 item text
Takes-wider mapping (Literal b) text taken = IsSame-from mapping text (b ∷ []) taken
Takes-wider mapping AnyByte text taken = taken
Takes-wider mapping AnyText text taken = taken
Takes-wider mapping NoSpace text taken = taken
Takes-wider mapping Spaces text taken = taken

pub Matches-wider : (mapping : Casemapping) (items : List Item) (text : List ℕ) → Matches mapping items text → Matches Rfc1459 items text
Matches-wider mapping [] text m = m
Matches-wider mapping (item ∷ items) text m = (m.0, (m.1.0, Takes-wider mapping item _ m.1.1, Matches-wider mapping items _ m.1.2))
