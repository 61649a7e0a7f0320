-- A set of places moved over a text: what one place more, one byte more and the end of the text make of it.
use Rattle.std.proofs.Common.{◌≡◌, ◌≢◌, ◌↔◌, ◌⊎◌, ℕ, zero, suc, ◌+◌, ◌-◌, ◌<◌, ◌≤◌, true, false, List, [], ◌∷◌, length, drop, get_or, ◌*◌, refl, sym, subst, ap, ◌∙◌, arith, inl, inr, true≢false, add-one}
use Rattle.std.specs.Int.{bit_at}
use Rattle.std.proofs.lemmas.List.{length-map, drop_more, drop_all, get_or-map}
use Rattle.std.proofs.lemmas.Bool.{cases_eq, cases_lt, cases_order}
use Rattle.std.proofs.lemmas.Nat.Bits.{bit_at-zero}
use Rattle.std.proofs.Math.Nat.{mul-suc}
use Rattle.rfccase.specs.Casemapping.{low_by}
use Rattle.rfccase.specs.declared.casemappings.Casemapping.{Casemapping}
use Rattle.wildmask.specs.declared.items.Item.{Item}
use Rattle.wildmask.specs.declared.items.Item.TheVariants.{Literal, AnyByte, AnyText, NoSpace, Spaces}
use Rattle.wildmask.specs.Codes.{lower, decoded, items_in}
use Rattle.wildmask.specs.Matching.{Matches}
use Rattle.wildmask.specs.Walks.{MatchesFrom, MatchesAfter, IsClosed, AllLower, may_be_empty, takes_byte, takes_one}
use Rattle.wildmask.proofs.MatchLemmas.{Byte, Matches-byte, Matches-nil, Matches-skip, star_is_enough}

-- ---- items at a place

pub at_place : (items : List Item) (p : ℕ) → p < length items → drop p items ≡ get_or items p AnyByte ∷ drop (p + 1) items
at_place items p within = drop_more items p AnyByte within

pub item_at : (codes : List ℕ) (p : ℕ) → p < length codes → get_or (items_in codes) p AnyByte ≡ decoded (get_or codes p 0)
item_at codes p within = get_or-map decoded codes p 0 AnyByte within

pub code_at_place : (codes : List ℕ) (p : ℕ) → p < length codes → drop p (items_in codes) ≡ decoded (get_or codes p 0) ∷ drop (p + 1) (items_in codes)
code_at_place codes p within = at_place (items_in codes) p (omega (arith, length-map codes decoded))
    ∙ ap (λ i. i ∷ drop (p + 1) (items_in codes)) (item_at codes p within)

pub AllLower-at : (mapping : Casemapping) (items : List Item) (p : ℕ) → AllLower mapping items → p < length items → lower mapping (get_or items p AnyByte) ≡ get_or items p AnyByte
AllLower-at mapping [] p all within = absurd (omega arith)
AllLower-at mapping (item ∷ items) zero all within = all.0
AllLower-at mapping (item ∷ items) (suc p) all within = AllLower-at mapping items p all.1 (omega arith)

-- ---- no place, and one place more

abbrev pub Some : Casemapping → List Item → ℕ → List ℕ → Type 0
Some mapping items places text = MatchesFrom mapping 0 items places text

pub none_matches : (mapping : Casemapping) (items : List Item) (text : List ℕ) → Some mapping items 0 text → ⊥
none_matches mapping items text m = absurd (omega (arith, m.1.2, bit_at-zero m.0))

pub none_closed : (items : List Item) → IsClosed items 0
none_closed items p within on empty = absurd (omega (arith, on, bit_at-zero p))

-- the places of a set with one more
abbrev pub IsWith : ℕ → ℕ → ℕ → Type 0
IsWith new old at = (q : ℕ) → (bit_at new q ≡ 1) ↔ ((bit_at old q ≡ 1) ⊎ (q ≡ at))

pub one_more : (mapping : Casemapping) (items : List Item) (new old at : ℕ) → IsWith new old at → at ≤ length items → (text : List ℕ)
    → Some mapping items new text ↔ (Some mapping items old text ⊎ Matches mapping (drop at items) text)
one_more mapping items new old at is within text = (
  λ m. there m ((is m.0).0 m.1.2),
  λ h. elim h [ inl m ↦ (m.0, (m.1.0, m.1.1, (is m.0).1 (inl m.1.2), m.1.3)) | inr m ↦ (at, (omega arith, within, (is at).1 (inr refl), m)) ],
)
  where
    there : (m : Some mapping items new text) → ((bit_at old m.0 ≡ 1) ⊎ (m.0 ≡ at)) → Some mapping items old text ⊎ Matches mapping (drop at items) text
    there m h = elim h [ inl on ↦ inl (m.0, (m.1.0, m.1.1, on, m.1.3)) | inr same ↦ inr (subst (λ i. Matches mapping (drop i items) text) same m.1.3) ]

-- closed but at one place
abbrev pub IsClosedBut : ℕ → List Item → ℕ → Type 0
IsClosedBut at items places = (p : ℕ) → p < length items → p ≢ at → bit_at places p ≡ 1 → may_be_empty (get_or items p AnyByte) ≡ true
    → bit_at places (p + 1) ≡ 1

pub closed_but : (items : List Item) (new old at : ℕ) → IsWith new old at → IsClosed items old → IsClosedBut at items new
closed_but items new old at is closed p within other on empty =
    elim ((is p).0 on) [ inl was ↦ (is (p + 1)).1 (inl (closed p within was empty)) | inr same ↦ absurd (other same) ]

pub closed_but_next : (items : List Item) (new old at : ℕ) → IsWith new old (at + 1) → IsClosedBut at items old → IsClosedBut (at + 1) items new
closed_but_next items new old at is closed p within other on empty =
    elim (cases_eq p at) [ inl same ↦ (is (p + 1)).1 (inr (ap (λ i. i + 1) same)) | inr apart ↦ later apart ]
  where
    later : p ≢ at → bit_at new (p + 1) ≡ 1
    later apart = elim ((is p).0 on) [ inl was ↦ (is (p + 1)).1 (inl (closed p within apart was empty)) | inr same ↦ absurd (other same) ]

pub closed_at_last : (items : List Item) (places at : ℕ) → IsClosedBut at items places
    → (at < length items → may_be_empty (get_or items at AnyByte) ≡ true → ⊥) → IsClosed items places
closed_at_last items places at closed fixed p within on empty =
    elim (cases_eq p at) [
      | inl same ↦ absurd (fixed (omega (arith, within, same))
          (subst (λ i. may_be_empty (get_or items i AnyByte) ≡ true) same empty))
      | inr apart ↦ closed p within apart on empty
    ]

-- where the item at a place of the set may take nothing, the next place adds no text
pub skipped : (mapping : Casemapping) (items : List Item) (new old at : ℕ) → IsWith new old (at + 1) → at < length items → bit_at old at ≡ 1
    → may_be_empty (get_or items at AnyByte) ≡ true → (text : List ℕ) → Some mapping items new text ↔ Some mapping items old text
skipped mapping items new old at is within on empty text = (λ m. elim (more.0 m) [ inl old ↦ old | inr next ↦ here next ], λ m. more.1 (inl m))
  where
    more : Some mapping items new text ↔ (Some mapping items old text ⊎ Matches mapping (drop (at + 1) items) text)
    more = one_more mapping items new old (at + 1) is (omega arith) text

    here : Matches mapping (drop (at + 1) items) text → Some mapping items old text
    here next = (
      at,
      (
        omega arith,
        omega arith,
        on,
        subst (λ xs. Matches mapping xs text) (sym (at_place items at within))
            (Matches-skip mapping _ (drop (at + 1) items) text empty next),
      ),
    )

-- ---- the end of the text

pub closed_end : (mapping : Casemapping) (items : List Item) (places k p : ℕ) → IsClosed items places → p + k ≡ length items → bit_at places p ≡ 1 → Matches mapping (drop p items) []
    → bit_at places (length items) ≡ 1
closed_end mapping items places zero p closed end on m = let e : p ≡ length items = omega arith in subst (λ i. bit_at places i ≡ 1) e on
closed_end mapping items places (suc k) p closed end on m =
    let within : p < length items = omega arith in
    let nil = (Matches-nil mapping (get_or items p AnyByte) (drop (p + 1) items)).0 (subst (λ xs. Matches mapping xs []) (at_place items p within) m) in
    closed_end mapping items places k (p + 1) closed (omega arith) (closed p within on nil.0) nil.1

pub some_at_end : (mapping : Casemapping) (items : List Item) (places : ℕ) → IsClosed items places → (bit_at places (length items) ≡ 1) ↔ Some mapping items places []
some_at_end mapping items places closed = (
  λ on. (length items, (omega arith, omega arith, on, subst (λ xs. Matches mapping xs []) (sym (drop_all (length items) items (omega arith))) refl)),
  λ m. closed_end mapping items places (length items - m.0) m.0 closed (omega (arith, m.1.1)) m.1.2 m.1.3,
)

-- ---- one byte more

-- what is left after an item took a byte begins at the item or at the next
pub after_byte : (mapping : Casemapping) (item : Item) (others : List Item) (text : List ℕ) → MatchesAfter mapping item others text → Matches mapping (item ∷ others) text ⊎ Matches mapping others text
after_byte mapping (Literal b) others text m = inr m
after_byte mapping AnyByte others text m = inr m
after_byte mapping AnyText others text m = inl m
after_byte mapping NoSpace others text m = inl m
after_byte mapping Spaces others text m = m

-- of the places from one on, those before another are none
abbrev pub NoneBetween : ℕ → ℕ → ℕ → Type 0
NoneBetween places from at = (q : ℕ) → from ≤ q → q < at → bit_at places q ≡ 0

-- each star from a place on matches what the places so far match
abbrev pub StarsCover : Casemapping → ℕ → List Item → ℕ → Type 0
StarsCover mapping from items places = (p : ℕ) → from ≤ p → p < length items → get_or items p AnyByte ≡ AnyText → (text : List ℕ) → Some mapping items places text
    → Matches mapping (drop p items) text

-- what the moves of the item at a place add
abbrev pub Moved : Casemapping → List Item → ℕ → ℕ → ℕ → ℕ → Type 0
Moved mapping items lower at old new = (text : List ℕ) → Some mapping items new text
    ↔ (Some mapping items old text ⊎ ((takes_byte (get_or items at AnyByte) lower ≡ true) × MatchesAfter mapping (get_or items at AnyByte) (drop (at + 1) items) text))

pub one_place : (mapping : Casemapping) (items : List Item) (places from at b : ℕ) (text : List ℕ) → AllLower mapping items → IsClosed items places → from ≤ at → at < length items
    → bit_at places at ≡ 1 → NoneBetween places from at
    → MatchesFrom mapping from items places (b ∷ text) ↔ (MatchesFrom mapping (at + 1) items places (b ∷ text)
    ⊎ ((takes_byte (get_or items at AnyByte) (low_by mapping b) ≡ true) × MatchesAfter mapping (get_or items at AnyByte) (drop (at + 1) items) text))
one_place mapping items places from at b text all closed late within on none = (
  there,
  λ h. elim h [
    | inl m ↦ (m.0, (omega (arith, m.1.0), m.1.1, m.1.2, m.1.3))
    | inr taken ↦ (at, (late, omega arith, on, subst (λ xs. Matches mapping xs (b ∷ text)) (sym (at_place items at within)) (byte.1 (inr taken))))
  ],
)
  where
    byte : Matches mapping (get_or items at AnyByte ∷ drop (at + 1) items) (b ∷ text) ↔ Byte mapping (get_or items at AnyByte) (drop (at + 1) items) b text
    byte = Matches-byte mapping (get_or items at AnyByte) (drop (at + 1) items) b text (AllLower-at mapping items at all within)

    here : Matches mapping (drop at items) (b ∷ text) → MatchesFrom mapping (at + 1) items places (b ∷ text)
        ⊎ ((takes_byte (get_or items at AnyByte) (low_by mapping b) ≡ true) × MatchesAfter mapping (get_or items at AnyByte) (drop (at + 1) items) text)
    here m = elim (byte.0 (subst (λ xs. Matches mapping xs (b ∷ text)) (at_place items at within) m))
        [ inl skip ↦ inl (at + 1, (omega arith, omega arith, closed at within on skip.0, skip.1)) | inr taken ↦ inr taken ]

    there : MatchesFrom mapping from items places (b ∷ text)
        → MatchesFrom mapping (at + 1) items places (b ∷ text)
        ⊎ ((takes_byte (get_or items at AnyByte) (low_by mapping b) ≡ true) × MatchesAfter mapping (get_or items at AnyByte) (drop (at + 1) items) text)
    there m = elim (cases_order m.0 at) [
      | inl same ↦ here (subst (λ i. Matches mapping (drop i items) (b ∷ text)) same m.1.3)
      | inr apart ↦ elim apart [
        | inl before ↦ absurd (omega (arith, none m.0 m.1.0 before, m.1.2))
        | inr after ↦ inl (m.0, (omega (arith, after), m.1.1, m.1.2, m.1.3))
      ]
    ]

-- the moves of the first place that is left
pub moves_one : (mapping : Casemapping) (items : List Item) (places from at b old new : ℕ) (text : List ℕ) → AllLower mapping items → IsClosed items places → from ≤ at
    → at < length items → bit_at places at ≡ 1 → NoneBetween places from at → Moved mapping items (low_by mapping b) at old new
    → Some mapping items places (b ∷ text) ↔ (MatchesFrom mapping from items places (b ∷ text) ⊎ Some mapping items old text)
    → Some mapping items places (b ∷ text) ↔ (MatchesFrom mapping (at + 1) items places (b ∷ text) ⊎ Some mapping items new text)
moves_one mapping items places from at b old new text all closed late within on none moved so_far = (λ m. there (so_far.0 m), λ h. so_far.1 (back h))
  where
    first : MatchesFrom mapping from items places (b ∷ text)
        ↔ (MatchesFrom mapping (at + 1) items places (b ∷ text)
        ⊎ ((takes_byte (get_or items at AnyByte) (low_by mapping b) ≡ true) × MatchesAfter mapping (get_or items at AnyByte) (drop (at + 1) items) text))
    first = one_place mapping items places from at b text all closed late within on none

    there : MatchesFrom mapping from items places (b ∷ text) ⊎ Some mapping items old text → MatchesFrom mapping (at + 1) items places (b ∷ text) ⊎ Some mapping items new text
    there h = elim h [
      | inl left ↦ elim (first.0 left) [ inl later ↦ inl later | inr taken ↦ inr ((moved text).1 (inr taken)) ]
      | inr done ↦ inr ((moved text).1 (inl done))
    ]

    back : MatchesFrom mapping (at + 1) items places (b ∷ text) ⊎ Some mapping items new text → MatchesFrom mapping from items places (b ∷ text) ⊎ Some mapping items old text
    back h = elim h [
      | inl later ↦ inl (first.1 (inl later))
      | inr done ↦ elim ((moved text).0 done) [ inl before ↦ inr before | inr taken ↦ inl (first.1 (inr taken)) ]
    ]

pub stars_cover : (mapping : Casemapping) (items : List Item) (from at lower old new : ℕ) → from ≤ at → at < length items → Moved mapping items lower at old new
    → StarsCover mapping from items old → StarsCover mapping (at + 1) items new
stars_cover mapping items from at lower old new late within moved cover p after inside star text m =
    elim ((moved text).0 m) [ inl before ↦ cover p (omega arith) inside star text before | inr taken ↦ reached (after_byte mapping _ _ text taken.1) ]
  where
    at_star : drop p items ≡ AnyText ∷ drop (p + 1) items
    at_star = at_place items p inside ∙ ap (λ i. i ∷ drop (p + 1) items) star

    reached : Matches mapping (get_or items at AnyByte ∷ drop (at + 1) items) text ⊎ Matches mapping (drop (at + 1) items) text → Matches mapping (drop p items) text
    reached h = elim h [
      | inl here ↦ star_is_enough mapping items (drop (p + 1) items) at p text (omega arith) at_star
          (subst (λ xs. Matches mapping xs text) (sym (at_place items at within)) here)
      | inr next ↦ star_is_enough mapping items (drop (p + 1) items) (at + 1) p text (omega arith) at_star next
    ]

-- when no place with an item is left, the moves are all
pub moves_all : (mapping : Casemapping) (items : List Item) (places from b new : ℕ) (text : List ℕ) → NoneBetween places from (length items)
    → Some mapping items places (b ∷ text) ↔ (MatchesFrom mapping from items places (b ∷ text) ⊎ Some mapping items new text) → Some mapping items places (b ∷ text) ↔ Some mapping items new text
moves_all mapping items places from b new text none so_far = (λ m. elim (so_far.0 m) [ inl left ↦ absurd (no_item left) | inr done ↦ done ], λ m. so_far.1 (inr m))
  where
    no_item : MatchesFrom mapping from items places (b ∷ text) → ⊥
    no_item left = elim (cases_lt left.0 (length items)) [
      | inl inside ↦ absurd (omega (arith, none left.0 left.1.0 inside, left.1.2))
      | inr end ↦ past (subst (λ xs. Matches mapping xs (b ∷ text)) (drop_all left.0 items end) left.1.3)
    ]
      where
        past : b ∷ text ≡ [] → ⊥
        past e = cc

-- ---- stars

-- the star at the end matches whatever is left
pub last_star : (mapping : Casemapping) (items : List Item) (places p : ℕ) → p + 1 ≡ length items → get_or items p AnyByte ≡ AnyText → bit_at places p ≡ 1 → (text : List ℕ)
    → Some mapping items places text
last_star mapping items places p last star on text =
    let here : drop p items ≡ AnyText ∷ [] = at_place items p (omega arith) ∙ ap (λ i. i ∷ drop (p + 1) items) star
    ∙ ap (λ xs. AnyText ∷ xs) (drop_all (p + 1) items (omega arith)) in
    (p, (omega arith, omega arith, on, subst (λ xs. Matches mapping xs text) (sym here) (length text, (omega arith, tt, drop_all (length text) text (omega arith)))))

-- ---- the moves of one item, by its kind

pub both : {P Q R : Type 0} → P ↔ Q → Q ↔ R → P ↔ R
both a b = (λ p. b.0 (a.0 p), λ r. a.1 (b.1 r))

abbrev pub Moves : Casemapping → List Item → Item → ℕ → List Item → ℕ → ℕ → Type 0
Moves mapping items item lower others old new = (text : List ℕ)
    → Some mapping items new text ↔ (Some mapping items old text ⊎ ((takes_byte item lower ≡ true) × MatchesAfter mapping item others text))

pub refused_moves : (mapping : Casemapping) (items others : List Item) (item : Item) (lower old : ℕ) → takes_byte item lower ≡ false → Moves mapping items item lower others old old
refused_moves mapping items others item lower old refused text = (λ m. inl m, λ h. elim h [ inl m ↦ m | inr taken ↦ absurd (true≢false (sym taken.0 ∙ refused)) ])

abbrev pub Adds : Casemapping → List Item → Item → List Item → ℕ → ℕ → Type 0
Adds mapping items item others old new = (text : List ℕ) → Some mapping items new text ↔ (Some mapping items old text ⊎ MatchesAfter mapping item others text)

taken_moves : (mapping : Casemapping) (items others : List Item) (item : Item) (lower old new : ℕ) → takes_byte item lower ≡ true → Adds mapping items item others old new
    → Moves mapping items item lower others old new
taken_moves mapping items others item lower old new taken adds text = (
  λ m. elim ((adds text).0 m) [ inl before ↦ inl before | inr after ↦ inr (taken, after) ],
  λ h. elim h [ inl before ↦ (adds text).1 (inl before) | inr after ↦ (adds text).1 (inr after.1) ],
)

-- the texts that a set with the place at matches
abbrev pub WithPlace : Casemapping → List Item → ℕ → ℕ → ℕ → Type 0
WithPlace mapping items at old new = (text : List ℕ) → Some mapping items new text ↔ (Some mapping items old text ⊎ Matches mapping (drop at items) text)

pub moves_on : (mapping : Casemapping) (items : List Item) (item : Item) (at lower old new : ℕ) → takes_one item ≡ true → takes_byte item lower ≡ true
    → WithPlace mapping items (at + 1) old new → Moves mapping items item lower (drop (at + 1) items) old new
moves_on mapping items (Literal b) at lower old new one taken add = taken_moves mapping items (drop (at + 1) items) (Literal b) lower old new taken add
moves_on mapping items AnyByte at lower old new one taken add = taken_moves mapping items (drop (at + 1) items) AnyByte lower old new taken add
moves_on mapping items AnyText at lower old new one taken add = cc
moves_on mapping items NoSpace at lower old new one taken add = cc
moves_on mapping items Spaces at lower old new one taken add = cc

pub star_moves : (mapping : Casemapping) (items : List Item) (at lower old new : ℕ) → drop at items ≡ AnyText ∷ drop (at + 1) items
    → ((text : List ℕ) → Some mapping items old text → Matches mapping (drop at items) text) → WithPlace mapping items at 0 new
    → Moves mapping items AnyText lower (drop (at + 1) items) old new
star_moves mapping items at lower old new here cover add = taken_moves mapping items (drop (at + 1) items) AnyText lower old new refl adds
  where
    adds : Adds mapping items AnyText (drop (at + 1) items) old new
    adds text = (
      λ m. elim ((add text).0 m) [ inl none ↦ absurd (none_matches mapping items text none) | inr star ↦ inr (subst (λ xs. Matches mapping xs text) here star) ],
      λ h. elim h [ inl before ↦ (add text).1 (inr (cover text before)) | inr star ↦ (add text).1 (inr (subst (λ xs. Matches mapping xs text) (sym here) star)) ],
    )

pub no_space_moves : (mapping : Casemapping) (items : List Item) (at lower old new : ℕ) → drop at items ≡ NoSpace ∷ drop (at + 1) items → takes_byte NoSpace lower ≡ true
    → WithPlace mapping items at old new → Moves mapping items NoSpace lower (drop (at + 1) items) old new
no_space_moves mapping items at lower old new here taken add =
    taken_moves mapping items (drop (at + 1) items) NoSpace lower old new taken
    (subst (λ xs. (text : List ℕ) → Some mapping items new text ↔ (Some mapping items old text ⊎ Matches mapping xs text)) here add)

pub spaces_moves : (mapping : Casemapping) (items : List Item) (at lower old middle new : ℕ) → drop at items ≡ Spaces ∷ drop (at + 1) items → takes_byte Spaces lower ≡ true
    → WithPlace mapping items at old middle → WithPlace mapping items (at + 1) middle new → Moves mapping items Spaces lower (drop (at + 1) items) old new
spaces_moves mapping items at lower old middle new here taken first second = taken_moves mapping items (drop (at + 1) items) Spaces lower old new taken adds
  where
    adds : Adds mapping items Spaces (drop (at + 1) items) old new
    adds text = (
      λ m. elim ((second text).0 m) [
        | inl before ↦ elim
            ((first text).0 before) [ inl old ↦ inl old | inr stay ↦ inr (inl (subst (λ xs. Matches mapping xs text) here stay)) ]
        | inr next ↦ inr (inr next)
      ],
      λ h. elim h [
        | inl before ↦ (second text).1 (inl ((first text).1 (inl before)))
        | inr after ↦ elim after [
          | inl stay ↦ (second text).1 (inl ((first text).1 (inr (subst (λ xs. Matches mapping xs text) (sym here) stay))))
          | inr next ↦ (second text).1 (inr next)
        ]
      ],
    )

-- ---- counts

pub one_byte_more : (m i before after old : ℕ) → before ≤ old + m * i → after ≤ before + m → after ≤ old + m * (i + 1)
one_byte_more m i before after old h k = let e : m * (i + 1) ≡ m * i + m = rw (add-one, mul-suc) refl in omega arith
