-- What a mask needs is among what a text has that it matches.
use Rattle.std.proofs.Common.{◌≡◌, ℕ, zero, suc, ◌<◌, ◌≤◌, true, get_or, Option, None, List, [], ◌∷◌, length, take, drop, map, bit_and, bit_or, max, min, refl, sym, subst, ap, ◌==◌, ◌∙◌, arith}
use Rattle.std.proofs.lemmas.List.{drop_all}
use Rattle.std.specs.Int.{bit_at}
use Rattle.std.proofs.lemmas.Bool.{eq-eqb, eqb-true, and_from, and_parts}
use Rattle.std.proofs.lemmas.Nat.Bits.{bit_at_and, bit_at_or, bit_at-zero, same_from_bits}
use Rattle.rfccase.specs.Casemapping.{low, folded}
use Rattle.wildmask.specs.declared.items.Item.{Item}
use Rattle.wildmask.specs.declared.items.Item.TheVariants.{Literal, AnyByte, AnyText, NoSpace, Spaces}
use Rattle.wildmask.specs.Codes.{lower, decoded, items_in}
use Rattle.wildmask.specs.Matching.{Takes, Matches}
use Rattle.wildmask.specs.Signatures.{Pairs, Sums, no_pairs, either, lower_literal, pair_if, pair_of, pairs_of, needed, pairs_needed, items_signature, text_signature, every, is_within, same_pairs}
use Rattle.wildmask.specs.WideSignatures.{WidePairs, no_wide_pairs, is_low, is_high, wide_items_signature, wide_text_signature, is_wide_within}
use Rattle.rfccase.proofs.SameLemmas.{low-low}
use Rattle.rfccase.specs.declared.casemappings.Casemapping.TheVariants.{Rfc1459}

-- each bit of the first is one of the second
abbrev HasBits : ℕ → ℕ → Type 0
HasBits a b = (i : ℕ) → bit_at a i ≤ bit_at b i

bits-and : (a b : ℕ) → HasBits a b → bit_and a b ≡ a
bits-and a b within = same_from_bits (bit_and a b) a (λ i. let h : bit_at a i ≤ bit_at b i =
    within i in let e : bit_at (bit_and a b) i ≡ min (bit_at a i) (bit_at b i) = bit_at_and a b i in omega arith)

bits-zero : (b : ℕ) → HasBits 0 b
bits-zero b i = omega (arith, bit_at-zero i)

bits-or : (a b c : ℕ) → HasBits a c → HasBits b c → HasBits (bit_or a b) c
bits-or a b c left right i = let h : bit_at a i ≤ bit_at c i = left i in let k : bit_at b i ≤ bit_at c i =
    right i in let e : bit_at (bit_or a b) i ≡ max (bit_at a i) (bit_at b i) = bit_at_or a b i in omega arith

bits-left : (a b c : ℕ) → HasBits a b → HasBits a (bit_or b c)
bits-left a b c within i = let h : bit_at a i ≤ bit_at b i = within i in let e : bit_at (bit_or b c) i ≡ max (bit_at b i) (bit_at c i) =
    bit_at_or b c i in omega arith

bits-right : (a b c : ℕ) → HasBits a c → HasBits a (bit_or b c)
bits-right a b c within i = let h : bit_at a i ≤ bit_at c i = within i in let e : bit_at (bit_or b c) i ≡ max (bit_at b i) (bit_at c i) =
    bit_at_or b c i in omega arith

-- each place of the first is one of the second
abbrev pub IsWithin : Pairs → Pairs → Type 0
IsWithin a b = HasBits a.first b.first × HasBits a.second b.second

pub is_within-from : (a b : Pairs) → IsWithin a b → is_within a b ≡ true
is_within-from a b within =
    and_from _ _ (eq-eqb _ _ (bits-and a.first b.first within.0)) (eq-eqb _ _ (bits-and a.second b.second within.1))

pub none_within : (b : Pairs) → IsWithin no_pairs b
none_within b = (bits-zero b.first, bits-zero b.second)

or_within : (a b c : Pairs) → IsWithin a c → IsWithin b c → IsWithin (either a b) c
or_within a b c left right = (bits-or _ _ _ left.0 right.0, bits-or _ _ _ left.1 right.1)

or_left : (a b c : Pairs) → IsWithin a b → IsWithin a (either b c)
or_left a b c within = (bits-left _ _ _ within.0, bits-left _ _ _ within.1)

or_right : (a b c : Pairs) → IsWithin a c → IsWithin a (either b c)
or_right a b c within = (bits-right _ _ _ within.0, bits-right _ _ _ within.1)

within_trans : (a b c : Pairs) → IsWithin a b → IsWithin b c → IsWithin a c
within_trans a b c ab bc = (bits _ _ _ ab.0 bc.0, bits _ _ _ ab.1 bc.1)
  where
    bits : (a b c : ℕ) → HasBits a b → HasBits b c → HasBits a c
    bits a b c ab bc i = let h : bit_at a i ≤ bit_at b i = ab i in let k : bit_at b i ≤ bit_at c i = bc i in omega arith

same_within : (a : Pairs) → IsWithin a a
same_within a = (λ i. omega arith, λ i. omega arith)

-- what the end of a text has the text has
pairs_of-drop : (sums : Sums) (cut : ℕ) (text : List ℕ) → IsWithin (pairs_of sums (folded (drop cut text))) (pairs_of sums (folded text))
pairs_of-drop sums zero text = same_within (pairs_of sums (folded text))
pairs_of-drop sums (suc cut) [] = same_within no_pairs
pairs_of-drop sums (suc cut) (x ∷ []) = by cut
  where
    by : (cut : ℕ) → IsWithin (pairs_of sums (folded (drop cut []))) no_pairs
    by zero = same_within no_pairs
    by (suc cut) = same_within no_pairs
pairs_of-drop sums (suc cut) (x ∷ y ∷ text) =
    or_right _ (pair_if sums (low x) (low y)) (pairs_of sums (folded (y ∷ text))) (pairs_of-drop sums cut (y ∷ text))

-- two literals in front of a mask that matches are a pair of the text
first_pair : (sums : Sums) (a b : ℕ) (items : List Item) (text : List ℕ) → Matches Rfc1459 (Literal a ∷ Literal b ∷ items) text
    → IsWithin (pair_if sums (low a) (low b)) (pairs_of sums (folded text))
first_pair sums a b items text m = by text m.0 m.1.0 m.1.1 m.1.2.0 m.1.2.1.0 m.1.2.1.1
  where
    by : (text : List ℕ) (k : ℕ) → k ≤ length text → Takes Rfc1459 (Literal a) (take k text) → (j : ℕ) → j ≤ length (drop k text)
        → Takes Rfc1459 (Literal b) (take j (drop k text)) → IsWithin (pair_if sums (low a) (low b)) (pairs_of sums (folded text))
    by [] zero within first j early second = cc
    by [] (suc k) within first j early second = absurd (omega arith)
    by (x ∷ text) zero within first j early second = cc
    by (x ∷ []) (suc zero) within first zero early second = cc
    by (x ∷ []) (suc zero) within first (suc j) early second = absurd (omega arith)
    by (x ∷ y ∷ text) (suc zero) within first zero early second = cc
    by (x ∷ y ∷ text) (suc zero) within first (suc j) early second =
        let e : low x ≡ low a = cc in
        let f : low y ≡ low b = cc in
        subst (λ (n : Pairs). IsWithin n (pairs_of sums (folded (x ∷ y ∷ text)))) (ap (λ i. pair_if sums i (low y)) e ∙ ap (λ i. pair_if sums (low a) i) f)
        (or_left _ (pair_if sums (low x) (low y)) (pairs_of sums (folded (y ∷ text))) (same_within (pair_if sums (low x) (low y))))
    by (x ∷ []) (suc (suc k)) within first j early second = absurd (omega arith)
    by (x ∷ y ∷ text) (suc (suc k)) within first j early second = cc

needed_within : (sums : Sums) (x y : Item) (items : List Item) (text : List ℕ) → Matches Rfc1459 (x ∷ y ∷ items) text → IsWithin (needed sums x y) (pairs_of sums (folded text))
needed_within sums (Literal a) (Literal b) items text m = first_pair sums a b items text m
needed_within sums (Literal a) AnyByte items text m = none_within (pairs_of sums (folded text))
needed_within sums (Literal a) AnyText items text m = none_within (pairs_of sums (folded text))
needed_within sums (Literal a) NoSpace items text m = none_within (pairs_of sums (folded text))
needed_within sums (Literal a) Spaces items text m = none_within (pairs_of sums (folded text))
needed_within sums AnyByte y items text m = none_within (pairs_of sums (folded text))
needed_within sums AnyText y items text m = none_within (pairs_of sums (folded text))
needed_within sums NoSpace y items text m = none_within (pairs_of sums (folded text))
needed_within sums Spaces y items text m = none_within (pairs_of sums (folded text))

pairs_within : (sums : Sums) (items : List Item) (text : List ℕ) → Matches Rfc1459 items text
    → IsWithin (pairs_needed sums items) (pairs_of sums (folded text))
pairs_within sums [] text m = none_within (pairs_of sums (folded text))
pairs_within sums (x ∷ []) text m = none_within (pairs_of sums (folded text))
pairs_within sums (x ∷ y ∷ items) text m =
    or_within (needed sums x y) (pairs_needed sums (y ∷ items)) (pairs_of sums (folded text)) (needed_within sums x y items text m)
    (within_trans _ (pairs_of sums (folded (drop m.0 text))) _ (pairs_within sums (y ∷ items) (drop m.0 text) m.1.2) (pairs_of-drop sums m.0 text))

pub signature_within : (items : List Item) (text : List ℕ) → Matches Rfc1459 items text → IsWithin (items_signature items) (text_signature text)
signature_within = pairs_within every

pub none_wide_within : (b : WidePairs) → is_wide_within no_wide_pairs b ≡ true
none_wide_within b = and_from _ _ (is_within-from no_pairs b.low (none_within b.low)) (is_within-from no_pairs b.high (none_within b.high))

pub wide_within : (items : List Item) (text : List ℕ) → Matches Rfc1459 items text
    → is_wide_within (wide_items_signature items) (wide_text_signature text) ≡ true
wide_within items text m = and_from _ _ (is_within-from _ _ (pairs_within is_low items text m)) (is_within-from _ _ (pairs_within is_high items text m))

-- the (lower Rfc1459) cases of literals need the same
needed-lower : (sums : Sums) (x y : Item) → needed sums (lower Rfc1459 x) (lower Rfc1459 y) ≡ needed sums x y
needed-lower sums (Literal a) (Literal b) = ap (λ i. pair_if sums i (low (low b))) (low-low a) ∙ ap (λ i. pair_if sums (low a) i) (low-low b)
needed-lower sums (Literal a) AnyByte = refl
needed-lower sums (Literal a) AnyText = refl
needed-lower sums (Literal a) NoSpace = refl
needed-lower sums (Literal a) Spaces = refl
needed-lower sums AnyByte y = refl
needed-lower sums AnyText y = refl
needed-lower sums NoSpace y = refl
needed-lower sums Spaces y = refl

pairs_needed-lower : (sums : Sums) (items : List Item) → pairs_needed sums (map (lower Rfc1459) items) ≡ pairs_needed sums items
pairs_needed-lower sums [] = refl
pairs_needed-lower sums (x ∷ []) = refl
pairs_needed-lower sums (x ∷ y ∷ items) = ap (λ n. either n (pairs_needed sums (map (lower Rfc1459) (y ∷ items)))) (needed-lower sums x y)
    ∙ ap (λ n. either (needed sums x y) n) (pairs_needed-lower sums (y ∷ items))

pub same_wide : (a b : WidePairs) → a.low ≡ b.low → a.high ≡ b.high → a ≡ b
same_wide a b low high = ap (λ n. wide n a.high) low ∙ ap (wide b.low) high
  where
    wide : Pairs → Pairs → WidePairs
    wide low high = record { low = low; high = high }

pub wide_items_signature-lower : (items : List Item) → wide_items_signature (map (lower Rfc1459) items) ≡ wide_items_signature items
wide_items_signature-lower items =
    same_wide (wide_items_signature (map (lower Rfc1459) items)) (wide_items_signature items) (pairs_needed-lower is_low items) (pairs_needed-lower is_high items)

-- ---- when two sets are one

abbrev halves : ℕ → ℕ → Pairs
halves first second = record { first = first; second = second }

pub same_pairs-self : (a : Pairs) → same_pairs a a ≡ true
same_pairs-self a = and_from _ _ (eq-eqb a.first a.first refl) (eq-eqb a.second a.second refl)

pub same_pairs-same : (a b : Pairs) → same_pairs a b ≡ true → a ≡ b
same_pairs-same a b e =
    let parts = and_parts (a.first == b.first) (a.second == b.second) e in
    ap (λ n. halves n a.second) (eqb-true a.first b.first parts.0) ∙ ap (halves b.first) (eqb-true a.second b.second parts.1)

-- ---- one pair more

or-zero : (a : ℕ) → bit_or a 0 ≡ a
or-zero a = same_from_bits (bit_or a 0) a (λ i. let e : bit_at (bit_or a 0) i ≡ max (bit_at a i) (bit_at 0 i) =
    bit_at_or a 0 i in let z : bit_at 0 i ≡ 0 = bit_at-zero i in omega arith)

or-assoc : (a b c : ℕ) → bit_or (bit_or a b) c ≡ bit_or a (bit_or b c)
or-assoc a b c = same_from_bits (bit_or (bit_or a b) c) (bit_or a (bit_or b c)) (λ i.
    let e : bit_at (bit_or (bit_or a b) c) i ≡ max (bit_at (bit_or a b) i) (bit_at c i) = bit_at_or (bit_or a b) c i in
    let f : bit_at (bit_or a b) i ≡ max (bit_at a i) (bit_at b i) = bit_at_or a b i in
    let g : bit_at (bit_or a (bit_or b c)) i ≡ max (bit_at a i) (bit_at (bit_or b c) i) = bit_at_or a (bit_or b c) i in
    let h : bit_at (bit_or b c) i ≡ max (bit_at b i) (bit_at c i) = bit_at_or b c i in
    omega arith)

either-none : (a : Pairs) → either a no_pairs ≡ a
either-none a = ap (λ n. halves n (bit_or a.second 0)) (or-zero a.first) ∙ ap (halves a.first) (or-zero a.second)

either-assoc : (a b c : Pairs) → either (either a b) c ≡ either a (either b c)
either-assoc a b c = ap (λ n. halves n (bit_or (bit_or a.second b.second) c.second)) (or-assoc a.first b.first c.first)
    ∙ ap (halves (bit_or a.first (bit_or b.first c.first))) (or-assoc a.second b.second c.second)

-- a byte and what is left of a text after it have the pair of the two, and those from the next byte on
pub pairs_more : (sums : Sums) (pairs all : Pairs) (a : ℕ) (rest : List ℕ) (i : ℕ) → i < length rest
    → either pairs (pairs_of sums (a ∷ folded (drop i rest))) ≡ all
    → either (either pairs (pair_if sums a (low (get_or rest i 0)))) (pairs_of sums (low (get_or rest i 0) ∷ folded (drop (suc i) rest))) ≡ all
pairs_more sums pairs all a [] i lt h = absurd (omega (arith, lt))
pairs_more sums pairs all a (x ∷ rest) zero lt h = either-assoc pairs _ _ ∙ h
pairs_more sums pairs all a (x ∷ rest) (suc i) lt h = pairs_more sums pairs all a rest i (omega (arith, lt)) h

pub pairs_end : (sums : Sums) (pairs all : Pairs) (a : ℕ) (rest : List ℕ) (i : ℕ) → length rest ≤ i
    → either pairs (pairs_of sums (a ∷ folded (drop i rest))) ≡ all → pairs ≡ all
pairs_end sums pairs all a rest i past h =
    sym (either-none pairs) ∙ ap (λ (xs : List ℕ). either pairs (pairs_of sums (a ∷ folded xs))) (sym (drop_all i rest past)) ∙ h

-- the pairs that items need after a literal, if one stands before them
abbrev pub pairs_after : Sums → Option ℕ → List Item → Pairs
pairs_after sums before [] = no_pairs
pairs_after sums before (y ∷ items) = either (pair_of sums before (lower_literal y)) (pairs_needed sums (y ∷ items))

none-either : (a : Pairs) → either no_pairs a ≡ a
none-either a = ap (λ n. halves n (bit_or 0 a.second)) (zero-or a.first) ∙ ap (halves a.first) (zero-or a.second)
  where
    zero-or : (a : ℕ) → bit_or 0 a ≡ a
    zero-or a = same_from_bits (bit_or 0 a) a (λ i. let e : bit_at (bit_or 0 a) i ≡ max (bit_at 0 i) (bit_at a i) =
        bit_at_or 0 a i in let z : bit_at 0 i ≡ 0 = bit_at-zero i in omega arith)

pub pairs_after-none : (sums : Sums) (items : List Item) → either no_pairs (pairs_after sums None items) ≡ pairs_needed sums items
pairs_after-none sums [] = none-either no_pairs
pairs_after-none sums (y ∷ items) = none-either (either no_pairs (pairs_needed sums (y ∷ items))) ∙ none-either (pairs_needed sums (y ∷ items))

pairs_after-item : (sums : Sums) (x : Item) (items : List Item) → pairs_needed sums (x ∷ items) ≡ pairs_after sums (lower_literal x) items
pairs_after-item sums x [] = refl
pairs_after-item sums x (y ∷ items) = refl

-- the next item's pair is told, and what is left are the items after it
pub items_more : (sums : Sums) (pairs all : Pairs) (before : Option ℕ) (x : Item) (items : List Item)
    → either pairs (pairs_after sums before (x ∷ items)) ≡ all
    → either (either pairs (pair_of sums before (lower_literal x))) (pairs_after sums (lower_literal x) items) ≡ all
items_more sums pairs all before x items h =
    either-assoc pairs (pair_of sums before (lower_literal x)) _
    ∙ ap (λ n. either pairs (either (pair_of sums before (lower_literal x)) n)) (sym (pairs_after-item sums x items)) ∙ h

pub items_end : (sums : Sums) (pairs all : Pairs) (before : Option ℕ) (items : List Item) → items ≡ []
    → either pairs (pairs_after sums before items) ≡ all → pairs ≡ all
items_end sums pairs all before items none h =
    sym (either-none pairs) ∙ ap (λ (xs : List Item). either pairs (pairs_after sums before xs)) (sym none) ∙ h

pub literals_more : (sums : Sums) (pairs all : Pairs) (before : Option ℕ) (codes : List ℕ) (i : ℕ) → i < length codes
    → either pairs (pairs_after sums before (items_in (drop i codes))) ≡ all
    → either (either pairs (pair_of sums before (lower_literal (decoded (get_or codes i 0)))))
    (pairs_after sums (lower_literal (decoded (get_or codes i 0))) (items_in (drop (suc i) codes))) ≡ all
literals_more sums pairs all before [] i lt h = absurd (omega (arith, lt))
literals_more sums pairs all before (x ∷ codes) zero lt h = items_more sums pairs all before (decoded x) (items_in codes) h
literals_more sums pairs all before (x ∷ codes) (suc i) lt h = literals_more sums pairs all before codes i (omega (arith, lt)) h

pub literals_end : (sums : Sums) (pairs all : Pairs) (before : Option ℕ) (codes : List ℕ) (i : ℕ) → length codes ≤ i
    → either pairs (pairs_after sums before (items_in (drop i codes))) ≡ all → pairs ≡ all
literals_end sums pairs all before codes i past h = items_end sums pairs all before (items_in (drop i codes)) (ap items_in (drop_all i codes past)) h
