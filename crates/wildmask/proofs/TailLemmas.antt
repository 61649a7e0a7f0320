-- The literals at the end of a mask, and the ends of the texts that it matches.
use Rattle.std.proofs.Common.{◌≡◌, ℕ, zero, suc, ◌+◌, ◌-◌, ◌<◌, ◌≤◌, min, true, false, List, [], ◌∷◌, ◌++◌, length, take, drop, replicate, map, get_or, length-drop, drop-drop, refl, sym, subst, ap, ◌∙◌, arith}
use Rattle.std.specs.Prelude.{reverse}
use Rattle.std.specs.List.{suffix_len}
use Rattle.std.proofs.lemmas.List.{length-map, take_at, drop-replicate, drop-map, take-append-drop, get_or-drop, get_or-reverse, length-reverse, get_or-map}
use Rattle.std.proofs.lemmas.List.Sums.{suffix_len_is, suffix_len-le-length, prefix_len_passes, prefix_len_stops}
use Rattle.rfccase.specs.Casemapping.{low, folded}
use Rattle.wildmask.specs.declared.items.Item.{Item}
use Rattle.wildmask.specs.declared.items.Item.TheVariants.{Literal, AnyByte, AnyText, NoSpace, Spaces}
use Rattle.wildmask.specs.Items.{is_literal}
use Rattle.wildmask.specs.Codes.{lower, decoded, items_in}
use Rattle.wildmask.specs.Matching.{Takes, Matches}
use Rattle.wildmask.specs.Tails.{last, padded, bytes_of, end_key, front_len, tail_of}
use Rattle.wildmask.specs.Walks.{AllOne}
use Rattle.rfccase.proofs.SameLemmas.{low-low}
use Rattle.wildmask.proofs.MatchLemmas.{literal_code, run_last}
use Rattle.rfccase.specs.declared.casemappings.Casemapping.TheVariants.{Rfc1459}
use Rattle.rfccase.specs.declared.casemappings.Casemapping.{Casemapping}

-- each item is a literal
abbrev pub AllLiteral : List Item → Type 0
AllLiteral [] = Unit {0}
AllLiteral (item ∷ items) = (is_literal item ≡ true) × AllLiteral items

AllLiteral-from : (items : List Item) → ((k : ℕ) → k < length items → is_literal (get_or items k AnyByte) ≡ true) → AllLiteral items
AllLiteral-from [] all = tt
AllLiteral-from (item ∷ items) all = (all 0 (omega arith), AllLiteral-from items (λ k h. all (suc k) (omega arith)))

pub AllOne-literal : (items : List Item) → AllLiteral items → AllOne items
AllOne-literal [] all = tt
AllOne-literal (Literal b ∷ items) all = (refl, AllOne-literal items all.1)
AllOne-literal (AnyByte ∷ items) all = cc (all.0)
AllOne-literal (AnyText ∷ items) all = cc (all.0)
AllOne-literal (NoSpace ∷ items) all = cc (all.0)
AllOne-literal (Spaces ∷ items) all = cc (all.0)

-- each item after the last special one is a literal
suffix_passes : (items : List Item) (i : ℕ) → front_len items ≤ i → i < length items → is_literal (get_or items i AnyByte) ≡ true
suffix_passes items i late within =
    let short : suffix_len is_literal items ≤ length items = suffix_len-le-length is_literal items in
    let inside : length items - 1 - i < length items = omega arith in
    let early : length items - 1 - i < suffix_len is_literal items = omega arith in
    let back : length items - 1 - (length items - 1 - i) ≡ i = omega arith in
    let at : get_or (reverse items) (length items - 1 - i) AnyByte ≡ get_or items i AnyByte =
    get_or-reverse items (length items - 1 - i) AnyByte inside ∙ ap (λ n. get_or items n AnyByte) back in
    ap is_literal (sym at) ∙ prefix_len_passes is_literal (reverse items) (length items - 1 - i) AnyByte early

pub front_len-le : (items : List Item) → front_len items ≤ length items
front_len-le items = omega (arith, suffix_len-le-length is_literal items)

-- and the last special one is none
pub suffix_stops : (items : List Item) → 0 < front_len items → is_literal (get_or items (front_len items - 1) AnyByte) ≡ false
suffix_stops items some =
    let inside : suffix_len is_literal items < length items = omega arith in
    let long : length (reverse items) ≡ length items = length-reverse items in
    let back : length items - 1 - suffix_len is_literal items ≡ front_len items - 1 = omega arith in
    let at : get_or (reverse items) (suffix_len is_literal items) AnyByte ≡ get_or items (front_len items - 1) AnyByte =
    get_or-reverse items (suffix_len is_literal items) AnyByte inside ∙ ap (λ n. get_or items n AnyByte) back in
    ap is_literal (sym at) ∙ prefix_len_stops is_literal (reverse items) AnyByte (omega arith)

-- the items after the last special one are literals
pub last_literals : (items : List Item) → AllLiteral (drop (front_len items) items)
last_literals items = AllLiteral-from (drop (front_len items) items)
    (λ k h. ap is_literal (get_or-drop (front_len items) items k AnyByte)
    ∙ suffix_passes items (front_len items + k) (omega arith) (omega (arith, length-drop (front_len items) items)))

-- where the last special item is found from the end
pub front_is : (codes : List ℕ) (front : ℕ) → front ≤ length codes
    → ((k : ℕ) → front ≤ k → k < length codes → is_literal (decoded (get_or codes k 0)) ≡ true)
    → (0 < front → is_literal (decoded (get_or codes (front - 1) 0)) ≡ false) → front ≡ front_len (items_in codes)
front_is codes front within literal special =
    let long : length (items_in codes) ≡ length codes = length-map codes decoded in
    let suffix : suffix_len is_literal (items_in codes) ≡ length (items_in codes) - front =
    suffix_len_is is_literal (items_in codes) front AnyByte (omega arith)
    (λ k late early. let inside : k < length codes = omega arith in ap is_literal (get_or-map decoded codes k 0 AnyByte inside) ∙ literal k late inside)
    (λ some. let inside : front - 1 < length codes = omega arith in ap is_literal (get_or-map decoded codes (front - 1) 0 AnyByte inside) ∙ special some) in
    omega arith

-- ---- the bytes of literals

pub bytes_of-literals : (codes : List ℕ) → AllLiteral (items_in codes) → bytes_of (items_in codes) ≡ codes
bytes_of-literals [] all = refl
bytes_of-literals (c ∷ codes) all = ap (λ i. bytes_of (i ∷ items_in codes)) (literal_code c all.0) ∙ ap (λ xs. c ∷ xs) (bytes_of-literals codes all.1)

pub length-bytes_of : (items : List Item) → AllLiteral items → length (bytes_of items) ≡ length items
length-bytes_of [] all = refl
length-bytes_of (Literal b ∷ items) all = ap suc (length-bytes_of items all.1)
length-bytes_of (AnyByte ∷ items) all = cc (all.0)
length-bytes_of (AnyText ∷ items) all = cc (all.0)
length-bytes_of (NoSpace ∷ items) all = cc (all.0)
length-bytes_of (Spaces ∷ items) all = cc (all.0)

-- literals match a text of the same (lower Rfc1459) cases
pub literals_match : (items : List Item) (text : List ℕ) → AllLiteral items → Matches Rfc1459 items text → folded text ≡ folded (bytes_of items)
literals_match [] text all m = ap folded m
literals_match (Literal b ∷ items) text all m = by m.0 text m.1.0 m.1.1 (literals_match items (drop m.0 text) all.1 m.1.2)
  where
    by : (cut : ℕ) (text : List ℕ) → cut ≤ length text → Takes Rfc1459 (Literal b) (take cut text) → folded (drop cut text) ≡ folded (bytes_of items)
        → folded text ≡ low b ∷ folded (bytes_of items)
    by zero text within taken rest = cc
    by (suc zero) [] within taken rest = absurd (omega arith)
    by (suc zero) (x ∷ text) within taken rest = cc
    by (suc (suc k)) [] within taken rest = absurd (omega arith)
    by (suc (suc k)) (x ∷ []) within taken rest = absurd (omega arith)
    by (suc (suc k)) (x ∷ y ∷ text) within taken rest = cc
literals_match (AnyByte ∷ items) text all m = cc (all.0)
literals_match (AnyText ∷ items) text all m = cc (all.0)
literals_match (NoSpace ∷ items) text all m = cc (all.0)
literals_match (Spaces ∷ items) text all m = cc (all.0)

-- ---- the tail

pub folded-drop : (n : ℕ) (text : List ℕ) → folded (drop n text) ≡ drop n (folded text)
folded-drop n text = sym (drop-map low n text)

pub length-tail_of : (items : List Item) → length (tail_of items) ≡ min (length items - front_len items) 16
length-tail_of items =
    let literals : AllLiteral (drop (front_len items) items) = last_literals items in
    let bytes : length (bytes_of (drop (front_len items) items)) ≡ length items - front_len items =
    length-bytes_of (drop (front_len items) items) literals ∙ length-drop (front_len items) items in
    let whole : length (tail_of items) ≡ length (last 16 (bytes_of (drop (front_len items) items))) =
    length-map (last 16 (bytes_of (drop (front_len items) items))) low in
    let part : length (last 16 (bytes_of (drop (front_len items) items)))
    ≡ length (bytes_of (drop (front_len items) items)) - (length (bytes_of (drop (front_len items) items)) - 16) = length-drop _ _ in
    omega arith

-- a text that the items match ends with their tail
pub tail_ends : (items : List Item) (text : List ℕ) → Matches Rfc1459 items text
    → (tail_of items ≡ end_key (length (tail_of items)) text) × (length (tail_of items) ≤ length text)
tail_ends items text m = (same, omega (arith, parts.0, length-tail_of items, length-drop (front_len items) items))
  where
    literals : AllLiteral (drop (front_len items) items)
    literals = last_literals items

    parts : (length (drop (front_len items) items) ≤ length text)
        × Matches Rfc1459 (take (front_len items) items) (take (length text - length (drop (front_len items) items)) text)
        × Matches Rfc1459 (drop (front_len items) items) (drop (length text - length (drop (front_len items) items)) text)
    parts = (run_last Rfc1459 (take (front_len items) items) (drop (front_len items) items) text (AllOne-literal _ literals)).0
        (subst (λ xs. Matches Rfc1459 xs text) (sym (take-append-drop (front_len items) items)) m)

    same : tail_of items ≡ end_key (length (tail_of items)) text
    same =
        let ks : List ℕ = bytes_of (drop (front_len items) items) in
        let long : length ks ≡ length (drop (front_len items) items) = length-bytes_of (drop (front_len items) items) literals in
        let left : length (drop (front_len items) items) ≡ length items - front_len items = length-drop (front_len items) items in
        let equal : folded (drop (length text - length (drop (front_len items) items)) text) ≡ folded ks =
        literals_match (drop (front_len items) items) (drop (length text - length (drop (front_len items) items)) text) literals parts.2 in
        let index : (length text - length (drop (front_len items) items)) + (length ks - 16) ≡ length text - min (length (tail_of items)) 16 =
        omega (arith, length-tail_of items, parts.0) in
        folded-drop (length ks - 16) ks ∙ ap (drop (length ks - 16)) (sym equal)
        ∙ sym (folded-drop (length ks - 16) (drop (length text - length (drop (front_len items) items)) text))
        ∙ ap folded (drop-drop (length ks - 16) (length text - length (drop (front_len items) items)) text) ∙ ap (λ i. folded (drop i text)) index

-- ---- lower Rfc1459 cases

pub is_literal-lower : (mapping : Casemapping) (item : Item) → is_literal (lower mapping item) ≡ is_literal item
is_literal-lower mapping (Literal b) = refl
is_literal-lower mapping AnyByte = refl
is_literal-lower mapping AnyText = refl
is_literal-lower mapping NoSpace = refl
is_literal-lower mapping Spaces = refl

folded-bytes_of : (items : List Item) → folded (bytes_of (map (lower Rfc1459) items)) ≡ folded (bytes_of items)
folded-bytes_of [] = refl
folded-bytes_of (Literal b ∷ items) = ap (λ n. n ∷ folded (bytes_of (map (lower Rfc1459) items))) (low-low b) ∙ ap (λ xs. low b ∷ xs) (folded-bytes_of items)
folded-bytes_of (AnyByte ∷ items) = folded-bytes_of items
folded-bytes_of (AnyText ∷ items) = folded-bytes_of items
folded-bytes_of (NoSpace ∷ items) = folded-bytes_of items
folded-bytes_of (Spaces ∷ items) = folded-bytes_of items

front_len-lower : (items : List Item) → front_len (map (lower Rfc1459) items) ≡ front_len items
front_len-lower items =
    let long : length (map (lower Rfc1459) items) ≡ length items = length-map items (lower Rfc1459) in
    let suffix : suffix_len is_literal (map (lower Rfc1459) items) ≡ length (map (lower Rfc1459) items) - front_len items =
    suffix_len_is is_literal (map (lower Rfc1459) items) (front_len items) AnyByte (omega arith)
    (λ k late early. let inside : k < length items = omega arith in ap is_literal (get_or-map (lower Rfc1459) items k AnyByte AnyByte inside)
    ∙ is_literal-lower Rfc1459 (get_or items k AnyByte) ∙ suffix_passes items k late inside)
    (λ some. let inside : front_len items - 1 < length items =
    omega arith in ap is_literal (get_or-map (lower Rfc1459) items (front_len items - 1) AnyByte AnyByte inside)
    ∙ is_literal-lower Rfc1459 (get_or items (front_len items - 1) AnyByte) ∙ suffix_stops items some) in
    omega arith

pub tail_of-lower : (items : List Item) → tail_of (map (lower Rfc1459) items) ≡ tail_of items
tail_of-lower items =
    let ends : drop (front_len (map (lower Rfc1459) items)) (map (lower Rfc1459) items) ≡ map (lower Rfc1459) (drop (front_len items) items) =
    ap (λ n. drop n (map (lower Rfc1459) items)) (front_len-lower items) ∙ drop-map (lower Rfc1459) (front_len items) items in
    let same : folded (bytes_of (map (lower Rfc1459) (drop (front_len items) items))) ≡ folded (bytes_of (drop (front_len items) items)) =
    folded-bytes_of (drop (front_len items) items) in
    ap (λ xs. end_key 16 (bytes_of xs)) ends ∙ key_of_folded (bytes_of (map (lower Rfc1459) (drop (front_len items) items)))
    (bytes_of (drop (front_len items) items)) same
  where
    key_of_folded : (xs ys : List ℕ) → folded xs ≡ folded ys → end_key 16 xs ≡ end_key 16 ys
    key_of_folded xs ys same =
        let long : length xs ≡ length ys = sym (length-map xs low) ∙ ap length same ∙ length-map ys low in
        folded-drop (length xs - 16) xs ∙ ap (drop (length xs - 16)) same ∙ ap (λ n. drop (n - 16) (folded ys)) long ∙ sym (folded-drop (length ys - 16) ys)

-- ---- the bytes of a key

pub padded_is : (xs : List ℕ) (len : ℕ) → length xs ≡ len → len ≤ 16
    → (length (take len (xs ++ drop len (replicate 16 0))) ≡ len) × (padded (take len (xs ++ drop len (replicate 16 0))) ≡ xs ++ drop len (replicate 16 0))
padded_is xs len long small =
    let front : take len (xs ++ drop len (replicate 16 0)) ≡ xs = take_at xs (drop len (replicate 16 0)) len long in
    (ap length front ∙ long, ap padded front ∙ ap (λ n. xs ++ replicate (16 - n) 0) long ∙ ap (λ ys. xs ++ ys) (sym (drop-replicate len 16 0)))
