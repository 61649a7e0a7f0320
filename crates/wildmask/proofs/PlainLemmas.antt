-- The tail of a mask whose text ends with 16 bytes that are never special.
use Rattle.std.proofs.Common.{◌≡◌, ℕ, zero, suc, ◌+◌, ◌-◌, ◌<◌, ◌≤◌, Bool, true, false, ◌==◌, ◌&&◌, ◌||◌, List, [], ◌∷◌, ◌++◌, length, take, drop, map, get_or, refl, sym, ap, ◌∙◌, ◌⊎◌, inl, inr, true≢false, arith, length-drop, take-append-drop}
use Rattle.std.specs.Prelude.{if◌then◌else◌, nat_le, not}
use Rattle.std.specs.List.{list_any}
use Rattle.std.proofs.lemmas.Bool.{or_parts, and_parts, leb-true}
use Rattle.std.proofs.lemmas.List.{length-map, length-append, get_or-append_right, get_or-map, drop-append-le}
use Rattle.std.proofs.Math.Seq.{drop-append_seam}
use Rattle.rfccase.specs.Casemapping.{folded}
use Rattle.wildmask.specs.declared.items.MaskKind.{MaskKind}
use Rattle.wildmask.specs.declared.items.Item.{Item}
use Rattle.wildmask.specs.declared.items.Item.TheVariants.{Literal, AnyByte, AnyText, NoSpace, Spaces}
use Rattle.wildmask.specs.Items.{item_of, items_of, is_bind, is_literal, is_special}
use Rattle.wildmask.specs.Tails.{bytes_of, end_key, ends_plainly, front_len, tail_of}
use Rattle.wildmask.proofs.TailLemmas.{suffix_stops, front_len-le}

-- what a byte that is never special is
plain_item : (k : MaskKind) (b : ℕ) → is_special b ≡ false → item_of k b ≡ Literal b
plain_item k b plain =
    let e = or_parts (b == 63 || b == 42 || b == 37 || b == 126) (b == 92) plain in
    let d = or_parts (b == 63 || b == 42 || b == 37) (b == 126) e.0 in
    let c = or_parts (b == 63 || b == 42) (b == 37) d.0 in
    let a = or_parts (b == 63) (b == 42) c.0 in
    ap (λ x. if x then AnyByte else (if b == 42 then AnyText else (if b == 37 && is_bind k then NoSpace
    else (if b == 126 && is_bind k then Spaces else Literal b)))) a.0
    ∙ ap (λ x. if x then AnyText else (if b == 37 && is_bind k then NoSpace else (if b == 126 && is_bind k then Spaces else Literal b))) a.1
    ∙ ap (λ x. if x && is_bind k then NoSpace else (if b == 126 && is_bind k then Spaces else Literal b)) c.1
    ∙ ap (λ x. if x && is_bind k then Spaces else Literal b) d.1

-- the items of a byte before bytes that are never special
first_item : (k : MaskKind) (b c : ℕ) (text : List ℕ) → is_special c ≡ false → items_of k (b ∷ c ∷ text) ≡ item_of k b ∷ items_of k (c ∷ text)
first_item k b c text plain =
    ap (λ x. if b == 92 && x then Literal c ∷ items_of k text else item_of k b ∷ items_of k (c ∷ text)) plain ∙ by (b == 92)
  where
    by : (x : Bool) → (if x && false then Literal c ∷ items_of k text else item_of k b ∷ items_of k (c ∷ text)) ≡ item_of k b ∷ items_of k (c ∷ text)
    by true = refl
    by false = refl

plain_items : (k : MaskKind) (text : List ℕ) → list_any is_special text ≡ false → items_of k text ≡ map Literal text
plain_items k [] plain = refl
plain_items k (b ∷ []) plain = ap (λ i. i ∷ []) (plain_item k b (or_parts (is_special b) false plain).0)
plain_items k (b ∷ c ∷ text) plain =
    let parts = or_parts (is_special b) (list_any is_special (c ∷ text)) plain in
    first_item k b c text (or_parts (is_special c) (list_any is_special text) parts.1).0
    ∙ ap (λ i. i ∷ items_of k (c ∷ text)) (plain_item k b parts.0) ∙ ap (λ xs. Literal b ∷ xs) (plain_items k (c ∷ text) parts.1)

items_append : (k : MaskKind) (front end : List ℕ) → list_any is_special end ≡ false → items_of k (front ++ end) ≡ items_of k front ++ map Literal end
items_append k [] end plain = plain_items k end plain
items_append k (b ∷ []) [] plain = refl
items_append k (b ∷ []) (c ∷ end) plain =
    first_item k b c end (or_parts (is_special c) (list_any is_special end) plain).0 ∙ ap (λ xs. item_of k b ∷ xs) (plain_items k (c ∷ end) plain)
items_append k (b ∷ c ∷ front) end plain = by (items_append k front end plain) (items_append k (c ∷ front) end plain) (b == 92 && is_special c)
  where
    by : items_of k (front ++ end) ≡ items_of k front ++ map Literal end
        → items_of k (c ∷ front ++ end) ≡ items_of k (c ∷ front) ++ map Literal end
        → (x : Bool) → (if x then Literal c ∷ items_of k (front ++ end) else item_of k b ∷ items_of k (c ∷ front ++ end))
        ≡ (if x then Literal c ∷ items_of k front else item_of k b ∷ items_of k (c ∷ front)) ++ map Literal end
    by escaped other true = ap (λ xs. Literal c ∷ xs) escaped
    by escaped other false = ap (λ xs. item_of k b ∷ xs) other

bytes_of-append : (xs ys : List Item) → bytes_of (xs ++ ys) ≡ bytes_of xs ++ bytes_of ys
bytes_of-append [] ys = refl
bytes_of-append (Literal b ∷ xs) ys = ap (λ bs. b ∷ bs) (bytes_of-append xs ys)
bytes_of-append (AnyByte ∷ xs) ys = bytes_of-append xs ys
bytes_of-append (AnyText ∷ xs) ys = bytes_of-append xs ys
bytes_of-append (NoSpace ∷ xs) ys = bytes_of-append xs ys
bytes_of-append (Spaces ∷ xs) ys = bytes_of-append xs ys

bytes_of-plain : (text : List ℕ) → bytes_of (map Literal text) ≡ text
bytes_of-plain [] = refl
bytes_of-plain (b ∷ text) = ap (λ bs. b ∷ bs) (bytes_of-plain text)

below_or_not : (a b : ℕ) → (a ≤ b) ⊎ (b < a)
below_or_not zero b = inl (omega arith)
below_or_not (suc a) zero = inr (omega arith)
below_or_not (suc a) (suc b) = elim (below_or_not a b) [ inl h ↦ inl (omega arith) | inr h ↦ inr (omega arith) ]

-- the last special item is not among the literals at the end
front_early : (items : List Item) (end : List ℕ) → front_len (items ++ map Literal end) ≤ length items
front_early items end = elim (below_or_not (front_len all) (length items)) [ inl early ↦ early | inr late ↦ absurd (not_late late) ]
  where
    all : List Item
    all = items ++ map Literal end

    not_late : length items < front_len all → ⊥
    not_late late =
        let long : length all ≡ length items + length end = length-append items (map Literal end) ∙ ap (λ n. length items + n) (length-map end Literal) in
        let inside : front_len all - 1 - length items < length end = omega (arith, late, long, front_len-le all) in
        let at : get_or all (front_len all - 1) AnyByte ≡ Literal (get_or end (front_len all - 1 - length items) 0) =
        get_or-append_right items (map Literal end) (length items) (front_len all - 1) AnyByte refl (omega (arith, late))
        ∙ get_or-map Literal end (front_len all - 1 - length items) 0 AnyByte inside in
        true≢false (sym (ap is_literal at) ∙ suffix_stops all (omega (arith, late)))

tail_append : (items : List Item) (end : List ℕ) → length end ≡ 16 → tail_of (items ++ map Literal end) ≡ folded end
tail_append items end long =
    let f = front_len (items ++ map Literal end) in
    let rest : drop f (items ++ map Literal end) ≡ drop f items ++ map Literal end = drop-append-le f items (map Literal end) (front_early items end) in
    let bytes : bytes_of (drop f (items ++ map Literal end)) ≡ bytes_of (drop f items) ++ end =
    ap bytes_of rest ∙ bytes_of-append (drop f items) (map Literal end) ∙ ap (λ bs. bytes_of (drop f items) ++ bs) (bytes_of-plain end) in
    ap (end_key 16) bytes ∙ last_bytes (bytes_of (drop f items))
  where
    last_bytes : (front : List ℕ) → end_key 16 (front ++ end) ≡ folded end
    last_bytes front =
        let at : length (front ++ end) - 16 ≡ length front = omega (arith, length-append front end, long) in
        ap (λ n. folded (drop n (front ++ end))) at ∙ ap folded (drop-append_seam front end)

-- the last 16 bytes of such a text are the tail of its mask
pub tail_plain : (k : MaskKind) (text : List ℕ) → ends_plainly text ≡ true → tail_of (items_of k text) ≡ end_key 16 text
tail_plain k text plain =
    let n = length text - 16 in
    let parts = and_parts (nat_le 16 (length text)) (not (list_any is_special (drop n text))) plain in
    let none : list_any is_special (drop n text) ≡ false = not_true (list_any is_special (drop n text)) parts.1 in
    let long : length (drop n text) ≡ 16 = omega (arith, length-drop n text, leb-true 16 (length text) parts.0) in
    ap (λ xs. tail_of (items_of k xs)) (sym (take-append-drop n text)) ∙ ap tail_of (items_append k (take n text) (drop n text) none)
    ∙ tail_append (items_of k (take n text)) (drop n text) long
  where
    not_true : (x : Bool) → not x ≡ true → x ≡ false
    not_true true h = sym h
    not_true false h = refl
