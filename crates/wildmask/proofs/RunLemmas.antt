-- Runs of items that take one byte each, and what comparisons of them cost.
use Rattle.std.proofs.Common.{◌≡◌, ◌↔◌, ℕ, zero, suc, ◌+◌, ◌-◌, ◌*◌, ◌<◌, ◌≤◌, true, List, [], ◌∷◌, ◌++◌, length, take, drop, get_or, sym, subst, ap, ◌∙◌, arith, inl, inr, add-one}
use Rattle.std.proofs.lemmas.List.{length-map, drop_all, map-append, take-append-drop}
use Rattle.std.proofs.Math.Nat.{mul-add, mul-one, mul-suc, mul-le-mul, mul-le-mul_left, mul-le-mul_right}
use Rattle.rfccase.specs.Casemapping.{low_by}
use Rattle.rfccase.specs.declared.casemappings.Casemapping.{Casemapping}
use Rattle.wildmask.specs.declared.items.Item.{Item}
use Rattle.wildmask.specs.declared.items.Item.TheVariants.{Literal, AnyByte, AnyText, NoSpace, Spaces}
use Rattle.wildmask.specs.Codes.{lower, decoded, items_in}
use Rattle.wildmask.specs.Matching.{Matches}
use Rattle.wildmask.specs.Walks.{AllLower, AllOne, takes_byte, takes_one}
use Rattle.wildmask.proofs.MatchLemmas.{Matches-byte, run_first, run_last, run_hits, run_misses, run_too_long, AllOne-length}

-- ---- parts of a list of items

pub AllLower-left : (mapping : Casemapping) (xs ys : List Item) → AllLower mapping (xs ++ ys) → AllLower mapping xs
AllLower-left mapping [] ys all = tt
AllLower-left mapping (x ∷ xs) ys all = (all.0, AllLower-left mapping xs ys all.1)

pub AllLower-right : (mapping : Casemapping) (xs ys : List Item) → AllLower mapping (xs ++ ys) → AllLower mapping ys
AllLower-right mapping [] ys all = all
AllLower-right mapping (x ∷ xs) ys all = AllLower-right mapping xs ys all.1

pub items_in-split : (codes : List ℕ) (len : ℕ) → items_in codes ≡ items_in (take len codes) ++ items_in (drop len codes)
items_in-split codes len = ap items_in (sym (take-append-drop len codes)) ∙ map-append decoded (take len codes) (drop len codes)

pub AllOne-more : (codes : List ℕ) (len : ℕ) → len < length codes → AllOne (items_in (take len codes))
    → takes_one (decoded (get_or codes len 0)) ≡ true → AllOne (items_in (take (len + 1) codes))
AllOne-more codes len within all one = subst (λ n. AllOne (items_in (take n codes))) (sym (add-one len)) (by codes len within all one)
  where
    by : (codes : List ℕ) (len : ℕ) → len < length codes → AllOne (items_in (take len codes)) → takes_one (decoded (get_or codes len 0)) ≡ true
        → AllOne (items_in (take (suc len) codes))
    by [] len within all one = absurd (omega arith)
    by (c ∷ codes) zero within all one = (one, tt)
    by (c ∷ codes) (suc len) within all one = (all.0, by codes len (omega arith) all.1 one)

pub AllOne-at : (items : List Item) (i : ℕ) → AllOne items → i < length items → takes_one (get_or items i AnyByte) ≡ true
AllOne-at [] i all within = absurd (omega arith)
AllOne-at (item ∷ items) zero all within = all.0
AllOne-at (item ∷ items) (suc i) all within = AllOne-at items i all.1 (omega arith)

-- ---- one item against one byte

pub one_byte : (mapping : Casemapping) (item : Item) (others : List Item) (b : ℕ) (text : List ℕ) → takes_one item ≡ true → lower mapping item ≡ item
    → Matches mapping (item ∷ others) (b ∷ text) ↔ ((takes_byte item (low_by mapping b) ≡ true) × Matches mapping others text)
one_byte mapping (Literal c) others b text one is_lower = (
  λ m. elim ((Matches-byte mapping (Literal c) others b text is_lower).0 m) [ inl e ↦ cc (e.0) | inr h ↦ h ],
  λ h. (Matches-byte mapping (Literal c) others b text is_lower).1 (inr h),
)
one_byte mapping AnyByte others b text one is_lower = (
  λ m. elim ((Matches-byte mapping AnyByte others b text is_lower).0 m) [ inl e ↦ cc (e.0) | inr h ↦ h ],
  λ h. (Matches-byte mapping AnyByte others b text is_lower).1 (inr h),
)
one_byte mapping AnyText others b text one is_lower = cc
one_byte mapping NoSpace others b text one is_lower = cc
one_byte mapping Spaces others b text one is_lower = cc

pub first_byte : (mapping : Casemapping) (items others : List Item) (item : Item) (text : List ℕ) → 1 ≤ length text → items ≡ item ∷ others → takes_one item ≡ true
    → AllLower mapping items → Matches mapping items text ↔ ((takes_byte item (low_by mapping (get_or text 0 0)) ≡ true) × Matches mapping others (drop 1 text))
first_byte mapping items others item [] some parts one all = absurd (omega arith)
first_byte mapping items others item (b ∷ text) some parts one all =
    let lowered : AllLower mapping (item ∷ others) = subst (AllLower mapping) parts all in
    subst (λ xs. Matches mapping xs (b ∷ text) ↔ ((takes_byte item (low_by mapping b) ≡ true) × Matches mapping others text)) (sym parts)
    (one_byte mapping item others b text one lowered.0)

-- each item of a run that matches takes its byte
pub run_takes : (mapping : Casemapping) (items : List Item) (text : List ℕ) (i : ℕ) → AllOne items → AllLower mapping items → Matches mapping items text → i < length items
    → takes_byte (get_or items i AnyByte) (low_by mapping (get_or text i 0)) ≡ true
run_takes mapping [] text i one all m within = absurd (omega arith)
run_takes mapping (item ∷ items) [] i one all m within = absurd (omega (arith, AllOne-length mapping (item ∷ items) [] one m))
run_takes mapping (item ∷ items) (b ∷ text) zero one all m within = ((one_byte mapping item items b text one.0 all.0).0 m).0
run_takes mapping (item ∷ items) (b ∷ text) (suc i) one all m within = run_takes mapping items text i one.1 all.1 ((one_byte mapping item items b text one.0 all.0).0 m).1 (omega arith)

-- and items of which each takes its byte, from the last on, match
pub run_grows : (mapping : Casemapping) (items : List Item) (text : List ℕ) (i : ℕ) → AllOne items → AllLower mapping items → length items ≡ length text → i < length items
    → takes_byte (get_or items i AnyByte) (low_by mapping (get_or text i 0)) ≡ true → Matches mapping (drop (i + 1) items) (drop (i + 1) text)
    → Matches mapping (drop i items) (drop i text)
run_grows mapping items text i one all same within taken m =
    subst (λ n. Matches mapping (drop n items) (drop n text)
    → Matches mapping (drop i items) (drop i text)) (sym (add-one i)) (λ r. by items text i one all same within taken r) m
  where
    by : (items : List Item) (text : List ℕ) (i : ℕ) → AllOne items → AllLower mapping items → length items ≡ length text → i < length items
        → takes_byte (get_or items i AnyByte) (low_by mapping (get_or text i 0)) ≡ true → Matches mapping (drop (suc i) items) (drop (suc i) text)
        → Matches mapping (drop i items) (drop i text)
    by [] text i one all same within taken m = absurd (omega arith)
    by (item ∷ items) [] i one all same within taken m = absurd (omega arith)
    by (item ∷ items) (b ∷ text) zero one all same within taken m = (one_byte mapping item items b text one.0 all.0).1 (taken, m)
    by (item ∷ items) (b ∷ text) (suc i) one all same within taken m = by items text i one.1 all.1 (omega arith) (omega arith) taken m

-- a run that takes nothing of the empty text
pub run_misses_nil : (mapping : Casemapping) (run others : List Item) → AllOne run → (Matches mapping run (take (length run) []) → ⊥) → Matches mapping (AnyText ∷ run ++ others) [] → ⊥
run_misses_nil mapping run others one miss m = by m.0 m.1.2
  where
    by : (cut : ℕ) → Matches mapping (run ++ others) (drop cut []) → ⊥
    by zero m = miss ((run_first mapping run others [] one).0 m).1
    by (suc cut) m = miss ((run_first mapping run others [] one).0 m).1

-- ---- costs

pub mul-mono : (m a b : ℕ) → a ≤ b → m * a ≤ m * b
mul-mono m a b h = mul-le-mul_left m h

-- a share of what is passed over costs at most the whole of it
pub share : (r m d : ℕ) → r ≤ m → r * d ≤ m * d
share r m d h = mul-le-mul_right d h

-- the cost up to a place, and from there on to a later one
pub passed_over : (m r all left after old before count : ℕ) → r ≤ m → after ≤ left → left ≤ all → before ≤ old + m * (all - left)
    → count ≤ before + r * (left - after) → count ≤ old + m * (all - after)
passed_over m r all left after old before count small later early h k =
    let whole : m * (all - after) ≡ m * (all - left) + m * (left - after) =
    ap (λ d. m * d) (let e : all - after ≡ (all - left) + (left - after) = omega arith in e) ∙ mul-add m (all - left) (left - after) in
    let part : r * (left - after) ≤ m * (left - after) = share r m (left - after) small in
    omega arith

-- one start more costs the length of the run
pub next_start : (r all rest left old before count : ℕ) → rest ≤ all → left + 1 ≡ rest → before ≤ old + r * (all - rest) → count ≤ before + r
    → count ≤ old + r * (all - left)
next_start r all rest left old before count within parts h k =
    let whole : r * (all - left) ≡ r * (all - rest) + r * 1 = ap (λ d. r * d) (let e : all - left ≡ (all - rest) + 1 = omega arith in e)
    ∙ mul-add r (all - rest) 1 in
    let one : r * 1 ≡ r = mul-one r in
    omega arith

-- one start more, at which the run matches
pub hit_cost : (r all rest left old before count : ℕ) → rest ≤ all → left + r ≡ rest → before ≤ old + r * (all - rest) → count ≤ before + r
    → count ≤ old + r * (all - left)
hit_cost r all rest left old before count within parts h k =
    let whole : r * (all - left) ≡ r * (all - rest) + r * r = ap (λ d. r * d) (let e : all - left ≡ (all - rest) + r = omega arith in e)
    ∙ mul-add r (all - rest) r in
    let square : r ≤ r * r = by r in
    omega arith
  where
    by : (r : ℕ) → r ≤ r * r
    by zero = omega arith
    by (suc k) = let e : suc k * suc k ≡ suc k * k + suc k = mul-suc (suc k) k in omega arith

pub no_more_than_all : (r all rest old count : ℕ) → count ≤ old + r * (all - rest) → count ≤ old + r * all
no_more_than_all r all rest old count h = let k : r * (all - rest) ≤ r * all = mul-mono r (all - rest) all (omega arith) in omega arith

-- the end first, and what is left before it
pub end_then_rest : (f e n rest old before count : ℕ) → rest ≤ n → before ≤ old + e → count ≤ before + f + f * rest → count ≤ old + (f + e + 1) * (n + 1)
end_then_rest f e n rest old before count within h k =
    let a : f * rest ≤ (f + e + 1) * n = mul-le-mul (let s : f ≤ f + e + 1 = omega arith in s) within in
    let b : (f + e + 1) * (n + 1) ≡ (f + e + 1) * n + (f + e + 1) * 1 = mul-add (f + e + 1) n 1 in
    let c : (f + e + 1) * 1 ≡ f + e + 1 = mul-one (f + e + 1) in
    omega arith

pub end_alone : (f e n old count : ℕ) → count ≤ old + e → count ≤ old + (f + e + 1) * (n + 1)
end_alone f e n old count h =
    let b : (f + e + 1) * (n + 1) ≡ (f + e + 1) * n + (f + e + 1) * 1 = mul-add (f + e + 1) n 1 in
    let c : (f + e + 1) * 1 ≡ f + e + 1 = mul-one (f + e + 1) in
    omega arith

-- ---- runs of codes

pub star_first : (codes : List ℕ) → 1 ≤ length codes → decoded (get_or codes 0 0) ≡ AnyText → items_in codes ≡ AnyText ∷ items_in (drop 1 codes)
star_first [] some star = absurd (omega arith)
star_first (c ∷ codes) some star = ap (λ i. i ∷ items_in codes) star

pub run_ends : (mapping : Casemapping) (codes text : List ℕ) → length codes ≡ length text → Matches mapping (drop (length codes) (items_in codes)) (drop (length codes) text)
run_ends mapping codes text same =
    let items : drop (length codes) (items_in codes) ≡ [] = drop_all (length codes) (items_in codes) (omega (arith, length-map codes decoded)) in
    subst (λ xs. Matches mapping xs (drop (length codes) text)) (sym items) (drop_all (length codes) text (omega arith))

pub code_run_hits : (mapping : Casemapping) (run : List ℕ) (others : List Item) (text first left : List ℕ) → AllOne (items_in run) → length run ≤ length text
    → first ≡ take (length run) text → left ≡ drop (length run) text → Matches mapping (items_in run) first
    → Matches mapping (AnyText ∷ items_in run ++ AnyText ∷ others) text ↔ Matches mapping (AnyText ∷ others) left
code_run_hits mapping run others text first left one within is_first is_left m =
    let long : length (items_in run) ≡ length run = length-map run decoded in
    subst (λ xs. Matches mapping (AnyText ∷ items_in run ++ AnyText ∷ others) text ↔ Matches mapping (AnyText ∷ others) xs) (ap (λ n. drop n text) long ∙ sym is_left)
    (run_hits mapping (items_in run) others text one (omega arith) (subst (Matches mapping (items_in run)) (is_first ∙ ap (λ n. take n text) (sym long)) m))

pub code_run_misses : (mapping : Casemapping) (run : List ℕ) (others : List Item) (text first : List ℕ) → AllOne (items_in run) → 1 ≤ length text
    → first ≡ take (length run) text → (Matches mapping (items_in run) first → ⊥)
    → Matches mapping (AnyText ∷ items_in run ++ others) text ↔ Matches mapping (AnyText ∷ items_in run ++ others) (drop 1 text)
code_run_misses mapping run others [] first one some is_first miss = absurd (omega arith)
code_run_misses mapping run others (b ∷ text) first one some is_first miss =
    run_misses mapping (items_in run) others b text one (λ m. miss
    (subst (Matches mapping (items_in run)) (ap (λ n. take n (b ∷ text)) (length-map run decoded) ∙ sym is_first) m))

pub code_run_misses_nil : (mapping : Casemapping) (run : List ℕ) (others : List Item) (text first : List ℕ) → AllOne (items_in run) → length text ≡ 0
    → first ≡ take (length run) text → (Matches mapping (items_in run) first → ⊥) → Matches mapping (AnyText ∷ items_in run ++ others) text → ⊥
code_run_misses_nil mapping run others [] first one none is_first miss m =
    run_misses_nil mapping (items_in run) others one (λ k. miss (subst (Matches mapping (items_in run)) (ap (λ n. take n []) (length-map run decoded) ∙ sym is_first) k)) m
code_run_misses_nil mapping run others (b ∷ text) first one none is_first miss m = absurd (omega arith)

pub code_run_too_long : (mapping : Casemapping) (run : List ℕ) (others : List Item) (text : List ℕ) → AllOne (items_in run) → length text < length run
    → Matches mapping (AnyText ∷ items_in run ++ others) text → ⊥
code_run_too_long mapping run others text one short m = run_too_long mapping (items_in run) others text one (omega (arith, length-map run decoded)) m

-- a run of codes last
pub code_run_last : (mapping : Casemapping) (front end text rest last : List ℕ) → AllOne (items_in end) → length end ≤ length text
    → rest ≡ take (length text - length end) text → last ≡ drop (length text - length end) text
    → Matches mapping (items_in front ++ items_in end) text ↔ (Matches mapping (items_in end) last × Matches mapping (items_in front) rest)
code_run_last mapping front end text rest last one within is_rest is_last = (λ m. there (by.0 m), λ h. by.1 (back h.0 h.1))
  where
    by : Matches mapping (items_in front ++ items_in end) text
        ↔ ((length (items_in end) ≤ length text) × Matches mapping (items_in front) (take (length text - length (items_in end)) text)
        × Matches mapping (items_in end) (drop (length text - length (items_in end)) text))
    by = run_last mapping (items_in front) (items_in end) text one

    there : (length (items_in end) ≤ length text) × Matches mapping (items_in front) (take (length text - length (items_in end)) text)
        × Matches mapping (items_in end) (drop (length text - length (items_in end)) text) → Matches mapping (items_in end) last × Matches mapping (items_in front) rest
    there h = (
      subst (Matches mapping (items_in end)) (ap (λ n. drop (length text - n) text) (length-map end decoded) ∙ sym is_last) h.2,
      subst
          (Matches mapping (items_in front)) (ap (λ n. take (length text - n) text) (length-map end decoded) ∙ sym is_rest) h.1,
    )

    back : Matches mapping (items_in end) last → Matches mapping (items_in front) rest
        → (length (items_in end) ≤ length text) × Matches mapping (items_in front) (take (length text - length (items_in end)) text)
        × Matches mapping (items_in end) (drop (length text - length (items_in end)) text)
    back m r = (
      omega (arith, length-map end decoded),
      subst (Matches mapping (items_in front))
          (is_rest ∙ ap (λ n. take (length text - n) text) (sym (length-map end decoded))) r,
      subst (Matches mapping (items_in end)) (is_last
          ∙ ap (λ n. drop (length text - n) text) (sym (length-map end decoded))) m,
    )

pub code_run_last_too_long : (mapping : Casemapping) (front end text : List ℕ) → AllOne (items_in end) → length text < length end → Matches mapping (items_in front ++ items_in end) text → ⊥
code_run_last_too_long mapping front end text one short m =
    let h = (run_last mapping (items_in front) (items_in end) text one).0 m in
    absurd (omega (arith, h.0, length-map end decoded))

-- what was passed over, and a walk over the rest
pub walked_all : (m f n rest old before count : ℕ) → f ≤ m → rest ≤ n → before ≤ old + m * (n - rest) → count ≤ before + f * rest → count ≤ old + m * n
walked_all m f n rest old before count few within h k =
    let a : f * rest ≤ m * rest = share f m rest few in
    let b : m * n ≡ m * (n - rest) + m * rest = ap (λ d. m * d) (let e : n ≡ (n - rest) + rest = omega arith in e) ∙ mul-add m (n - rest) rest in
    omega arith
