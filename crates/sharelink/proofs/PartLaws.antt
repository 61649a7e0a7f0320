-- Parts that are kept, and a walk over the records of all of them.
use Rattle.std.proofs.Common.{◌≡◌, ℕ, zero, suc, ◌+◌, ◌-◌, ◌<◌, ◌≤◌, ◌==◌, Bool, true, false, ◌&&◌, if◌then◌else◌, List, [], ◌∷◌, ◌++◌, length, take, drop, slice_set, Option, None, Some, is_some, refl, ap, sym, subst, ◌∙◌, arith, ne_eqb, append-nil, append_assoc}
use Rattle.std.specs.List.{AllByRecursion, list_all}
use Rattle.usercodec.specs.declared.records.Record.{Record}
use Rattle.usercodec.specs.Records.{IsGoodRecord}
use Rattle.protocol.specs.Snapshots.{PartSet, joined_next, joined, no_places, set_for, with_part}
use Rattle.sharelink.specs.Parts.{flat, AreGoodParts}

-- ---- places

pub no_places-more : (count : ℕ) → no_places count ++ None ∷ [] ≡ no_places (count + 1)
no_places-more count = more count ∙ ap no_places (let n : suc count ≡ count + 1 = omega arith in n)
  where
    more : (n : ℕ) → no_places n ++ None ∷ [] ≡ no_places (suc n)
    more zero = refl
    more (suc n) = ap (λ (ps : List (Option (List Record))). None ∷ ps) (more n)

pub no_places-good : (count : ℕ) → AreGoodParts (no_places count)
no_places-good zero = tt
no_places-good (suc count) = no_places-good count

pub no_places-length : (count : ℕ) → length (no_places count) ≡ count
no_places-length zero = refl
no_places-length (suc count) = ap suc (no_places-length count)

pub good-set : (parts : List (Option (List Record))) (place : ℕ) (items : List Record) → AreGoodParts parts
    → AllByRecursion IsGoodRecord items → AreGoodParts (slice_set parts place (Some items))
good-set [] place items good one = tt
good-set (None ∷ parts) zero items good one = (one, good)
good-set (Some part ∷ parts) zero items good one = (one, good.1)
good-set (None ∷ parts) (suc place) items good one = good-set parts place items good one
good-set (Some part ∷ parts) (suc place) items good one = (good.0, good-set parts place items good.1 one)

-- ---- records of good shape

good-append : (xs ys : List Record) → AllByRecursion IsGoodRecord xs → AllByRecursion IsGoodRecord ys
    → AllByRecursion IsGoodRecord (xs ++ ys)
good-append [] ys first then_ = then_
good-append (x ∷ xs) ys first then_ = (first.0, good-append xs ys first.1 then_)

good-flat : (parts : List (Option (List Record))) → AreGoodParts parts → AllByRecursion IsGoodRecord (flat parts)
good-flat [] good = tt
good-flat (None ∷ parts) good = good-flat parts good
good-flat (Some items ∷ parts) good = good-append items (flat parts) good.0 (good-flat parts good.1)

good-take : (place : ℕ) (parts : List (Option (List Record))) → AreGoodParts parts → AreGoodParts (take place parts)
good-take zero parts good = tt
good-take (suc place) [] good = tt
good-take (suc place) (None ∷ parts) good = good-take place parts good
good-take (suc place) (Some items ∷ parts) good = (good.0, good-take place parts good.1)

good-drop : (place : ℕ) (parts : List (Option (List Record))) → AreGoodParts parts → AreGoodParts (drop place parts)
good-drop zero parts good = good
good-drop (suc place) [] good = tt
good-drop (suc place) (None ∷ parts) good = good-drop place parts good
good-drop (suc place) (Some items ∷ parts) good = good-drop place parts good.1

pub good-whole : (parts front back : List (Option (List Record))) (place next : ℕ) (items : List Record) → AreGoodParts parts
    → AllByRecursion IsGoodRecord items → front ≡ take place parts → back ≡ drop next parts
    → AllByRecursion IsGoodRecord (flat front ++ (items ++ flat back))
good-whole parts front back place next items good one first last =
    good-append (flat front) (items ++ flat back)
    (subst (λ ps. AllByRecursion IsGoodRecord (flat ps)) (sym first) (good-flat (take place parts) (good-take place parts good)))
    (good-append items (flat back) one
    (subst (λ ps. AllByRecursion IsGoodRecord (flat ps)) (sym last) (good-flat (drop next parts) (good-drop next parts good))))

-- ---- parts that are all there

-- what is joined where these parts are all there
abbrev whole_if : Bool → List Record → Option (List Record)
whole_if there items = if there then Some items else None

next-if : (part items : List Record) (b : Bool) → joined_next (Some part) (whole_if b items) ≡ whole_if b (part ++ items)
next-if part items true = refl
next-if part items false = refl

joined-there : (parts : List (Option (List Record))) → joined parts ≡ whole_if (list_all is_some parts) (flat parts)
joined-there [] = refl
joined-there (None ∷ parts) = refl
joined-there (Some items ∷ parts) =
    ap (joined_next (Some items)) (joined-there parts) ∙ next-if items (flat parts) (list_all is_some parts)

-- with one of them replaced
joined-set : (parts : List (Option (List Record))) (place : ℕ) (items : List Record) → place < length parts
    → joined (slice_set parts place (Some items))
    ≡ whole_if (list_all is_some (take place parts) && list_all is_some (drop (suc place) parts))
    (flat (take place parts) ++ (items ++ flat (drop (suc place) parts)))
joined-set [] place items within = absurd (omega (arith, within))
joined-set (part ∷ parts) zero items within =
    ap (joined_next (Some items)) (joined-there parts) ∙ next-if items (flat parts) (list_all is_some parts)
joined-set (None ∷ parts) (suc place) items within = refl
joined-set (Some first ∷ parts) (suc place) items within =
    ap (joined_next (Some first)) (joined-set parts place items (omega (arith, within)))
    ∙ next-if first (flat (take place parts) ++ (items ++ flat (drop (suc place) parts)))
    (list_all is_some (take place parts) && list_all is_some (drop (suc place) parts))
    ∙ ap (whole_if (list_all is_some (take place parts) && list_all is_some (drop (suc place) parts)))
    (sym (append_assoc first (flat (take place parts)) (items ++ flat (drop (suc place) parts))))

module _ (parts front back : List (Option (List Record))) (place next : ℕ) (items : List Record) (within : place < length parts)
    (first : front ≡ take place parts) (last : back ≡ drop next parts) (after : next ≡ suc place) where
  split : joined (slice_set parts place (Some items))
      ≡ whole_if (list_all is_some front && list_all is_some back) (flat front ++ (items ++ flat back))
  split =
      let same : back ≡ drop (suc place) parts = last ∙ ap (λ n. drop n parts) after in
      joined-set parts place items within
      ∙ ap (λ f. whole_if (list_all is_some f && list_all is_some (drop (suc place) parts)) (flat f ++ (items ++ flat (drop (suc place) parts)))) (sym first)
      ∙ ap (λ b. whole_if (list_all is_some front && list_all is_some b) (flat front ++ (items ++ flat b))) (sym same)

  pub joined-whole : list_all is_some front ≡ true → list_all is_some back ≡ true
      → joined (slice_set parts place (Some items)) ≡ Some (flat front ++ (items ++ flat back))
  joined-whole f b =
      split ∙ ap (λ t. whole_if (t && list_all is_some back) (flat front ++ (items ++ flat back))) f
      ∙ ap (λ t. whole_if t (flat front ++ (items ++ flat back))) b

  pub joined-lacks-front : list_all is_some front ≡ false → joined (slice_set parts place (Some items)) ≡ None
  joined-lacks-front f = split ∙ ap (λ t. whole_if (t && list_all is_some back) (flat front ++ (items ++ flat back))) f

  pub joined-lacks-back : list_all is_some front ≡ true → list_all is_some back ≡ false
      → joined (slice_set parts place (Some items)) ≡ None
  joined-lacks-back f b =
      split ∙ ap (λ t. whole_if (t && list_all is_some back) (flat front ++ (items ++ flat back))) f
      ∙ ap (λ t. whole_if t (flat front ++ (items ++ flat back))) b

not-one : (count : ℕ) (items : List Record) → (if suc (suc count) == 1 then Some items else None) ≡ None
not-one count items = ap (λ b. if b then Some items else None) (ne_eqb (suc (suc count)) 1 (λ is. omega (arith, is)))

-- one part among places that are empty
pub joined-alone : (count place : ℕ) (items : List Record) → place < count
    → joined (slice_set (no_places count) place (Some items)) ≡ (if count == 1 then Some items else None)
joined-alone zero place items within = absurd (omega (arith, within))
joined-alone (suc zero) zero items within = ap (λ l. Some l) (append-nil items)
joined-alone (suc zero) (suc place) items within = absurd (omega (arith, within))
joined-alone (suc (suc count)) zero items within = sym (not-one count items)
joined-alone (suc (suc count)) (suc place) items within = sym (not-one count items)

-- the set that a part goes into, where it isn't the kept one
pub alone-in : (kept : Option PartSet) (version count part : ℕ) (items : List Record) (answer : Option (List Record)) → 0 < part → part ≤ count
    → (set_for kept version count).parts ≡ no_places count → answer ≡ (if count == 1 then Some items else None)
    → joined (with_part (set_for kept version count) part items).parts ≡ answer
alone-in kept version count part items answer above within new is =
    ap (λ ps. joined (slice_set ps (part - 1) (Some items))) new ∙ joined-alone count (part - 1) items (omega (arith, above, within)) ∙ sym is

pub other-set : (set : PartSet) (version count : ℕ) → ((set.version == version) && (length set.parts == count)) ≡ false
    → (set_for (Some set) version count).parts ≡ no_places count
other-set set version count is = ap (λ b. (if b then set else record { version = version; parts = no_places count }).parts) is
