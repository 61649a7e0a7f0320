-- Items one after the other, each read in view of those before it, and the count before them.
use Rattle.std.proofs.Common.{◌≡◌, ℕ, zero, suc, ◌<◌, nat_le, true, List, [], ◌∷◌, ◌++◌, length, Ok, refl, sym, ap, subst, ◌∙◌, append_assoc, arith}
use Rattle.std.specs.List.{flat_map, AllByRecursion}
use Rattle.std.proofs.lemmas.Bool.Decides.{nat_tests}
use Rattle.std.proofs.lemmas.List.{append-nil}
use Rattle.std.proofs.lemmas.List.Concat.{flat_map-cons}
use Rattle.usercodec.specs.Fields.{counted, Reading, ◌>>=◌, count_at}
use Rattle.usercodec.specs.Laws.{Stays}
use Rattle.usercodec.specs.Records.{items_at, counted_at}
use Rattle.usercodec.proofs.Steps.{IsBytes, bind_ok, ok_is, Takes, Takes-then, stays_bind, NoTag, no_tag_bind}
use Rattle.usercodec.proofs.PartLaws.{IsPart}
use Rattle.usercodec.proofs.ItemSteps.{alone}
use Rattle.usercodec.proofs.FieldLaws.{IsField, byte_field, checked_field}

-- each item is good in view of those before it
abbrev pub AllGood : {A : Type 0} → (List A → A → Type 0) → List A → List A → Type 0
AllGood IsGood held [] = Unit {0}
AllGood IsGood held (x ∷ xs) = IsGood held x × AllGood IsGood (held ++ x ∷ []) xs

pub moved : {A : Type 0} (held : List A) (x : A) (xs : List A) → (held ++ x ∷ []) ++ xs ≡ held ++ x ∷ xs
moved held x xs = append_assoc held (x ∷ []) xs

-- what reading so many items took: those that are held, and as many more
pub record TakesItems {A : Type 0} (spelling : A → List ℕ) (IsGood : List A → A → Type 0) (count : ℕ) (held : List A) (bytes : List ℕ) (all : List A)
    (rest : List ℕ) : Type 0 where
  pub later : List A
  pub all_are : all ≡ held ++ later
  pub so_many : length later ≡ count
  pub front : Takes bytes (flat_map spelling later) rest
  pub good : AllGood IsGood held later

pub items_take : {A : Type 0} (item_at : List A → List ℕ → Reading A) (spelling : A → List ℕ) (IsGood : List A → A → Type 0)
    → ((held : List A) → IsPart (item_at held) spelling (IsGood held))
    → (count : ℕ) (held : List A) (bytes : List ℕ) (all : List A) (rest : List ℕ) → IsBytes bytes → items_at item_at count held bytes ≡ Ok (all, rest)
    → TakesItems spelling IsGood count held bytes all rest
unfolding items_at
items_take {A = A} item_at spelling IsGood part zero held bytes all rest fits e =
    let same = ok_is (held, bytes) (all, rest) e in
    subst (λ (p : List A × List ℕ). TakesItems spelling IsGood 0 held bytes p.0 p.1) same
    (record { later = []; all_are = sym (append-nil held); so_many = refl; front = record { parts = refl; rest_fits = fits }; good = tt })
items_take {A = A} item_at spelling IsGood part (suc count) held bytes all rest fits e =
    let a = bind_ok (item_at held bytes) (λ item. items_at item_at count (held ++ item.0 ∷ []) item.1) (all, rest) e in
    let x = a.0.0 in
    let t = (part held).takes bytes x a.0.1 fits a.1 in
    let more = items_take item_at spelling IsGood part count (held ++ x ∷ []) a.0.1 all rest t.0.rest_fits a.2 in
    let both = Takes-then bytes (spelling x) a.0.1 (flat_map spelling more.later) rest t.0 more.front in
    record {
      later = x ∷ more.later;
      all_are = more.all_are ∙ moved held x more.later;
      so_many = ap suc more.so_many;
      front = subst (λ (b : List ℕ). Takes bytes b rest) (sym (flat_map-cons spelling x more.later)) both;
      good = (t.1, more.good);
    }

pub items_again : {A : Type 0} (item_at : List A → List ℕ → Reading A) (spelling : A → List ℕ) (IsGood : List A → A → Type 0)
    → ((held : List A) → IsPart (item_at held) spelling (IsGood held))
    → (held later : List A) (rest : List ℕ) → AllGood IsGood held later
    → items_at item_at (length later) held (flat_map spelling later ++ rest) ≡ Ok (held ++ later, rest)
unfolding items_at
items_again item_at spelling IsGood part held [] rest good = ap (λ h. Ok (h, rest)) (sym (append-nil held))
items_again item_at spelling IsGood part held (x ∷ later) rest good =
    let after = flat_map spelling later ++ rest in
    let grouped : flat_map spelling (x ∷ later) ++ rest ≡ spelling x ++ after =
    ap (λ (b : List ℕ). b ++ rest) (flat_map-cons spelling x later) ∙ append_assoc (spelling x) (flat_map spelling later) rest in
    let first : item_at held (spelling x ++ after) ≡ Ok (x, after) = (part held).again x after good.0 in
    ap (items_at item_at (suc (length later)) held) grouped
    ∙ ap (λ r. r >>= λ item. items_at item_at (length later) (held ++ item.0 ∷ []) item.1) first
    ∙ items_again item_at spelling IsGood part (held ++ x ∷ []) later rest good.1
    ∙ ap (λ h. Ok (h, rest)) (moved held x later)

items_stay : {A : Type 0} (item_at : List A → List ℕ → Reading A) (spelling : A → List ℕ) (IsGood : List A → A → Type 0)
    → ((held : List A) → IsField (item_at held) spelling (IsGood held))
    → (count : ℕ) (held : List A) (bytes more : List ℕ) → Stays (items_at item_at count held bytes) (items_at item_at count held (bytes ++ more)) more
unfolding items_at
items_stay item_at spelling IsGood field zero held bytes more = refl
items_stay item_at spelling IsGood field (suc count) held bytes more =
    stays_bind (item_at held bytes) _ _ more ((field held).laws.stays bytes more)
    (λ item. items_stay item_at spelling IsGood field count (held ++ item.0 ∷ []) item.1 more)

items_no_tag : {A : Type 0} (item_at : List A → List ℕ → Reading A) (spelling : A → List ℕ) (IsGood : List A → A → Type 0)
    → ((held : List A) → IsField (item_at held) spelling (IsGood held))
    → (count : ℕ) (held : List A) (bytes : List ℕ) → NoTag (items_at item_at count held bytes)
unfolding items_at
items_no_tag item_at spelling IsGood field zero held bytes = tt
items_no_tag item_at spelling IsGood field (suc count) held bytes =
    no_tag_bind (item_at held bytes) _ ((field held).no_tag bytes) (λ item. items_no_tag item_at spelling IsGood field count (held ++ item.0 ∷ []) item.1)

-- ---- counts

count_field : (most : ℕ) → most < 256 → IsField (count_at most) (λ n. n ∷ []) (λ n. nat_le n most ≡ true)
unfolding count_at
count_field most small = checked_field byte_field (λ n. nat_le n most) (λ n passes. fits n passes)
  where
    fits : (n : ℕ) → nat_le n most ≡ true → n < 256
    fits n passes = grind (arith, nat_tests)

-- items of which there are few enough, each good in view of those before it
pub record AreCounted {A : Type 0} (IsGood : List A → A → Type 0) (most : ℕ) (items : List A) : Type 0 where
  pub few : nat_le (length items) most ≡ true
  pub good : AllGood IsGood [] items

module _ {A : Type 0} (item_at : List A → List ℕ → Reading A) (spelling : A → List ℕ) (IsGood : List A → A → Type 0)
    (part : (held : List A) → IsPart (item_at held) spelling (IsGood held)) (most : ℕ) (small : most < 256) where
  counted_takes : (bytes : List ℕ) (x : List A) (rest : List ℕ) → IsBytes bytes → counted_at most item_at bytes ≡ Ok (x, rest)
      → Takes bytes (counted spelling x) rest × AreCounted IsGood most x
  counted_takes bytes x rest fits e =
      let a = bind_ok (count_at most bytes) (λ count. items_at item_at count.0 [] count.1) (x, rest) e in
      let t = (count_field most small).laws.part.takes bytes a.0.0 a.0.1 fits a.1 in
      let u = items_take item_at spelling IsGood part a.0.0 [] a.0.1 x rest t.0.rest_fits a.2 in
      let whole : Takes bytes (counted spelling u.later) rest =
      subst (λ (n : ℕ). Takes bytes (n ∷ flat_map spelling u.later) rest) (sym u.so_many)
      (Takes-then bytes (a.0.0 ∷ []) a.0.1 (flat_map spelling u.later) rest t.0 u.front) in
      let few : nat_le (length u.later) most ≡ true = ap (λ (n : ℕ). nat_le n most) u.so_many ∙ t.1 in
      subst (λ (y : List A). Takes bytes (counted spelling y) rest × AreCounted IsGood most y) (sym u.all_are)
      (whole, record { few = few; good = u.good })

  counted_again : (x : List A) (rest : List ℕ) → AreCounted IsGood most x → counted_at most item_at (counted spelling x ++ rest) ≡ Ok (x, rest)
  counted_again x rest good =
      ap (λ r. r >>= λ count. items_at item_at count.0 [] count.1) ((count_field most small).laws.part.again (length x) (flat_map spelling x ++ rest) good.few)
      ∙ items_again item_at spelling IsGood part [] x rest good.good

pub counted_field : {A : Type 0} (item_at : List A → List ℕ → Reading A) (spelling : A → List ℕ) (IsGood : List A → A → Type 0)
    → ((held : List A) → IsField (item_at held) spelling (IsGood held))
    → (most : ℕ) → most < 256 → IsField (counted_at most item_at) (counted spelling) (AreCounted IsGood most)
counted_field {A = A} item_at spelling IsGood field most small = record {
  laws = record {
    part = record {
      takes = counted_takes item_at spelling IsGood (λ held. (field held).laws.part) most small;
      again = counted_again item_at spelling IsGood (λ held. (field held).laws.part) most small;
    };
    stays = stays;
  };
  no_tag = no_tag;
}
  where
    stays : (bytes more : List ℕ) → Stays (counted_at most item_at bytes) (counted_at most item_at (bytes ++ more)) more
    stays bytes more =
        stays_bind (count_at most bytes) _ _ more ((count_field most small).laws.stays bytes more)
        (λ count. items_stay item_at spelling IsGood field count.0 [] count.1 more)

    no_tag : (bytes : List ℕ) → NoTag (counted_at most item_at bytes)
    no_tag bytes =
        no_tag_bind (count_at most bytes) _ ((count_field most small).no_tag bytes)
        (λ count. items_no_tag item_at spelling IsGood field count.0 [] count.1)

-- ---- items that are each good by itself, for callers

pub all_good : {A : Type 0} (IsGood : A → Type 0) (held xs : List A) → AllGood (λ before. IsGood) held xs → AllByRecursion IsGood xs
all_good IsGood held [] good = tt
all_good IsGood held (x ∷ xs) good = (good.0, all_good IsGood (held ++ x ∷ []) xs good.1)

pub good_all : {A : Type 0} (IsGood : A → Type 0) (held xs : List A) → AllByRecursion IsGood xs → AllGood (λ before. IsGood) held xs
good_all IsGood held [] good = tt
good_all IsGood held (x ∷ xs) good = (good.0, good_all IsGood (held ++ x ∷ []) xs good.1)

pub counted_part : {A : Type 0} {item_at : List ℕ → Reading A} {spelling : A → List ℕ} {IsGood : A → Type 0} → IsPart item_at spelling IsGood
    → (most : ℕ) → most < 256
    → IsPart (counted_at most (alone item_at)) (counted spelling) (λ items. (nat_le (length items) most ≡ true) × AllByRecursion IsGood items)
counted_part {A = A} {item_at = item_at} {spelling = spelling} {IsGood = IsGood} part most small = record { takes = takes; again = again }
  where
    takes : (bytes : List ℕ) (x : List A) (rest : List ℕ) → IsBytes bytes → counted_at most (alone item_at) bytes ≡ Ok (x, rest)
        → Takes bytes (counted spelling x) rest × ((nat_le (length x) most ≡ true) × AllByRecursion IsGood x)
    takes bytes x rest fits e =
        let t = counted_takes (alone item_at) spelling (λ before. IsGood) (λ before. part) most small bytes x rest fits e in
        (t.0, (t.1.few, all_good IsGood [] x t.1.good))

    again : (x : List A) (rest : List ℕ) → ((nat_le (length x) most ≡ true) × AllByRecursion IsGood x)
        → counted_at most (alone item_at) (counted spelling x ++ rest) ≡ Ok (x, rest)
    again x rest good =
        counted_again (alone item_at) spelling (λ before. IsGood) (λ before. part) most small x rest
        (record { few = good.0; good = good_all IsGood [] x good.1 })
