-- The parts of the records at a version, put together, are those records.
use Rattle.std.proofs.Common.{◌≡◌, ℕ, zero, suc, ◌+◌, ◌-◌, ◌*◌, ◌/◌, ◌≤◌, ◌==◌, Bool, true, false, ◌&&◌, if◌then◌else◌, List, [], ◌∷◌, ◌++◌, length, take, drop, slice_get, slice_set, Option, None, Some, refl, ap, sym, ◌∙◌, drop-drop, arith}
use Rattle.std.proofs.lemmas.Bool.{eqb-true, and_parts}
use Rattle.std.proofs.lemmas.List.{take_all}
use Rattle.std.proofs.Math.Seq.{take-add}
use Rattle.userfile.specs.Records.{Records}
use Rattle.userfile.specs.declared.user.User.{User}
use Rattle.userfile.specs.declared.ban.Ban.{Ban}
use Rattle.usercodec.specs.declared.records.Record.{Record}
use Rattle.protocol.specs.Numbers.{item_at}
use Rattle.protocol.specs.Packets.{AcceptedChange}
use Rattle.protocol.specs.Snapshots.{user_items, ban_items, items_of, part_of, users_in, bans_in, records_from, PartSet, joined_next, joined, no_places, no_parts, set_for, with_part}
use Rattle.protocol.specs.History.{records_of}
use Rattle.protocol.specs.Truth.{IsPart}
use Rattle.protocol.specs.Soundness.{IsTrueSet}
use Rattle.protocol.proofs.Lists.{slice_set-elim}

-- ---- items to records

users_in-users : (us : List User) (bs : List Ban) → users_in (user_items us ++ ban_items bs) ≡ us
users_in-users [] [] = refl
users_in-users [] (b ∷ bs) = users_in-users [] bs
users_in-users (u ∷ us) bs = ap (λ l. u ∷ l) (users_in-users us bs)

bans_in-users : (us : List User) (bs : List Ban) → bans_in (user_items us ++ ban_items bs) ≡ bs
bans_in-users [] [] = refl
bans_in-users [] (b ∷ bs) = ap (λ l. b ∷ l) (bans_in-users [] bs)
bans_in-users (u ∷ us) bs = bans_in-users us bs

pub records_from-items : (r : Records) → records_from (items_of r) ≡ r
records_from-items r = rw (users_in-users r.users r.bans, bans_in-users r.users r.bans) refl

-- ---- joining

-- parts from one on, each of them the part of its number, joined: this number of items from there on
joined_is : (items : List Record) (parts : List (Option (List Record))) (k : ℕ)
    → ((place : ℕ) (part : List Record) → slice_get parts place ≡ Some (Some part) → part ≡ take 8 (drop (8 * (k + place)) items))
    → (whole : List Record) → joined parts ≡ Some whole → whole ≡ take (8 * length parts) (drop (8 * k) items)
joined_is items [] k are whole e = let same : [] ≡ whole = cc in sym same
joined_is items (first ∷ parts) k are whole e =
    by first (are zero) (joined parts) (joined_is items parts (k + 1) (λ place part f. are (suc place) part f ∙ moved place)) e
  where
    moved : (place : ℕ) → take 8 (drop (8 * (k + suc place)) items) ≡ take 8 (drop (8 * (k + 1 + place)) items)
    moved place = ap (λ n. take 8 (drop n items)) (let n : 8 * (k + suc place) ≡ 8 * (k + 1 + place) = omega arith in n)

    by : (a : Option (List Record)) → ((part : List Record) → Some a ≡ Some (Some part) → part ≡ take 8 (drop (8 * (k + 0)) items))
        → (b : Option (List Record)) → ((rest : List Record) → b ≡ Some rest → rest ≡ take (8 * length parts) (drop (8 * (k + 1)) items))
        → joined_next a b ≡ Some whole → whole ≡ take (8 * suc (length parts)) (drop (8 * k) items)
    by None is b after f = cc
    by (Some part) is None after f = cc
    by (Some part) is (Some rest) after f =
        let same : part ++ rest ≡ whole = cc in
        let one : part ≡ take 8 (drop (8 * k) items) =
        is part refl ∙ ap (λ n. take 8 (drop n items)) (let n : 8 * (k + 0) ≡ 8 * k = omega arith in n) in
        let next : drop (8 * (k + 1)) items ≡ drop 8 (drop (8 * k) items) =
        ap (λ n. drop n items) (let n : 8 * (k + 1) ≡ 8 * k + 8 = omega arith in n) ∙ sym (drop-drop 8 (8 * k) items) in
        let count : 8 + 8 * length parts ≡ 8 * suc (length parts) = omega arith in
        sym same ∙ ap (λ l. l ++ rest) one ∙ ap (λ l. take 8 (drop (8 * k) items) ++ l) (after rest refl ∙ ap (take (8 * length parts)) next)
        ∙ sym (take-add 8 (8 * length parts) (drop (8 * k) items)) ∙ ap (λ n. take n (drop (8 * k) items)) count

-- this number of parts are all
enough : (n : ℕ) → n ≤ 8 * ((n - 1) / 8 + 1)
enough n = omega arith

pub whole_is : (xs : List AcceptedChange) (set : PartSet) (items : List Record) → IsTrueSet xs set
    → joined set.parts ≡ Some items → records_from items ≡ records_of xs set.version
whole_is xs set items t e =
    let r = records_of xs set.version in
    let is : items ≡ take (8 * length set.parts) (items_of r) = joined_is (items_of r) set.parts 0 these items e in
    let all : take (8 * length set.parts) (items_of r) ≡ items_of r =
    take_all (8 * length set.parts) (items_of r) (rw t.many (enough (length (items_of r)))) in
    ap records_from (is ∙ all) ∙ records_from-items r
  where
    these : (place : ℕ) (part : List Record) → slice_get set.parts place ≡ Some (Some part)
        → part ≡ take 8 (drop (8 * (0 + place)) (items_of (records_of xs set.version)))
    these place part f =
        t.these (suc place) part f
        ∙ ap (λ n. take 8 (drop n (items_of (records_of xs set.version)))) (let n : 8 * (suc place - 1) ≡ 8 * (0 + place) = omega arith in n)

-- ---- one more part

no_places-none : (count place : ℕ) (items : List Record) → slice_get (no_places count) place ≡ Some (Some items) → ⊥
no_places-none zero place items e = cc
no_places-none (suc count) zero items e = cc
no_places-none (suc count) (suc place) items e = no_places-none count place items e

pub no_places-length : (count : ℕ) → length (no_places count) ≡ count
no_places-length zero = refl
no_places-length (suc count) = ap suc (no_places-length count)

slice_set-length : {X : Type 0} (xs : List X) (i : ℕ) (x : X) → length (slice_set xs i x) ≡ length xs
slice_set-length [] i x = refl
slice_set-length (y ∷ xs) zero x = refl
slice_set-length (y ∷ xs) (suc i) x = ap suc (slice_set-length xs i x)

no_parts_true : (xs : List AcceptedChange) (s k : ℕ) (i : ℕ) (items : List Record) → IsPart xs s i k items
    → IsTrueSet xs (no_parts s k)
no_parts_true xs s k i items t = record { reached = t.reached; many = no_places-length k ∙ t.many; these = none }
  where
    none : (number : ℕ) (items' : List Record) → item_at (no_places k) number ≡ Some (Some items')
        → items' ≡ part_of (records_of xs s) number
    none zero items' e = cc
    none (suc place) items' e = absurd (no_places-none k place items' e)

pub with_part_true : (xs : List AcceptedChange) (kept : Option PartSet) (s i k : ℕ) (items : List Record)
    → ((set : PartSet) → kept ≡ Some set → IsTrueSet xs set) → IsPart xs s i k items
    → IsTrueSet xs (with_part (set_for kept s k) i items)
with_part_true xs kept s i k items are t = to (set_for kept s k) (chosen kept refl).0 (chosen kept refl).1
  where
    chosen : (o : Option PartSet) → kept ≡ o → ((set_for o s k).version ≡ s) × IsTrueSet xs (set_for o s k)
    chosen None e = (refl, no_parts_true xs s k i items t)
    chosen (Some set) e = by ((set.version == s) && (length set.parts == k)) refl
      where
        by : (b : Bool) → ((set.version == s) && (length set.parts == k)) ≡ b
            → ((if b then set else no_parts s k).version ≡ s) × IsTrueSet xs (if b then set else no_parts s k)
        by true f = (eqb-true set.version s (and_parts _ _ f).0, are set e)
        by false f = (refl, no_parts_true xs s k i items t)

    to : (set : PartSet) → set.version ≡ s → IsTrueSet xs set → IsTrueSet xs (with_part set i items)
    to set is st = record { reached = st.reached; many = slice_set-length set.parts (i - 1) (Some items) ∙ st.many; these = these }
      where
        IsThis : ℕ → Option (List Record) → Type 0
        IsThis place o = (items' : List Record) → o ≡ Some items' → items' ≡ part_of (records_of xs set.version) (suc place)

        here : IsThis (i - 1) (Some items)
        here items' e =
            let same : items ≡ items' = cc in
            sym same ∙ t.these ∙ ap (λ v. part_of (records_of xs v) i) (sym is)
            ∙ ap (λ n. take 8 (drop (8 * n) (items_of (records_of xs set.version)))) (let n : i - 1 ≡ suc (i - 1) - 1 = omega arith in n)

        these : (number : ℕ) (items' : List Record) → item_at (slice_set set.parts (i - 1) (Some items)) number ≡ Some (Some items')
            → items' ≡ part_of (records_of xs set.version) number
        these zero items' e = cc
        these (suc place) items' e =
            slice_set-elim IsThis set.parts (i - 1) (Some items) here
            (λ j o f items'' g. st.these (suc j) items'' (f ∙ ap (λ p. Some p) g)) place (Some items') e items' refl

pub set_for-version : (kept : Option PartSet) (s k : ℕ) → (set_for kept s k).version ≡ s
set_for-version None s k = refl
set_for-version (Some set) s k = by ((set.version == s) && (length set.parts == k)) refl
  where
    by : (b : Bool) → ((set.version == s) && (length set.parts == k)) ≡ b → (if b then set else no_parts s k).version ≡ s
    by true f = eqb-true set.version s (and_parts _ _ f).0
    by false f = refl
