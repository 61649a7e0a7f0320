-- A record has one count and one body, and a stream opens one way.
use Rattle.std.proofs.Common.{◌≡◌, ℕ, suc, ◌+◌, ◌^◌, ◌<◌, ◌≤◌, List, [], ◌∷◌, ◌++◌, length, take, drop, Ok, Err, refl, sym, ap, subst, ◌∙◌}
use Rattle.std.proofs.Common.{append_assoc, append-nil, arith, length-append, take_at, drop_at}
use Rattle.std.proofs.lemmas.Nat.{from_be_bytes-to_be_bytes_2, from_be_bytes-to_be_bytes_8}
use Rattle.std.specs.Int.{w16, w64, to_be_bytes, from_be_bytes}
use Rattle.std.specs.List.{AllByRecursion}
use Rattle.sealing.specs.declared.fault.SealFault.{SealFault}
use Rattle.sealing.specs.declared.fault.SealFault.TheVariants.{BadLength, BadTag, Spent, Failed}
use Rattle.sealing.specs.Records.{tagged, tag_of, IsLength, IsBody, sealed, all_sealed}
use Rattle.sealing.specs.Streams.{said, body_in, tag_in, max_records, IsUnfinished, HasFault, Ending, Ends, Opening, Opens}
use Rattle.sealing.proofs.RecordLemmas.{length-tag, all_sealed-append}

-- ---- counts

-- each record of a stream has its own count
pub counted : (key : List ℕ) (first : ℕ) (bodies more : List (List ℕ)) (body : List ℕ)
    → all_sealed key first (bodies ++ body ∷ more)
    ≡ all_sealed key first bodies ++ (sealed key (first + length bodies) body ++ all_sealed key (first + length bodies + 1) more)
counted key first bodies more body = all_sealed-append key first bodies (body ∷ more)

-- what is tagged has one count and one body
pub tagged_apart : (one other : ℕ) (a b : List ℕ) → one ≤ max_records → other ≤ max_records → tagged one a ≡ tagged other b
    → (one ≡ other) × (a ≡ b)
tagged_apart one other a b few_one few_other e =
    let counts : to_be_bytes w64 one ≡ to_be_bytes w64 other =
    sym (take_at (to_be_bytes w64 one) a 8 refl) ∙ ap (take 8) e ∙ take_at (to_be_bytes w64 other) b 8 refl in (
      sym (from_be_bytes-to_be_bytes_8 one (omega arith)) ∙ ap (from_be_bytes w64) counts ∙ from_be_bytes-to_be_bytes_8 other (omega arith),
      sym (drop_at (to_be_bytes w64 one) a 8 refl) ∙ ap (drop 8) e ∙ drop_at (to_be_bytes w64 other) b 8 refl,
    )

-- ---- the record at the front

-- what is read of bytes that begin with a record
record IsRead (key : List ℕ) (count : ℕ) (bytes body rest : List ℕ) : Type 0 where
  pub said_is : said bytes ≡ length body
  pub body_is : body_in bytes ≡ body
  pub tag_is : length (tag_of key count body) ≡ 16 → tag_in bytes ≡ tag_of key count body
  pub long : length (tag_of key count body) ≡ 16 → 2 + said bytes + 16 ≤ length bytes
  pub rest_is : length (tag_of key count body) ≡ 16 → drop (length body + 16) (drop 2 bytes) ≡ rest

is_read : (key : List ℕ) (count : ℕ) (bytes body rest : List ℕ) → IsBody body → bytes ≡ sealed key count body ++ rest
    → IsRead key count bytes body rest
is_read key count bytes body rest good e = subst (λ (b : List ℕ). IsRead key count b body rest) (sym (e ∙ regrouped)) here
  where
    tag : List ℕ
    tag = tag_of key count body

    of : List ℕ
    of = to_be_bytes w16 (length body) ++ (body ++ (tag ++ rest))

    regrouped : sealed key count body ++ rest ≡ of
    regrouped = append_assoc (to_be_bytes w16 (length body)) (body ++ tag) rest
        ∙ ap (λ (l : List ℕ). to_be_bytes w16 (length body) ++ l) (append_assoc body tag rest)

    small : length body < 2 ^ 16
    small = omega arith

    n : said of ≡ length body
    n = from_be_bytes-to_be_bytes_2 (length body) small

    behind : drop (2 + length body) of ≡ tag ++ rest
    behind = drop_at (to_be_bytes w16 (length body) ++ body) (tag ++ rest) (2 + length body) (omega (arith, length-append (to_be_bytes w16 (length body)) body))

    here : IsRead key count of body rest
    here = record {
      said_is = n;
      body_is = ap (λ (k : ℕ). take k (body ++ (tag ++ rest))) n ∙ take_at body (tag ++ rest) (length body) refl;
      tag_is = λ len. ap (λ (k : ℕ). take 16 (drop (2 + k) of)) n ∙ ap (take 16) behind ∙ take_at tag rest 16 len;
      long = λ len. omega (arith, n, len, length-append body (tag ++ rest), length-append tag rest);
      rest_is = λ len. ap (drop (length body + 16)) (sym (append_assoc body tag rest))
          ∙ drop_at (body ++ tag) rest (length body + 16) (omega (arith, len, length-append body tag));
    }

-- two records at the front of the same bytes, at one count, are one
apart : (key : List ℕ) (count : ℕ) (a b x y : List ℕ) → IsBody a → IsBody b → sealed key count a ++ x ≡ sealed key count b ++ y → (a ≡ b) × (x ≡ y)
apart key count a b x y good_a good_b e =
    let s = is_read key count (sealed key count a ++ x) a x good_a refl in
    let t = is_read key count (sealed key count a ++ x) b y good_b e in
    let same : a ≡ b = sym s.body_is ∙ t.body_is in (
      same,
      sym (s.rest_is (length-tag key count a))
          ∙ ap (λ (k : List ℕ). drop (length k + 16) (drop 2 (sealed key count a ++ x))) same ∙ t.rest_is (length-tag key count b),
    )

-- ---- endings

-- no stream ends at a whole record
not_ended : (key : List ℕ) (count : ℕ) (ending : Ending) (bytes body rest : List ℕ) → count < max_records → IsBody body
    → bytes ≡ sealed key count body ++ rest → Ends key count bytes ending → ⊥
not_ended key count (Ok begun) bytes body rest few good e ends =
    let s = is_read key count bytes body rest good e in
    let long = s.long (length-tag key count body) in
    let cut = ends.1.1.cut (omega (arith, long)) in omega (arith, long, cut)
not_ended key count (Err BadLength) bytes body rest few good e bad =
    let s = is_read key count bytes body rest good e in bad.1.1 (subst IsLength (sym s.said_is) good)
not_ended key count (Err BadTag) bytes body rest few good e bad =
    let s = is_read key count bytes body rest good e in
    bad.1.1.1 (ap (tag_of key count) s.body_is ∙ sym (s.tag_is (length-tag key count body)))
not_ended key count (Err Spent) bytes body rest few good e bad = omega (arith, bad)
not_ended key count (Err Failed) bytes body rest few good e bad = bad

one_fault : (key : List ℕ) (count : ℕ) (a b : SealFault) (bytes : List ℕ) → HasFault key count a bytes → HasFault key count b bytes → a ≡ b
one_fault key count BadLength BadLength bytes p q = refl
one_fault key count BadLength BadTag bytes p q = absurd (p.1.1 q.1.0)
one_fault key count BadLength Spent bytes p q = absurd (omega (arith, p.0, q))
one_fault key count BadLength Failed bytes p q = absurd q
one_fault key count BadTag BadLength bytes p q = absurd (q.1.1 p.1.0)
one_fault key count BadTag BadTag bytes p q = refl
one_fault key count BadTag Spent bytes p q = absurd (omega (arith, p.0, q))
one_fault key count BadTag Failed bytes p q = absurd q
one_fault key count Spent BadLength bytes p q = absurd (omega (arith, p, q.0))
one_fault key count Spent BadTag bytes p q = absurd (omega (arith, p, q.0))
one_fault key count Spent Spent bytes p q = refl
one_fault key count Spent Failed bytes p q = absurd q
one_fault key count Failed b bytes p q = absurd p

not_both : (key : List ℕ) (count : ℕ) (fault : SealFault) (bytes : List ℕ) → count < max_records → IsUnfinished bytes
    → HasFault key count fault bytes → ⊥
not_both key count BadLength bytes few cut bad = bad.1.1 (cut.fits bad.1.0)
not_both key count BadTag bytes few cut bad =
    let short = cut.cut (omega (arith, bad.1.1.0)) in omega (arith, bad.1.1.0, short)
not_both key count Spent bytes few cut bad = omega (arith, bad)
not_both key count Failed bytes few cut bad = bad

one_ending : (key : List ℕ) (count : ℕ) (a b : Ending) (rest : List ℕ) → Ends key count rest a → Ends key count rest b → a ≡ b
one_ending key count (Ok x) (Ok y) rest p q = ap (λ (r : List ℕ). Ok r) (sym p.0 ∙ q.0)
one_ending key count (Ok x) (Err fault) rest p q = absurd (not_both key count fault rest p.1.0 p.1.1 q)
one_ending key count (Err fault) (Ok y) rest p q = absurd (not_both key count fault rest q.1.0 q.1.1 p)
one_ending key count (Err a) (Err b) rest p q = ap (λ (f : SealFault). Err f) (one_fault key count a b rest p q)

-- ---- whole streams

-- what follows the first records of a stream
one_way_from : (key : List ℕ) (count : ℕ) (a b : List (List ℕ)) (x y : List ℕ) (p q : Ending)
    → count + length a ≤ max_records → count + length b ≤ max_records → AllByRecursion IsBody a → AllByRecursion IsBody b
    → all_sealed key count a ++ x ≡ all_sealed key count b ++ y → Ends key (count + length a) x p → Ends key (count + length b) y q
    → (a ≡ b) × (p ≡ q)
one_way_from key count [] [] x y p q few_a few_b good_a good_b e s t =
    (refl, one_ending key (count + 0) p q x s (subst (λ (r : List ℕ). Ends key (count + 0) r q) (sym e) t))
one_way_from key count [] (b ∷ bs) x y p q few_a few_b good_a good_b e s t =
    let now : Ends key count x p = subst (λ (c : ℕ). Ends key c x p) {x = count + 0} {y = count} (omega arith) s in
    absurd (not_ended key count p x b (all_sealed key (count + 1) bs ++ y) (omega arith) good_b.0
    (e ∙ append_assoc (sealed key count b) (all_sealed key (count + 1) bs) y) now)
one_way_from key count (a ∷ more) [] x y p q few_a few_b good_a good_b e s t =
    let now : Ends key count y q = subst (λ (c : ℕ). Ends key c y q) {x = count + 0} {y = count} (omega arith) t in
    absurd (not_ended key count q y a (all_sealed key (count + 1) more ++ x) (omega arith) good_a.0
    (sym e ∙ append_assoc (sealed key count a) (all_sealed key (count + 1) more) x) now)
one_way_from key count (a ∷ more) (b ∷ bs) x y p q few_a few_b good_a good_b e s t =
    let split = apart key count a b (all_sealed key (count + 1) more ++ x) (all_sealed key (count + 1) bs ++ y) good_a.0 good_b.0
    (sym (append_assoc (sealed key count a) (all_sealed key (count + 1) more) x) ∙ e ∙ append_assoc (sealed key count b) (all_sealed key (count + 1) bs) y) in
    let s1 : Ends key (count + 1 + length more) x p = subst (λ (c : ℕ). Ends key c x p) {x = count + suc (length more)} {y = count + 1 + length more} (omega arith) s in
    let t1 : Ends key (count + 1 + length bs) y q = subst (λ (c : ℕ). Ends key c y q) {x = count + suc (length bs)} {y = count + 1 + length bs} (omega arith) t in
    let rest = one_way_from key (count + 1) more bs x y p q (omega arith) (omega arith) good_a.1 good_b.1 split.1 s1 t1 in
    (ap (λ (h : List ℕ). h ∷ more) split.0 ∙ ap (λ (l : List (List ℕ)). b ∷ l) rest.0, rest.1)

pub opens_one_way : (key stream : List ℕ) (a b : List (List ℕ)) (x y : Opening) → Opens key stream a x → Opens key stream b y
    → (a ≡ b) × (x.ending ≡ y.ending)
opens_one_way key stream a b x y s t =
    one_way_from key 0 a b s.rest t.rest x.ending y.ending (omega (arith, s.few)) (omega (arith, t.few)) s.good t.good (sym s.parts ∙ t.parts)
    (subst (λ (c : ℕ). Ends key c s.rest x.ending) {x = length a} {y = 0 + length a} (omega arith) s.ends)
    (subst (λ (c : ℕ). Ends key c t.rest y.ending) {x = length b} {y = 0 + length b} (omega arith) t.ends)

-- sealed bodies open
pub sealed_opens : (key : List ℕ) (bodies : List (List ℕ)) → AllByRecursion IsBody bodies → length bodies < max_records
    → Opens key (all_sealed key 0 bodies) bodies (record { key = key; count = length bodies; ending = Ok [] })
sealed_opens key bodies good few = record {
  rest = [];
  parts = sym (append-nil (all_sealed key 0 bodies));
  good = good;
  few = omega arith;
  count = refl;
  ends = (refl, (few, record { fits = λ long. absurd (omega (arith, long)); cut = λ long. absurd (omega (arith, long)) }));
}
