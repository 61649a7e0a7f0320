-- A text that ends with its sum is read again, and one more leads on from the last.
use Rattle.std.proofs.Common.{◌≡◌, ℕ, ◌+◌, ◌-◌, nat_le, Bool, true, false, List, [], ◌∷◌, ◌++◌, length, take, drop, Option, Some, None, refl, sym, ap, subst, ◌∙◌, arith}
use Rattle.std.proofs.Common.{length-append, length-take-le, take-append-drop}
use Rattle.std.proofs.lemmas.Bool.Decides.{nat_tests}
use Rattle.std.proofs.lemmas.Slice.Eq.{bytes_eq-Decides}
use Rattle.std.specs.Prelude.{if◌then◌else◌}
use Rattle.std.specs.Int.{w64, to_be_bytes}
use Rattle.std.specs.Str.{bytes_eq}
use Rattle.sha2.proofs.Facts256.{length-sha256}
use Rattle.botjournal.specs.declared.sums.Seal.{Seal}
use Rattle.botjournal.specs.Sums.{sum_after, sealed, after, body_of, step_if, step, and_then, through, AreCarried}

-- ---- lengths

pub length-sum : (before : Seal) (bytes : List ℕ) → length (sum_after before bytes) ≡ 8
unfolding sum_after
length-sum before bytes = length-take-le 8 _ (omega (
  arith,
  length-sha256 (before.sum ++ (to_be_bytes w64 before.place ++ (to_be_bytes w64 (length bytes) ++ bytes))),
))

pub length-sealed : (before : Seal) (bytes : List ℕ) → length (sealed before bytes) ≡ length bytes + 8
length-sealed before bytes = omega (arith, length-append bytes (sum_after before bytes), length-sum before bytes)

-- ---- one text

front_of : (xs ys : List ℕ) → take (length xs) (xs ++ ys) ≡ xs
front_of [] ys = refl
front_of (x ∷ xs) ys = ap (λ l. x ∷ l) (front_of xs ys)

back_of : (xs ys : List ℕ) → drop (length xs) (xs ++ ys) ≡ ys
back_of [] ys = refl
back_of (x ∷ xs) ys = back_of xs ys

-- where the sum begins
at_sum : (before : Seal) (bytes : List ℕ) → length (sealed before bytes) - 8 ≡ length bytes
at_sum before bytes = omega (arith, length-sealed before bytes)

pub body_sealed : (before : Seal) (bytes : List ℕ) → body_of (sealed before bytes) ≡ bytes
body_sealed before bytes =
    ap (λ n. take n (sealed before bytes)) (at_sum before bytes) ∙ front_of bytes (sum_after before bytes)

sum_sealed : (before : Seal) (bytes : List ℕ) → drop (length (sealed before bytes) - 8) (sealed before bytes) ≡ sum_after before bytes
sum_sealed before bytes =
    ap (λ n. drop n (sealed before bytes)) (at_sum before bytes) ∙ back_of bytes (sum_after before bytes)

same_sum : (sum : List ℕ) → bytes_eq sum sum ≡ true
same_sum sum = (bytes_eq-Decides sum sum).1 refl

step_is : (before : Seal) (bytes sum : List ℕ) → sum ≡ sum_after before bytes → step_if before bytes sum ≡ Some (after before bytes)
step_is before bytes sum is =
    ap (step_if before bytes) is ∙ rw (same_sum (sum_after before bytes)) refl

pub step_sealed : (before : Seal) (bytes : List ℕ) → step before (sealed before bytes) ≡ Some (after before bytes)
step_sealed before bytes =
    let long : nat_le 8 (length (sealed before bytes)) ≡ true = grind (arith, nat_tests, length-sealed before bytes) in
    rw long
    (ap (λ body. step_if before body (drop (length (sealed before bytes) - 8) (sealed before bytes))) (body_sealed before bytes)
    ∙ step_is before bytes _ (sum_sealed before bytes))

-- ---- texts

some_seal : (a b : Seal) → (let o : Option Seal = Some a in o) ≡ Some b → a ≡ b
some_seal a b is = cc

pub through_one : (before : Seal) (text : List ℕ) (next : Seal) → step before text ≡ Some next → through before (text ∷ []) ≡ Some next
through_one before text next is = ap (λ o. and_then o (λ seal. Some seal)) is

pub through_more : (before : Seal) (texts : List (List ℕ)) (seal : Seal) (text : List ℕ) (next : Seal) → through before texts ≡ Some seal
    → step seal text ≡ Some next → through before (texts ++ (text ∷ [])) ≡ Some next
through_more before [] seal text next is fits =
    ap (λ s. through s (text ∷ [])) (some_seal before seal is) ∙ through_one seal text next fits
through_more before (first ∷ texts) seal text next is fits =
    by (step before first) is (λ s stepped. through_more s texts seal text next stepped fits)
  where
    by : (o : Option Seal) → and_then o (λ s. through s texts) ≡ Some seal
        → ((s : Seal) → through s texts ≡ Some seal → through s (texts ++ (text ∷ [])) ≡ Some next)
        → and_then o (λ s. through s (texts ++ (text ∷ []))) ≡ Some next
    by None is more = absurd cc
    by (Some s) is more = more s is

-- ---- what was read carries its sums

carried_one : (before : Seal) (text : List ℕ) (next : Seal) → step before text ≡ Some next
    → (text ≡ sealed before (body_of text)) × (next ≡ after before (body_of text))
carried_one before text next is = by_length (nat_le 8 (length text)) is
  where
    end : List ℕ
    end = drop (length text - 8) text

    by_sum : (same : Bool) → bytes_eq end (sum_after before (body_of text)) ≡ same
        → (if same then Some (after before (body_of text)) else None) ≡ Some next
        → (text ≡ sealed before (body_of text)) × (next ≡ after before (body_of text))
    by_sum false same is = absurd cc
    by_sum true same is = (
      sym (take-append-drop (length text - 8) text)
          ∙ ap (λ (sum : List ℕ). body_of text ++ sum) ((bytes_eq-Decides end (sum_after before (body_of text))).0 same),
      sym (some_seal (after before (body_of text)) next is),
    )

    by_length : (long : Bool) → (if long then step_if before (body_of text) end else None) ≡ Some next
        → (text ≡ sealed before (body_of text)) × (next ≡ after before (body_of text))
    by_length false is = absurd cc
    by_length true is = by_sum (bytes_eq end (sum_after before (body_of text))) refl is

pub carried : (before : Seal) (texts : List (List ℕ)) (last : Seal) → through before texts ≡ Some last → AreCarried before texts
carried before [] last is = tt
carried before (text ∷ texts) last is = by (step before text) refl is (λ seal more. carried seal texts last more)
  where
    by : (o : Option Seal) → step before text ≡ o → and_then o (λ seal. through seal texts) ≡ Some last
        → ((seal : Seal) → through seal texts ≡ Some last → AreCarried seal texts) → AreCarried before (text ∷ texts)
    by None stepped is others = absurd cc
    by (Some seal) stepped is others =
        let one = carried_one before text seal stepped in
        (one.0, subst (λ s. AreCarried s texts) one.1 (others seal is))
