-- The members of a list, one after another.
use Rattle.std.proofs.Common.{◌≡◌, ℕ, zero, suc, ◌+◌, ◌<◌, ◌≤◌, List, [], ◌∷◌, ◌++◌, length, drop, slice_get, refl, sym, ap, ◌∙◌, arith, append_assoc, append-nil, add-one, ne_eqb, if◌then◌else◌}
use Rattle.std.specs.List.{flat_map}
use Rattle.std.proofs.lemmas.List.{drop_all}
use Rattle.recordjson.specs.Words.{comma, found, listed}

-- what is left to write before the member at a place
abbrev pub left : {A : Type 0} → (A → List ℕ) → ℕ → List A → List ℕ
left f zero xs = listed f xs
left f (suc place) xs = flat_map (λ y. 44 ∷ f y) xs

left-cons : {A : Type 0} (f : A → List ℕ) (n : ℕ) (x : A) (xs : List A) → left f n (x ∷ xs) ≡ comma n ++ (f x ++ left f (suc n) xs)
left-cons f zero x xs = refl
left-cons f (suc n) x xs = ap (λ b. (if b then [] else 44 ∷ []) ++ (f x ++ left f (suc (suc n)) xs)) (sym (ne_eqb (suc n) 0 (λ e. omega (arith, e))))

left-end : {A : Type 0} (f : A → List ℕ) (n : ℕ) → left f n [] ≡ []
left-end f zero = refl
left-end f (suc n) = refl

left-drop : {A : Type 0} (f : A → List ℕ) (n : ℕ) (xs : List A) (place : ℕ) → place < length xs
    → left f n (drop place xs) ≡ comma n ++ (found f (slice_get xs place) ++ left f (suc n) (drop (suc place) xs))
left-drop f n [] place h = absurd (omega arith)
left-drop f n (x ∷ xs) zero h = left-cons f n x xs
left-drop f n (x ∷ xs) (suc place) h = left-drop f n xs place (omega arith)

module _ {A : Type 0} (f : A → List ℕ) (xs : List A) where
  -- one more is written
  pub members-more : (place : ℕ) (before between after all : List ℕ) → place < length xs → between ≡ before ++ comma place
      → after ≡ between ++ found f (slice_get xs place)
      → before ++ left f place (drop place xs) ≡ all → after ++ left f (place + 1) (drop (place + 1) xs) ≡ all
  members-more place before between after all within comma_is added e =
      ap (λ n. after ++ left f n (drop n xs)) (add-one place)
      ∙ ap (λ a. a ++ left f (suc place) (drop (suc place) xs)) (added ∙ ap (λ b. b ++ found f (slice_get xs place)) comma_is)
      ∙ append_assoc (before ++ comma place) _ _
      ∙ append_assoc before (comma place) _
      ∙ ap (λ l. before ++ l) (sym (left-drop f place xs place within))
      ∙ e

  -- all are written
  pub members-all : (place : ℕ) (before all : List ℕ) → length xs ≤ place → before ++ left f place (drop place xs) ≡ all → before ≡ all
  members-all place before all end e =
      sym (append-nil before) ∙ ap (λ l. before ++ l) (sym (left-end f place) ∙ ap (left f place) (sym (drop_all place xs end))) ∙ e
