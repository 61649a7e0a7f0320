-- The first of what the elements of a list give, one element after another.
use Rattle.std.proofs.Common.{⊎_elim, ◌≡◌, ◌<◌, ◌≤◌, ◌∙◌, ◌+◌, ℕ, List, [], ◌∷◌, ◌++◌, length, take, get_or, zero, suc, Option, Some, None, refl, sym, ap, arith}
use Rattle.std.specs.List.{filter_map, flat_map, cons_option}
use Rattle.std.specs.Option.{option_to_list}
use Rattle.std.proofs.lemmas.Grind.{flat_map-append}
use Rattle.std.proofs.lemmas.List.{take_more, take_all, take-append-le, length-take, length-append, append-nil}
use Rattle.std.proofs.lemmas.Bool.{cases_lt}
use Rattle.std.proofs.lemmas.List.Elements.{filter_map-append}

-- what is left out of the first so many stays out of them
pub take-grown : {X : Type 0} (n : ℕ) (xs ys : List X) → take n (take n xs ++ ys) ≡ take n (xs ++ ys)
take-grown zero xs ys = refl
take-grown (suc n) [] ys = refl
take-grown (suc n) (x ∷ xs) ys = ap (λ l. x ∷ l) (take-grown n xs ys)

-- what one element gives
of-one : {X Y : Type 0} (h : X → Option Y) (x : X) (given : Option Y) → given ≡ h x → option_to_list given ≡ filter_map h (x ∷ [])
of-one {X} {Y} h x given is = by given ∙ ap (λ (o : Option Y). cons_option o []) is
  where
    by : (o : Option Y) → option_to_list o ≡ cons_option o []
    by None = refl
    by (Some y) = refl

-- a list that is not full takes what there is, and a full one stays
pub put-room : {Y : Type 0} (n : ℕ) (before after : List Y) (given : Option Y) → length before ≤ n
    → (length before < n → after ≡ before ++ option_to_list given) → (n ≤ length before → after ≡ before)
    → after ≡ take n (before ++ option_to_list given)
put-room {Y} n before after given within room full = ⊎_elim (λ few. room few ∙ few-taken given few) (λ many. full many ∙ sym (many-taken many)) (cases_lt (length before) n)
  where
    few-taken : (o : Option Y) → length before < n → before ++ option_to_list o ≡ take n (before ++ option_to_list o)
    few-taken None few = sym (take_all n (before ++ []) (omega (arith, within, length-append before [])))
    few-taken (Some y) few = sym (take_all n (before ++ y ∷ []) (omega (arith, few, length-append before (y ∷ []))))

    many-taken : n ≤ length before → take n (before ++ option_to_list given) ≡ before
    many-taken many = take-append-le n before (option_to_list given) many ∙ take_all n before within

-- one element more
pub first-given-more : {X Y : Type 0} (n : ℕ) (h : X → Option Y) (xs : List X) (count : ℕ) (x : X) (given : Option Y) (before after : List Y)
    → count < length xs → x ≡ get_or xs count x → given ≡ h x → before ≡ take n (filter_map h (take count xs))
    → (length before < n → after ≡ before ++ option_to_list given) → (n ≤ length before → after ≡ before)
    → after ≡ take n (filter_map h (take (count + 1) xs))
first-given-more n h xs count x given before after within at is so_far room full =
    put-room n before after given few room full
    ∙ ap (λ ys. take n (ys ++ option_to_list given)) so_far
    ∙ take-grown n (filter_map h (take count xs)) (option_to_list given)
    ∙ ap (λ ys. take n (filter_map h (take count xs) ++ ys)) (of-one h x given is)
    ∙ ap (take n) (sym (filter_map-append h (take count xs) (x ∷ [])))
    ∙ ap (λ y. take n (filter_map h (take count xs ++ y ∷ []))) at
    ∙ ap (λ ys. take n (filter_map h ys)) (sym (take_more xs count x within))
  where
    few : length before ≤ n
    few = omega (arith, ap length so_far, length-take n (filter_map h (take count xs)))

-- what one element more gives, of a list that each gives
pub first-lists-more : {X Y : Type 0} (n : ℕ) (h : X → List Y) (xs : List X) (count : ℕ) (x : X) (given before after : List Y)
    → count < length xs → x ≡ get_or xs count x → given ≡ h x → before ≡ take n (flat_map h (take count xs))
    → after ≡ take n (before ++ given)
    → after ≡ take n (flat_map h (take (count + 1) xs))
first-lists-more n h xs count x given before after within at is so_far grown =
    grown
    ∙ ap (λ ys. take n (ys ++ given)) so_far
    ∙ take-grown n (flat_map h (take count xs)) given
    ∙ ap (λ ys. take n (flat_map h (take count xs) ++ ys)) (is ∙ sym (append-nil (h x)))
    ∙ ap (take n) (sym (flat_map-append h (take count xs) (x ∷ [])))
    ∙ ap (λ y. take n (flat_map h (take count xs ++ y ∷ []))) at
    ∙ ap (λ ys. take n (flat_map h ys)) (sym (take_more xs count x within))

-- the same once no element is left
pub first-lists-all : {X Y : Type 0} (n : ℕ) (h : X → List Y) (xs : List X) (count : ℕ) (given : List Y) → length xs ≤ count
    → given ≡ take n (flat_map h (take count xs)) → given ≡ take n (flat_map h xs)
first-lists-all n h xs count given past is = is ∙ ap (λ ys. take n (flat_map h ys)) (take_all count xs past)
