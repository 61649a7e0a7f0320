-- The first element that passes a test, behind an edit of the first that passes another.
use Rattle.std.proofs.Common.{◌≡◌, ℕ, Bool, true, false, cond, ◌&&◌, ◌||◌, Option, Some, None, List, [], ◌∷◌, ◌++◌, map, eqb, refl, sym, ap, ◌∙◌}
use Rattle.std.specs.Prelude.{find, is_some, nat_eq}
use Rattle.std.specs.Option.{option_map}
use Rattle.std.specs.List.{list_any}
use Rattle.std.specs.Cmp.Lexicographic.{pointwise}
use Rattle.std.proofs.lemmas.Bool.{cond-true, cond-false, eqb-true, eq-eqb}
use Rattle.bytetext.proofs.Lists.{find-none}
use Rattle.chanstate.proofs.BoolLemmas.{or-parts}
use Rattle.chanstate.specs.Firsts.{first_removed, first_changed}

-- texts that are equal byte by byte

both-true : (a b : Bool) → (a && b) ≡ true → (a ≡ true) × (b ≡ true)
both-true true b is = (refl, is)
both-true false b is = cc

pub pointwise-same : (xs ys : List ℕ) → pointwise nat_eq xs ys ≡ true → xs ≡ ys
pointwise-same [] [] is = refl
pointwise-same [] (y ∷ ys) is = cc
pointwise-same (x ∷ xs) [] is = cc
pointwise-same (x ∷ xs) (y ∷ ys) is =
    let parts = both-true (eqb x y) (pointwise nat_eq xs ys) is in
    let heads = eqb-true x y parts.0 in
    let tails = pointwise-same xs ys parts.1 in
    cc

pub pointwise-refl : (xs : List ℕ) → pointwise nat_eq xs xs ≡ true
pointwise-refl [] = refl
pointwise-refl (x ∷ xs) = rw (eq-eqb x x refl) (pointwise-refl xs)

-- first elements

any_step : {X : Type 0} (b : Bool) (x : X) (xs : List X) (p : X → Bool) → list_any p xs ≡ is_some (find p xs)
    → (b || list_any p xs) ≡ is_some (cond b (Some x) (find p xs))
any_step true x xs p rest = refl
any_step false x xs p rest = rest

pub list_any-find : {X : Type 0} (p : X → Bool) (xs : List X) → list_any p xs ≡ is_some (find p xs)
list_any-find p [] = refl
list_any-find p (x ∷ xs) = any_step (p x) x xs p (list_any-find p xs)

pub none-is : {X : Type 0} (o : Option X) → is_some o ≡ false → o ≡ None
none-is None is = refl
none-is (Some x) is = cc

-- tests that agree find the same
pub find-agree : {X : Type 0} (p q : X → Bool) → ((x : X) → p x ≡ q x) → (xs : List X) → find p xs ≡ find q xs
find-agree p q same [] = refl
find-agree p q same (x ∷ xs) = ap (λ b. cond b (Some x) (find p xs)) (same x) ∙ ap (λ o. cond (q x) (Some x) o) (find-agree p q same xs)

pub any-agree : {X : Type 0} (p q : X → Bool) → ((x : X) → p x ≡ q x) → (xs : List X) → list_any p xs ≡ list_any q xs
any-agree p q same xs = list_any-find p xs ∙ (ap is_some (find-agree p q same xs) ∙ sym (list_any-find q xs))

-- an element at the end
end_step : {X : Type 0} (b : Bool) (x : X) (o w : Option X) (e : Option X → Option X) → w ≡ e o → ((z : X) → e (Some z) ≡ Some z)
    → cond b (Some x) w ≡ e (cond b (Some x) o)
end_step true x o w e rest keeps = sym (keeps x)
end_step false x o w e rest keeps = rest

pub or_else : {X : Type 0} → Option X → Option X → Option X
or_else None o = o
or_else (Some x) o = Some x

pub or_else-none : {X : Type 0} (o : Option X) → or_else None o ≡ o
unfolding or_else
or_else-none o = refl

pub or_else-some : {X : Type 0} (x : X) (o : Option X) → or_else (Some x) o ≡ Some x
unfolding or_else
or_else-some x o = refl

pub find-end : {X : Type 0} (p : X → Bool) (xs : List X) (y : X) → find p (xs ++ y ∷ []) ≡ or_else (find p xs) (cond (p y) (Some y) None)
find-end p [] y = sym (or_else-none _)
find-end p (x ∷ xs) y = end_step (p x) x (find p xs) (find p (xs ++ y ∷ [])) (λ o. or_else o (cond (p y) (Some y) None)) (find-end p xs y)
    (λ z. or_else-some z _)

-- the first that passes q changes, and p is the same test
changed_step : {X : Type 0} (b : Bool) (p : X → Bool) (f : X → X) (x : X) (xs : List X) (ys : List X) → p x ≡ b → p (f x) ≡ p x
    → find p ys ≡ option_map f (find p xs) →
    find p (cond b (f x ∷ xs) (x ∷ ys)) ≡ option_map f (cond b (Some x) (find p xs))
changed_step true p f x xs ys is keeps rest = cond-true (p (f x)) _ _ (keeps ∙ is)
changed_step false p f x xs ys is keeps rest = cond-false (p x) _ _ is ∙ rest

pub find-changed_same : {X : Type 0} (p q : X → Bool) (f : X → X) → ((x : X) → p x ≡ q x) → ((x : X) → p (f x) ≡ p x) → (xs : List X)
    → find p (first_changed q f xs) ≡ option_map f (find p xs)
find-changed_same p q f same keeps [] = refl
find-changed_same p q f same keeps (x ∷ xs) =
    ap (λ b. find p (cond b (f x ∷ xs) (x ∷ first_changed q f xs))) (sym (same x))
    ∙ changed_step (p x) p f x xs (first_changed q f xs) refl (keeps x) (find-changed_same p q f same keeps xs)

-- p passes nothing that q passes, before and after
other_step : {X : Type 0} (b : Bool) (p : X → Bool) (f : X → X) (x : X) (xs : List X) (ys : List X) → (b ≡ true → p x ≡ false)
    → (b ≡ true → p (f x) ≡ false) → find p ys ≡ find p xs →
    find p (cond b (f x ∷ xs) (x ∷ ys)) ≡ find p (x ∷ xs)
other_step true p f x xs ys before after rest = cond-false (p (f x)) _ _ (after refl) ∙ sym (cond-false (p x) _ _ (before refl))
other_step false p f x xs ys before after rest = ap (λ o. cond (p x) (Some x) o) rest

pub find-changed_other : {X : Type 0} (p q : X → Bool) (f : X → X) → ((x : X) → q x ≡ true → p x ≡ false) → ((x : X) → q x ≡ true → p (f x) ≡ false)
    → (xs : List X) → find p (first_changed q f xs) ≡ find p xs
find-changed_other p q f before after [] = refl
find-changed_other p q f before after (x ∷ xs) = other_step (q x) p f x xs (first_changed q f xs) (before x) (after x)
    (find-changed_other p q f before after xs)

-- the first that passes q goes
gone_step : {X : Type 0} (b : Bool) (p : X → Bool) (x : X) (xs ys : List X) → (b ≡ true → p x ≡ false) → find p ys ≡ find p xs
    → find p (cond b xs (x ∷ ys)) ≡ find p (x ∷ xs)
gone_step true p x xs ys other rest = sym (cond-false (p x) _ _ (other refl))
gone_step false p x xs ys other rest = ap (λ o. cond (p x) (Some x) o) rest

pub find-removed_other : {X : Type 0} (p q : X → Bool) → ((x : X) → q x ≡ true → p x ≡ false) → (xs : List X) → find p (first_removed q xs) ≡ find p xs
find-removed_other p q other [] = refl
find-removed_other p q other (x ∷ xs) = gone_step (q x) p x xs (first_removed q xs) (other x) (find-removed_other p q other xs)

-- at most one element passes
abbrev pub AtMostOne : {X : Type 0} → (X → Bool) → List X → Type 0
AtMostOne p [] = Unit {0}
AtMostOne p (x ∷ xs) = (p x ≡ true → list_any p xs ≡ false) × AtMostOne p xs

removed_step : {X : Type 0} (b : Bool) (p : X → Bool) (x : X) (xs ys : List X) → p x ≡ b → (b ≡ true → list_any p xs ≡ false) → find p ys ≡ None
    → find p (cond b xs (x ∷ ys)) ≡ None
removed_step true p x xs ys is none rest = find-none p xs (none refl)
removed_step false p x xs ys is none rest = cond-false (p x) _ _ is ∙ rest

pub find-removed_same : {X : Type 0} (p : X → Bool) (xs : List X) → AtMostOne p xs → find p (first_removed p xs) ≡ None
find-removed_same p [] one = refl
find-removed_same p (x ∷ xs) one = removed_step (p x) p x xs (first_removed p xs) refl one.0 (find-removed_same p xs one.1)

-- the first that passes q changes into one that passes p, where p passed nothing else
new_step : {X : Type 0} (b : Bool) (p : X → Bool) (f : X → X) (x : X) (xs ys : List X) (o : Option X) → p (f x) ≡ true → (b ≡ false → p x ≡ false)
    → find p ys ≡ option_map f o →
    find p (cond b (f x ∷ xs) (x ∷ ys)) ≡ option_map f (cond b (Some x) o)
new_step true p f x xs ys o made other rest = cond-true (p (f x)) _ _ made
new_step false p f x xs ys o made other rest = cond-false (p x) _ _ (other refl) ∙ rest

abbrev pub Within : {X : Type 0} → (X → Bool) → (X → Bool) → List X → Type 0
Within p q [] = Unit {0}
Within p q (x ∷ xs) = (q x ≡ false → p x ≡ false) × Within p q xs

pub find-changed_new : {X : Type 0} (p q : X → Bool) (f : X → X) → ((x : X) → p (f x) ≡ true) → (xs : List X) → Within p q xs
    → find p (first_changed q f xs) ≡ option_map f (find q xs)
find-changed_new p q f made [] within = refl
find-changed_new p q f made (x ∷ xs) within = new_step (q x) p f x xs (first_changed q f xs) (find q xs) (made x) within.0
    (find-changed_new p q f made xs within.1)

-- and one that no longer passes p leaves none
old_step : {X : Type 0} (b : Bool) (p : X → Bool) (f : X → X) (x : X) (xs ys : List X) → p x ≡ b → p (f x) ≡ false → (b ≡ true → list_any p xs ≡ false)
    → find p ys ≡ None → find p (cond b (f x ∷ xs) (x ∷ ys)) ≡ None
old_step true p f x xs ys is made none rest = cond-false (p (f x)) _ _ made ∙ find-none p xs (none refl)
old_step false p f x xs ys is made none rest = cond-false (p x) _ _ is ∙ rest

pub find-changed_old : {X : Type 0} (p : X → Bool) (f : X → X) → ((x : X) → p (f x) ≡ false) → (xs : List X) → AtMostOne p xs
    → find p (first_changed p f xs) ≡ None
find-changed_old p f made [] one = refl
find-changed_old p f made (x ∷ xs) one = old_step (p x) p f x xs (first_changed p f xs) refl (made x) one.0 (find-changed_old p f made xs one.1)

-- in a mapped list
map_step : {X Y : Type 0} (b : Bool) (f : X → Y) (x : X) (o : Option X) (w : Option Y) → w ≡ option_map f o
    → cond b (Some (f x)) w ≡ option_map f (cond b (Some x) o)
map_step true f x o w rest = refl
map_step false f x o w rest = rest

pub find-map : {X Y : Type 0} (p : Y → Bool) (q : X → Bool) (f : X → Y) → ((x : X) → p (f x) ≡ q x) → (xs : List X)
    → find p (map f xs) ≡ option_map f (find q xs)
find-map p q f same [] = refl
find-map p q f same (x ∷ xs) = ap (λ b. cond b (Some (f x)) (find p (map f xs))) (same x)
    ∙ map_step (q x) f x (find q xs) (find p (map f xs)) (find-map p q f same xs)

-- a test that nothing passes passes nothing of what is left
any_removed_step : {X : Type 0} (b : Bool) (p : X → Bool) (x : X) (xs ys : List X) → (p x ≡ false) × (list_any p xs ≡ false) → list_any p ys ≡ false
    → list_any p (cond b xs (x ∷ ys)) ≡ false
any_removed_step true p x xs ys none rest = none.1
any_removed_step false p x xs ys none rest = rw (none.0) rest

pub any-removed : {X : Type 0} (p q : X → Bool) (xs : List X) → list_any p xs ≡ false → list_any p (first_removed q xs) ≡ false
any-removed p q [] none = refl
any-removed p q (x ∷ xs) none = let parts = or-parts (p x) (list_any p xs) none in any_removed_step (q x) p x xs (first_removed q xs) parts
    (any-removed p q xs parts.1)

any_changed_step : {X : Type 0} (b : Bool) (p : X → Bool) (f : X → X) (x : X) (xs ys : List X) → (p x ≡ false) × (list_any p xs ≡ false) → p (f x) ≡ false
    → list_any p ys ≡ false → list_any p (cond b (f x ∷ xs) (x ∷ ys)) ≡ false
any_changed_step true p f x xs ys none made rest = rw made (none.1)
any_changed_step false p f x xs ys none made rest = rw (none.0) rest

pub any-changed : {X : Type 0} (p q : X → Bool) (f : X → X) (xs : List X) → list_any p xs ≡ false → ((x : X) → p x ≡ false → p (f x) ≡ false)
    → list_any p (first_changed q f xs) ≡ false
any-changed p q f [] none keeps = refl
any-changed p q f (x ∷ xs) none keeps = let parts = or-parts (p x) (list_any p xs) none in any_changed_step (q x) p f x xs (first_changed q f xs) parts
    (keeps x parts.0) (any-changed p q f xs parts.1 keeps)
