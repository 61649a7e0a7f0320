-- Pieces of a line that are put one after another, and those of a list of channels on which something is done.
use Rattle.std.proofs.Common.{◌≡◌, ℕ, ◌+◌, ◌<◌, ◌≤◌, nat_lt, Bool, true, false, ◌||◌, Option, List, [], ◌∷◌, ◌++◌}
use Rattle.std.proofs.Common.{length, take, get_or, slice_get, map, filter, append-nil, arith, refl, sym, ap, ◌∙◌}
use Rattle.std.specs.List.{concat, filter_map, flat_map, list_any}
use Rattle.std.proofs.lemmas.List.{map-append, map_more}
use Rattle.std.proofs.lemmas.List.Concat.{flat_map-append}
use Rattle.std.proofs.lemmas.List.Folds.{concat-append}
use Rattle.std.proofs.lemmas.List.Elements.{filter-append, filter_map-append}
use Rattle.chanstate.proofs.BoolLemmas.{or-parts}
use Rattle.botcore.specs.Automatic.{if_there, join_wish}

-- one piece of a line more
pub pieces_more : {X : Type 0} (v : X → List ℕ) (xs : List X) (i : ℕ) (d : X) (old new : List ℕ) → i < length xs
    → old ≡ concat (map v (take i xs)) → new ≡ old ++ v (get_or xs i d) → new ≡ concat (map v (take (i + 1) xs))
pieces_more v xs i d old new less so_far more =
    let last = v (get_or xs i d) in
    let front = map v (take i xs) in
    more ∙ ap (λ z. z ++ last) so_far ∙ ap (λ z. concat front ++ z) (sym (append-nil last))
    ∙ sym (concat-append front (last ∷ [])) ∙ sym (ap concat (map_more v xs i d less))

-- the pieces that a test keeps, as what they stand for
abbrev pub kept : {B : Type 0} → (List ℕ → Option B) → (List ℕ → Bool) → List (List ℕ) → List B
kept h p pieces = filter_map h (filter p pieces)

abbrev pub is_kept : {B : Type 0} → (List ℕ → Option B) → (List ℕ → Bool) → List ℕ → Bool
is_kept h p piece = nat_lt 0 (length (kept h p (piece ∷ [])))

-- one piece more
pub kept-append : {B : Type 0} (h : List ℕ → Option B) (p : List ℕ → Bool) (xs ys : List (List ℕ))
    → kept h p (xs ++ ys) ≡ kept h p xs ++ kept h p ys
kept-append h p xs ys = ap (filter_map h) (filter-append p xs ys) ∙ filter_map-append h (filter p xs) (filter p ys)

-- a piece of which something is told, after others
pub kept_more : {X A : Type 0} (v : X → List ℕ) (f : List ℕ → List A) (h : List ℕ → Option (List ℕ)) (p : List ℕ → Bool)
    (xs : List X) (x : X)
    (names : List (List ℕ)) (old new : List A) → old ≡ flat_map f (kept h p (map v xs))
    → names ≡ kept h p (v x ∷ []) → new ≡ old ++ flat_map f names
    → new ≡ flat_map f (kept h p (map v (xs ++ x ∷ [])))
kept_more v f h p xs x names old new so_far named more =
    more ∙ ap (λ z. old ++ flat_map f z) named ∙ ap (λ z. z ++ flat_map f (kept h p (v x ∷ []))) so_far
    ∙ sym (flat_map-append f (kept h p (map v xs)) (kept h p (v x ∷ [])))
    ∙ sym (ap (flat_map f) (kept-append h p (map v xs) (v x ∷ [])))
    ∙ sym (ap (λ ps. flat_map f (kept h p ps)) (map-append v xs (x ∷ [])))

-- one of two is true
or_cases : (a b : Bool) → (a || b) ≡ true → (a ≡ true → ⊥) → (b ≡ true → ⊥) → ⊥
or_cases true b is first second = first refl
or_cases false b is first second = second is

-- two lists that are nothing together
pub nothing_left : {B : Type 0} (xs ys : List B) → xs ++ ys ≡ [] → xs ≡ []
nothing_left [] ys none = refl
nothing_left (x ∷ xs) ys none = cc

pub nothing_right : {B : Type 0} (xs ys : List B) → xs ++ ys ≡ [] → ys ≡ []
nothing_right [] ys none = none
nothing_right (x ∷ xs) ys none = cc

-- a list without an item
empty_if : {B : Type 0} (xs : List B) → nat_lt 0 (length xs) ≡ false → xs ≡ []
empty_if [] none = refl
empty_if (x ∷ xs) none = grind arith

filled_if : {B : Type 0} (xs : List B) → nat_lt 0 (length xs) ≡ true → xs ≡ [] → ⊥
filled_if [] some none = grind arith
filled_if (x ∷ xs) some none = cc

-- none is kept where none of them is, and some is where one is
pub kept-none : {B : Type 0} (h : List ℕ → Option B) (p : List ℕ → Bool) (pieces : List (List ℕ))
    → list_any (is_kept h p) pieces ≡ false → kept h p pieces ≡ []
kept-none h p [] none = refl
kept-none h p (x ∷ xs) none =
    let both = or-parts (is_kept h p x) (list_any (is_kept h p) xs) none in
    let first = empty_if (kept h p (x ∷ [])) both.0 in
    let rest = kept-none h p xs both.1 in
    kept-append h p (x ∷ []) xs ∙ ap (λ z. z ++ kept h p xs) first ∙ rest

pub kept-some : {B : Type 0} (h : List ℕ → Option B) (p : List ℕ → Bool) (pieces : List (List ℕ))
    → list_any (is_kept h p) pieces ≡ true → kept h p pieces ≡ [] → ⊥
kept-some h p [] some none = cc
kept-some h p (x ∷ xs) some none =
    let both = sym (kept-append h p (x ∷ []) xs) ∙ none in
    or_cases _ _ some
    (λ is. filled_if (kept h p (x ∷ [])) is (nothing_left _ _ both))
    (λ is. kept-some h p xs is (nothing_right _ _ both))

-- a welcome makes a bot put nothing only where it has no channel to join
pub no_channels : (params channels : List (List ℕ)) → 1 ≤ length params
    → if_there (slice_get params 0) (λ nick. map join_wish channels) ≡ [] → channels ≡ []
no_channels [] channels some none = grind arith
no_channels (nick ∷ params) [] some none = refl
no_channels (nick ∷ params) (channel ∷ channels) some none = cc
