-- A change of each element of a list, one after the other.
use Rattle.std.proofs.Common.{◌≡◌, ℕ, ◌<◌, ◌+◌, List, ◌++◌, length, get_or, set, take, drop, map, ap, ◌∙◌}
use Rattle.std.proofs.lemmas.List.{get_or_default}
use Rattle.std.proofs.lemmas.List.Edits.{map_over_more}

-- the i-th is changed too; y is what the code wrote there
pub mapped_at : {X : Type 0} (f : X → X) (xs ys : List X) (i : ℕ) (d y : X) → i < length xs → i < length ys → ys ≡ map f (take i xs) ++ drop i xs
    → y ≡ f (get_or ys i d) → set ys i y ≡ map f (take (i + 1) xs) ++ drop (i + 1) xs
mapped_at f xs ys i d y in_xs in_ys so_far made =
    ap (λ z. set ys i z) made ∙ map_over_more f xs ys i (get_or ys i d) in_xs so_far (get_or_default ys i d (get_or ys i d) in_ys)
