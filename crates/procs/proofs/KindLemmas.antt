-- The binds of a kind when one of it is taken away.
use Rattle.std.proofs.Common.{◌≡◌, ℕ, zero, suc, ◌<◌, Bool, true, false, cond, List, [], ◌∷◌, length, take, filter, map, get_or, refl, sym}
use Rattle.std.proofs.Common.{ap, arith, if◌then◌else◌}
use Rattle.std.specs.List.{remove}
use Rattle.indexmap.proofs.SetLemmas.{map-remove}

-- those that pass, when one that passes is taken away: its place among them is the number of those before it
pub filter-remove : {X : Type 0} (p : X → Bool) (xs : List X) (i : ℕ) (d : X) → i < length xs → p (get_or xs i d) ≡ true
    → filter p (remove xs i) ≡ remove (filter p xs) (length (filter p (take i xs)))
filter-remove p [] i d within passes = absurd (omega arith)
filter-remove p (x ∷ xs) zero d within passes = sym (ap (λ b. remove (cond b (x ∷ filter p xs) (filter p xs)) 0) passes)
filter-remove {X} p (x ∷ xs) (suc i) d within passes = by (p x) (filter-remove p xs i d (omega arith) passes)
  where
    by : (b : Bool) → filter p (remove xs i) ≡ remove (filter p xs) (length (filter p (take i xs)))
        → cond b (x ∷ filter p (remove xs i)) (filter p (remove xs i))
        ≡ remove (cond b (x ∷ filter p xs) (filter p xs)) (length (cond b (x ∷ filter p (take i xs)) (filter p (take i xs))))
    by true e = ap (λ ys. x ∷ ys) e
    by false e = e

-- and that place is one of theirs
pub place-within : {X : Type 0} (p : X → Bool) (xs : List X) (i : ℕ) (d : X) → i < length xs → p (get_or xs i d) ≡ true
    → length (filter p (take i xs)) < length (filter p xs)
place-within p [] i d within passes = absurd (omega arith)
place-within p (x ∷ xs) zero d within passes =
    let e = ap (λ b. length (cond b (x ∷ filter p xs) (filter p xs))) passes in omega arith
place-within p (x ∷ xs) (suc i) d within passes = by (p x) (place-within p xs i d (omega arith) passes)
  where
    by : (b : Bool) → length (filter p (take i xs)) < length (filter p xs)
        → length (cond b (x ∷ filter p (take i xs)) (filter p (take i xs))) < length (cond b (x ∷ filter p xs) (filter p xs))
    by true e = omega arith
    by false e = e

-- the words of a single kind, and none of another, when one goes
pub remove-words : {X Y : Type 0} (single : Bool) (f : X → Y) (xs : List X) (i : ℕ) → remove (if single then map f xs else []) i
    ≡ (if single then map f (remove xs i) else [])
remove-words true f xs i = sym (map-remove f xs i)
remove-words false f xs i = by i
  where
    by : {Y : Type 0} (i : ℕ) → remove {X = Y} [] i ≡ []
    by zero = refl
    by (suc i) = refl
