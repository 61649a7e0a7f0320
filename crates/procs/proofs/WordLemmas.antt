-- The keywords of an index, as the texts of the keys of a set.
use Rattle.std.proofs.Common.{◌≡◌, ℕ, Bool, false, cond, ◌||◌, List, [], ◌∷◌, ◌++◌, map, nat_eq, refl, ap, ◌∙◌}
use Rattle.std.specs.Cmp.Lexicographic.{pointwise}
use Rattle.std.specs.List.{list_any}
use Rattle.std.specs.Str.{bytes_eq}
use Rattle.std.specs.declared.vec.Vec.{Vec}
use Rattle.std.specs.declared.alloc.Global.{Global}
use Rattle.indexmap.specs.IndexSet.{insert_key}

-- the keys of a set
abbrev pub Key : Type 0
Key = Vec ℕ Global

abbrev pub texts_of : List Key → List (List ℕ)
texts_of keys = map (λ key. key.items) keys

abbrev pub same_key : Key → Key → Bool
same_key a b = pointwise nat_eq a.items b.items

list_any-texts_of : (k : Key) (keys : List Key) → list_any (same_key k) keys ≡ list_any (bytes_eq k.items) (texts_of keys)
list_any-texts_of k [] = refl
list_any-texts_of k (x ∷ xs) = ap (λ b. same_key k x || b) (list_any-texts_of k xs)

pub texts_of-append : (k : Key) (keys : List Key) → texts_of (keys ++ k ∷ []) ≡ texts_of keys ++ k.items ∷ []
texts_of-append k [] = refl
texts_of-append k (x ∷ xs) = ap (λ ts. x.items ∷ ts) (texts_of-append k xs)

-- a new key goes last
pub texts_of-insert_key : (k : Key) (keys : List Key) → list_any (bytes_eq k.items) (texts_of keys) ≡ false
    → texts_of (insert_key same_key keys k) ≡ texts_of keys ++ k.items ∷ []
texts_of-insert_key k keys none =
    ap (λ b. texts_of (cond b keys (keys ++ k ∷ []))) (list_any-texts_of k keys ∙ none) ∙ texts_of-append k keys
