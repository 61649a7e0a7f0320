-- The lines of a text of the system, one after another.
use Rattle.std.proofs.Common.{◌≡◌, ◌∙◌, ℕ, Bool, true, false, List, [], ◌∷◌, ◌++◌, map, Option, Some, None, ap, sym, refl}
use Rattle.std.specs.Prelude.{◌||◌}
use Rattle.std.specs.Borrow.{Bor}
use Rattle.std.specs.List.{list_any}
use Rattle.doctor.specs.Words.{first_of, rest_of, rest_on}

first_of-none : (found : Option (List ℕ)) → found ≡ first_of found None
first_of-none (Some rest) = refl
first_of-none None = refl

first_of-assoc : (a b c : Option (List ℕ)) → first_of a (first_of b c) ≡ first_of (first_of a b) c
first_of-assoc (Some rest) b c = refl
first_of-assoc None b c = refl

-- one line more
pub rest_on-more : (label : List ℕ) (lines : List (Bor (List ℕ))) (line : Bor (List ℕ))
    → rest_on label (map (λ text. text.now) (lines ++ line ∷ []))
    ≡ first_of (rest_on label (map (λ text. text.now) lines)) (rest_of label line.now)
rest_on-more label [] line = sym (first_of-none (rest_of label line.now))
rest_on-more label (next ∷ lines) line =
    ap (first_of (rest_of label next.now)) (rest_on-more label lines line)
    ∙ first_of-assoc (rest_of label next.now) (rest_on label (map (λ text. text.now) lines)) (rest_of label line.now)

-- ---- words

or_false : (b : Bool) → (b || false) ≡ b
or_false true = refl
or_false false = refl

or_assoc : (a b c : Bool) → (a || (b || c)) ≡ ((a || b) || c)
or_assoc true b c = refl
or_assoc false b c = refl

any : (test : List ℕ → Bool) (words : List (Bor (List ℕ))) (word : Bor (List ℕ))
    → list_any test (map (λ text. text.now) (words ++ word ∷ [])) ≡ (list_any test (map (λ text. text.now) words) || test word.now)
any test [] word = or_false (test word.now)
any test (next ∷ words) word =
    ap (λ b. test next.now || b) (any test words word)
    ∙ or_assoc (test next.now) (list_any test (map (λ text. text.now) words)) (test word.now)

-- one word more
pub any-more : (test : List ℕ → Bool) (words : List (Bor (List ℕ))) (word : Bor (List ℕ)) (old is : Bool)
    → old ≡ list_any test (map (λ text. text.now) words) → is ≡ test word.now
    → (old || is) ≡ list_any test (map (λ text. text.now) (words ++ word ∷ []))
any-more test words word old is so_far passes =
    ap (λ b. b || is) so_far ∙ ap (λ b. list_any test (map (λ text. text.now) words) || b) passes ∙ sym (any test words word)
