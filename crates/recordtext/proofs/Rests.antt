-- The rest of a line, word by word.
use Rattle.std.proofs.Common.{◌≡◌, ◌≢◌, ℕ, ◌+◌, ◌<◌, arith, None, Some, is_some, true≢false, ne_eqb, length-append, List, [], ◌∷◌, ◌++◌, length, take, get_or, map, refl, sym, ap, ◌∙◌, append_assoc}
use Rattle.std.proofs.lemmas.Bool.{cond-false}
use Rattle.std.proofs.lemmas.List.{take_more, map-append}
use Rattle.std.specs.Borrow.{Bor}
use Rattle.recordtext.specs.Words.{line_of, rest_of}

-- one word more
line_of-last : (first : List ℕ) (words : List (List ℕ)) (last : List ℕ) → line_of ((first ∷ words) ++ last ∷ []) ≡ line_of (first ∷ words) ++ 32 ∷ last
line_of-last first [] last = refl
line_of-last first (word ∷ words) last = ap (λ line. first ++ 32 ∷ line) (line_of-last word words last)
    ∙ sym (append_assoc first (32 ∷ line_of (word ∷ words)) (32 ∷ last))

pub line_of-more : (first : List ℕ) (rest : List (Bor (List ℕ))) (i : ℕ) (d : Bor (List ℕ)) (before after : List ℕ) → i < length rest
    → before ≡ line_of (first ∷ map (λ w. w.now) (take i rest))
    → after ≡ (before ++ 32 ∷ []) ++ (get_or rest i d).now → after ≡ line_of (first ∷ map (λ w. w.now) (take (i + 1) rest))
line_of-more first rest i d before after within so_far added =
    let words : map (λ w. w.now) (take (i + 1) rest) ≡ map (λ w. w.now) (take i rest) ++ (get_or rest i d).now ∷ [] =
    ap (map (λ w. w.now)) (take_more rest i d within) ∙ map-append (λ w. w.now) (take i rest) (get_or rest i d ∷ []) in
    added ∙ append_assoc before (32 ∷ []) (get_or rest i d).now ∙ ap (λ b. b ++ 32 ∷ (get_or rest i d).now) so_far
    ∙ sym (line_of-last first (map (λ w. w.now) (take i rest)) (get_or rest i d).now) ∙ ap (λ ws. line_of (first ∷ ws)) (sym words)

-- a line with a byte, or with two words, is not empty
line_some : (first : List ℕ) (rest : List (Bor (List ℕ))) → 0 < length first + length rest → 0 < length (line_of (first ∷ map (λ w. w.now) rest))
line_some first [] some = let one : 0 < length first = omega (arith, some) in one
line_some first (word ∷ rest) some =
    let parts = length-append first (32 ∷ line_of (word.now ∷ map (λ w. w.now) rest)) in
    let more : 0 < length (first ++ 32 ∷ line_of (word.now ∷ map (λ w. w.now) rest)) = omega (arith, parts) in more

rest_some : (words : List (List ℕ)) → 0 < length (line_of words) → rest_of words ≢ None
rest_some words some none =
    let is : rest_of words ≡ Some (line_of words) = cond-false _ _ _ (ne_eqb (length (line_of words)) 0 (λ z. omega (arith, z, some))) in
    true≢false (ap is_some (sym is ∙ none))

pub rest_of-some : (first : List ℕ) (rest : List (Bor (List ℕ))) → 0 < length first + length rest → rest_of (first ∷ map (λ w. w.now) rest) ≢ None
rest_of-some first rest some = rest_some (first ∷ map (λ w. w.now) rest) (line_some first rest some)
