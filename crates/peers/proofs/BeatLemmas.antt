-- The content of a beat, part by part.
use Rattle.std.proofs.Common.{◌≡◌, ◌∙◌, ◌++◌, ℕ, List, take, drop, sym, ap, append_assoc}
use Rattle.std.proofs.lemmas.List.{take-append-drop}

-- a content is its parts
pub joined : (content first version sum held : List ℕ) → first ≡ take 12 content → version ≡ take 4 first → sum ≡ drop 4 first
    → held ≡ drop 12 content → version ++ (sum ++ held) ≡ content
joined content first version sum held f v s h =
    sym (append_assoc version sum held)
    ∙ ap (λ (l : List ℕ). l ++ held) (ap (λ (l : List ℕ). l ++ sum) v ∙ ap (λ (l : List ℕ). take 4 first ++ l) s ∙ take-append-drop 4 first)
    ∙ ap (λ (l : List ℕ). l ++ held) f ∙ ap (λ (l : List ℕ). take 12 content ++ l) h ∙ take-append-drop 12 content
