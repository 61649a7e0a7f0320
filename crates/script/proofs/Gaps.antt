-- Words, one of which may be empty.
use Rattle.std.proofs.Common.{◌≡◌, ◌∙◌, ℕ, ◌+◌, ◌<◌, ◌≤◌, ◌||◌, Bool, true, false, List, length, map, drop, get_or, ap, sym}
use Rattle.std.proofs.lemmas.List.{at_drop_more, at_drop_all}
use Rattle.std.specs.Borrow.{Bor}
use Rattle.std.specs.List.{list_any}
use Rattle.recordtext.specs.Words.{is_empty}

-- whether one of the words of a slice is
abbrev pub any_empty : List (Bor (List ℕ)) → Bool
any_empty words = list_any is_empty (map (λ word. word.now) words)

pub has_gap-more : (words : List (Bor (List ℕ))) (i : ℕ) (d : Bor (List ℕ)) (all : Bool) → i < length words
    → any_empty (drop i words) ≡ all → is_empty (get_or words i d).now ≡ false → any_empty (drop (i + 1) words) ≡ all
has_gap-more words i d all within so_far none =
    sym (ap (λ here. here || any_empty (drop (i + 1) words)) none) ∙ sym (at_drop_more any_empty words i d within) ∙ so_far

pub has_gap-found : (words : List (Bor (List ℕ))) (i : ℕ) (d : Bor (List ℕ)) (all : Bool) → i < length words
    → any_empty (drop i words) ≡ all → is_empty (get_or words i d).now ≡ true → true ≡ all
has_gap-found words i d all within so_far empty =
    sym (ap (λ here. here || any_empty (drop (i + 1) words)) empty) ∙ sym (at_drop_more any_empty words i d within) ∙ so_far

pub has_gap-all : (words : List (Bor (List ℕ))) (i : ℕ) (all : Bool) → length words ≤ i → any_empty (drop i words) ≡ all → false ≡ all
has_gap-all words i all over so_far = sym (at_drop_all any_empty words i over) ∙ so_far
