-- A line that is cut at its first space.
use Rattle.std.proofs.Common.{◌≡◌, ◌==◌, ℕ, ◌+◌, ◌-◌, Bool, ltb, List, [], ◌∷◌, length, take, drop, Option, Some, None, position, arith, ap, ◌∙◌, sym, inl, inr}
use Rattle.std.specs.List.{slice_split, position_or_len}
use Rattle.std.proofs.lemmas.Bool.{cases_Bool, cond-true, cond-false, ltb-true, ltb-false}
use Rattle.std.proofs.lemmas.List.{take_all, length-drop}
use Rattle.std.proofs.lemmas.List.Splits.{slice_split_none, slice_split_first}
use Rattle.std.proofs.lemmas.List.Sums.{fails_before_first}
use Rattle.std.specs.Borrow.{Bor}
use Rattle.std.specs.Option.{option_copied}
use Rattle.recordtext.specs.Words.{words_of, words_in}

abbrev is_space : ℕ → Bool
is_space b = b == 32

module _ (line : List ℕ) where
  abbrev has_space : Bool
  has_space = ltb (position_or_len is_space line) (length line)

  -- where there is one
  pub words_of-cut : (i : ℕ) → position is_space line ≡ Some i
      → words_of line ≡ take i line ∷ words_of (take (length line - (i + 1)) (drop (i + 1) line))
  words_of-cut i e =
      elim (cases_Bool has_space) [
        | inl found ↦
            let f = sym (cond-true has_space (Some (position_or_len is_space line)) None found) ∙ e in
            let at : position_or_len is_space line ≡ i = cc in
            let whole = take_all (length line - (i + 1)) (drop (i + 1) line) (omega (arith, length-drop (i + 1) line)) in
            slice_split_first is_space line 0 (ltb-true _ _ found)
            ∙ ap (λ n. take n line ∷ slice_split is_space (drop (n + 1) line)) at
            ∙ ap (λ rest. take i line ∷ slice_split is_space rest) (sym whole)
        | inr absent ↦ let f = sym (cond-false has_space (Some (position_or_len is_space line)) None absent) ∙ e in cc
      ]

  -- where there is none
  pub words_of-whole : position is_space line ≡ None → words_of line ≡ line ∷ []
  words_of-whole e =
      elim (cases_Bool has_space) [
        | inl found ↦ let f = sym (cond-true has_space (Some (position_or_len is_space line)) None found) ∙ e in cc
        | inr absent ↦
            slice_split_none is_space line (λ k d l. fails_before_first is_space line k d (omega (arith, ltb-false _ _ absent)))
      ]

-- a word and the words of the rest after it
pub words_of-next : (line : List ℕ) {word : List ℕ} {more : Option (Bor (List ℕ))} {rest : Bor (List ℕ)} {words : List (List ℕ)}
    → words_of line ≡ word ∷ words_in (option_copied more) → more ≡ Some rest → words_of rest.now ≡ words → words_of line ≡ word ∷ words
words_of-next line {word = word} first some next = first ∙ ap (λ m. word ∷ words_in (option_copied m)) some ∙ ap (λ ws. word ∷ ws) next
