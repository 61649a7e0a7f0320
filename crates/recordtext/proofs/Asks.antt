-- An edit that is asked for, word by word.
use Rattle.std.proofs.Common.{◌≡◌, ◌≢◌, ◌==◌, ℕ, ◌≤◌, List, [], ◌∷◌, length, Option, None, Some, option_map, refl, ap, ◌∙◌, sym, arith}
use Rattle.std.proofs.lemmas.List.Splits.{join_with_byte-slice_split, length-slice_split}
use Rattle.userfile.specs.declared.edit.Edit.{Edit}
use Rattle.userfile.specs.Changes.{by_nobody}
use Rattle.recordtext.specs.Edits.{edit_named, edit_by_words, edit_of}
use Rattle.recordtext.specs.Words.{words_of, line_of}

-- after four words an edit takes the rest of the line
module _ (name a b c d rest : List ℕ) where
  edit_named-line : (words : List (List ℕ)) → line_of words ≡ rest → 1 ≤ length words
      → edit_named name (a ∷ b ∷ c ∷ d ∷ rest ∷ []) ≡ edit_named name (a ∷ b ∷ c ∷ d ∷ words)
  edit_named-line [] is some = absurd (omega (arith, some))
  edit_named-line (word ∷ words) is some = ap (λ line. edit_named name (a ∷ b ∷ c ∷ d ∷ line ∷ [])) (sym is)

  pub edit_of-rest : (line : List ℕ) → words_of line ≡ name ∷ a ∷ b ∷ c ∷ d ∷ words_of rest
      → edit_named name (a ∷ b ∷ c ∷ d ∷ rest ∷ []) ≡ edit_of line
  edit_of-rest line is =
      edit_named-line (words_of rest) (join_with_byte-slice_split 32 rest) (omega (arith, length-slice_split (λ b. b == 32) rest))
      ∙ ap edit_by_words (sym is)

-- an edit in nobody's name is a change
pub some_by_nobody : (edit : Option Edit) → edit ≢ None → option_map by_nobody edit ≢ None
some_by_nobody None some = absurd (some refl)
some_by_nobody (Some edit) some = λ is. cc
