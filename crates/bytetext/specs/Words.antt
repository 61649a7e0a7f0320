-- The first word of a text, and what follows it.
use Rattle.std.specs.Prelude.{ℕ, not, ◌==◌, List, take, drop}
use Rattle.std.specs.List.{position_or_len}

-- a text without the spaces that it begins with
abbrev pub spaces_len : List ℕ → ℕ
spaces_len text = position_or_len (λ b. not (b == 32)) text

abbrev pub trimmed : List ℕ → List ℕ
trimmed text = drop (spaces_len text) text

-- the first word of a text ends before its first space
abbrev pub word_len : List ℕ → ℕ
word_len text = position_or_len (λ b. b == 32) text

abbrev pub first_word : List ℕ → List ℕ
first_word text = take (word_len text) text

-- what follows the first word and the spaces after it
abbrev pub after_word : List ℕ → List ℕ
after_word text = trimmed (drop (word_len text) text)
