-- The book of a hub's leaves.
use Rattle.std.specs.Prelude.{ℕ, ◌-◌, ◌==◌, Bool, not, List, length, take}
use Rattle.std.specs.List.{suffix_len}

-- whether a byte ends no line
abbrev pub is_inner : ℕ → Bool
is_inner byte = not (byte == 10)

-- how many bytes stand after the last line feed: what is left of a line that was not written whole
abbrev pub torn_len : List ℕ → ℕ
torn_len text = suffix_len is_inner text

-- what stands up to the last line feed
abbrev pub whole_lines : List ℕ → List ℕ
whole_lines text = take (length text - torn_len text) text
