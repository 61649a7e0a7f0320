-- Which net a bot belongs to.
use Rattle.std.specs.Prelude.{ℕ, Bool, true, List, Option, Some, None}
use Rattle.std.specs.Str.{bytes_eq}

-- a bot that keeps no number of a net may belong to any
abbrev pub may_be_of : List ℕ → Option (List ℕ) → Bool
may_be_of net None = true
may_be_of net (Some other) = bytes_eq other net
