-- The last lines of a log.
use Rattle.std.specs.Prelude.{ℕ, ◌+◌, if◌then◌else◌, nat_le, List, [], ◌++◌, length}
use Rattle.net.specs.declared.log_tail.TheConstants.{MAX_LOG_TAIL}

pub record Tail : Type 0 where
  pub most : ℕ  -- the most bytes of each part; 0 if no line is kept
  pub earlier : List ℕ  -- the lines before the latest
  pub latest : List ℕ

-- a tail that keeps no line
abbrev pub no_tail : Tail
no_tail = record { most = 0; earlier = []; latest = [] }

-- a tail of no line yet
abbrev pub empty_tail : Tail
empty_tail = record { most = MAX_LOG_TAIL; earlier = []; latest = [] }

-- The lines are the latest. If they don't fit into the latest part, it becomes the earlier one, and they begin a new one.
abbrev pub tail_after : List ℕ → Tail → Tail
tail_after lines tail =
    if nat_le (length lines) tail.most then
    (if nat_le (length tail.latest + length lines) tail.most then record tail { latest = tail.latest ++ lines }
    else record tail { earlier = tail.latest; latest = lines })
    else tail
