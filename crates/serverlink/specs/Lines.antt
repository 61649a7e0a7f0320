-- Which lines may go to a server, and when a journal is rewritten.
use Rattle.std.specs.Prelude.{ℕ, ◌-◌, ◌==◌, ◌||◌, not, nat_le, nat_lt, Bool, List, length}
use Rattle.std.specs.List.{list_any}
use Rattle.serverlink.specs.declared.line.TheConstants.{MAX_LINE, A_BASE}

-- NUL, LF and CR
abbrev pub is_break : ℕ → Bool
is_break b = b == 0 || b == 10 || b == 13

-- neither empty nor too long, and without a break
abbrev pub is_line : List ℕ → Bool
is_line bytes = not (length bytes == 0 || nat_lt MAX_LINE (length bytes) || list_any is_break bytes)

abbrev pub is_base_due : ℕ → ℕ → Bool
is_base_due base version = nat_le A_BASE (version - base)
