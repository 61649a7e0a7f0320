-- Lines that wait already, and how many wait for one target.
use Rattle.std.specs.Prelude.{◌≡◌, ℕ, ◌+◌, ◌≤◌, ◌==◌, Bool, false, List, [], ◌∷◌, take, drop, bytes_eq}
use Rattle.std.specs.List.{list_any, count_by, position_or_len}
use Rattle.outqueue.specs.declared.limits.TheConstants.{SHARE}
use Rattle.outqueue.specs.Sending.{Sending}

-- whether such a line is among these
abbrev pub stands_in : List (List ℕ) → List ℕ → Bool
stands_in lines line = list_any (bytes_eq line) lines

-- no two of these lines are equal
abbrev pub StandOnce : List (List ℕ) → Type 0
StandOnce [] = Unit {0}
StandOnce (line ∷ lines) = (stands_in lines line ≡ false) × StandOnce lines

abbrev pub is_space : ℕ → Bool
is_space byte = byte == 32

-- where the first space is, or the length if there is none
abbrev pub space_in : List ℕ → ℕ
space_in bytes = position_or_len is_space bytes

-- the target of a line, its command and first parameter: the bytes before the second space, or all if there is none
abbrev pub target_of : List ℕ → List ℕ
target_of line = take (space_in line + 1 + space_in (drop (space_in line + 1) line)) line

-- whether a line has this target
abbrev pub is_for : List ℕ → List ℕ → Bool
is_for target line = bytes_eq (target_of line) target

-- how many lines of the server queue and the help queue wait for a target
abbrev pub waiting_for : Sending → List ℕ → ℕ
waiting_for q target = count_by (is_for target) q.server + count_by (is_for target) q.help

-- no target has more than its share
abbrev pub IsFair : Sending → Type 0
IsFair q = (target : List ℕ) → waiting_for q target ≤ SHARE
