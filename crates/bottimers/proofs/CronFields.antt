-- The items of a field and the fields of a mask, taken off one by one.
use Rattle.std.proofs.Common.{ℕ, suc, Bool, true, false, List, length, Option, Some, None}
use Rattle.std.specs.Borrow.{Bor}
use Rattle.std.specs.Option.{option_copied}
use Rattle.bottimers.specs.CronText.{is_field, in_field}

-- the same of a rest, which may be none
abbrev pub is_rest : ℕ → ℕ → Option (List ℕ) → Bool
is_rest low high None = true
is_rest low high (Some rest) = is_field low high rest

abbrev pub in_rest : ℕ → ℕ → Option (List ℕ) → ℕ → Bool
in_rest low high None n = false
in_rest low high (Some rest) n = in_field low high rest n

abbrev pub rest_of : Option (Bor (List ℕ)) → Option (List ℕ)
rest_of o = option_copied o

abbrev pub rest_length : Option (List ℕ) → ℕ
rest_length None = 0
rest_length (Some rest) = suc (length rest)
