-- The sums that the texts of a journal carry. Each text ends with one, and each sum is also one of the sum before it: so
-- a text that was changed, lost, repeated or moved shows.
use Rattle.std.specs.Prelude.{◌≡◌, ℕ, ◌+◌, ◌-◌, ◌*◌, ◌%◌, ◌^◌, List, [], ◌∷◌, ◌++◌, length, take, drop, nat_le, Option, Some, None, if◌then◌else◌}
use Rattle.std.specs.Int.{w64, to_be_bytes}
use Rattle.std.specs.Str.{bytes_eq}
use Rattle.sha2.specs.Sha256.{sha256}
use Rattle.botjournal.specs.declared.sums.Seal.{Seal}

-- before a base: its layout and generation stand where the sum before it would
abbrev pub start : ℕ → ℕ → Seal
start layout generation = record { sum = to_be_bytes w64 (layout * 2 ^ 32 + generation); place = 0 }

-- the sum of a text: the first eight bytes of the SHA-256 of the sum before it, its place, its length and its bytes
unfoldable pub sum_after : Seal → List ℕ → List ℕ
sum_after before bytes = take 8 (sha256 (before.sum ++ (to_be_bytes w64 before.place ++ (to_be_bytes w64 (length bytes) ++ bytes))))

-- a text with its sum
abbrev pub sealed : Seal → List ℕ → List ℕ
sealed before bytes = bytes ++ sum_after before bytes

-- the seal after a text
abbrev pub after : Seal → List ℕ → Seal
after before bytes = record { sum = sum_after before bytes; place = (before.place + 1) % 2 ^ 64 }

-- a text without its sum
abbrev pub body_of : List ℕ → List ℕ
body_of text = take (length text - 8) text

abbrev pub step_if : Seal → List ℕ → List ℕ → Option Seal
step_if before body sum = if bytes_eq sum (sum_after before body) then Some (after before body) else None

-- the seal after a text that ends with its sum
abbrev pub step : Seal → List ℕ → Option Seal
step before text = if nat_le 8 (length text) then step_if before (body_of text) (drop (length text - 8) text) else None

abbrev pub and_then : Option Seal → (Seal → Option Seal) → Option Seal
and_then None more = None
and_then (Some seal) more = more seal

-- the seal after these texts, if each of them ends with its sum
abbrev pub through : Seal → List (List ℕ) → Option Seal
through before [] = Some before
through before (text ∷ texts) = and_then (step before text) (λ seal. through seal texts)

-- each of these texts ends with its sum, which stands on the one before it
abbrev pub AreCarried : Seal → List (List ℕ) → Type 0
AreCarried before [] = Unit {0}
AreCarried before (text ∷ texts) = (text ≡ sealed before (body_of text)) × AreCarried (after before (body_of text)) texts
