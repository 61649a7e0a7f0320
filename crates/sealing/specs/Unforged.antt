-- What the laws assume of an attacker between the ends.
use Rattle.std.specs.Prelude.{◌≡◌, ◌<◌, ℕ, List, ◌++◌, slice_get, Some}
use Rattle.sealing.specs.Records.{IsBody, sealed}
use Rattle.sealing.specs.Streams.{max_records}

-- Nobody forged a record: if the bytes that were given hold anywhere the record of some count and body, with the right
-- tag under this key, then the key's holder sealed that body at that count.
abbrev pub IsUnforged : List ℕ → List (List ℕ) → List ℕ → Type 0
IsUnforged key made given =
    (front back : List ℕ) (count : ℕ) (body : List ℕ) → count < max_records → IsBody body
    → given ≡ front ++ (sealed key count body ++ back) → slice_get made count ≡ Some body
