-- Hi(str, salt, i) of RFC 5802 section 2.2: PBKDF2 (RFC 8018 section 5.2) with HMAC, for one block of the hash's length.
--
--     U1   := HMAC(str, salt + INT(1))
--     Un   := HMAC(str, Un-1)
--     Hi   := U1 XOR U2 XOR ... XOR Ui
use Rattle.std.specs.Prelude.{ℕ, zero, suc, ◌-◌, List, [], ◌∷◌, ◌++◌}
use Rattle.registration.specs.declared.mac_key.MacKey.{MacKey}
use Rattle.registration.specs.declared.scram_hash.ScramHash.{ScramHash}
use Rattle.registration.specs.Macs.{combined, key_of, mac_of}

-- INT(1): four octets, most significant octet first
abbrev pub int_one : List ℕ
int_one = 0 ∷ 0 ∷ 0 ∷ 1 ∷ []

-- U so many steps after this one
unfoldable pub u_after : MacKey → List ℕ → ℕ → List ℕ
u_after key u zero = u
u_after key u (suc n) = mac_of key (u_after key u n)

-- a sum, combined with the U of so many steps after this one
unfoldable pub sum_after : MacKey → List ℕ → List ℕ → ℕ → List ℕ
sum_after key sum u zero = sum
sum_after key sum u (suc n) = combined (sum_after key sum u n) (u_after key u (suc n))

-- U1
abbrev pub first_u : MacKey → List ℕ → List ℕ
first_u key salt = mac_of key (salt ++ int_one)

-- Hi(str, salt, i), for i from 1 on
abbrev pub hi : ScramHash → List ℕ → List ℕ → ℕ → List ℕ
hi hash str salt i = let key = key_of hash str in sum_after key (first_u key salt) (first_u key salt) (i - 1)

-- a derivation that has done some of its iterations: its key, U1, how many iterations there are, and how many are done
pub record Derivation : Type 0 where
  pub key : MacKey
  pub first : List ℕ
  pub iterations : ℕ
  pub done : ℕ

-- a derivation of Hi(str, salt, i) that has done its first iteration
abbrev pub begun : ScramHash → List ℕ → List ℕ → ℕ → Derivation
begun hash str salt i = record { key = key_of hash str; first = first_u (key_of hash str) salt; iterations = i; done = 1 }

-- the sum of what is done: Hi(str, salt, i) once all is
abbrev pub sum_of : Derivation → List ℕ
sum_of d = sum_after d.key d.first d.first (d.done - 1)
