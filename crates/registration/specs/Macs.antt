-- The hash function H() of a SCRAM mechanism, and HMAC() with it (RFC 5802 section 2.2, RFC 7677).
use Rattle.std.specs.Prelude.{ℕ, List, [], ◌∷◌, bit_xor}
use Rattle.sha2.specs.Sha256.{sha256}
use Rattle.sha2.specs.Sha512.{sha512}
use Rattle.sealing.specs.Hmac.{block_of, hmac_of}
use Rattle.registration.specs.declared.scram_hash.ScramHash.{ScramHash}
use Rattle.registration.specs.declared.scram_hash.ScramHash.TheVariants.{Sha256, Sha512}
use Rattle.registration.specs.declared.mac_key.MacKey.{MacKey}
use Rattle.registration.specs.declared.mac_key.MacKey.TheVariants as key
use Rattle.registration.specs.WideHmac.{wide_block_of, wide_hmac_of}

-- H(text)
abbrev pub hash_of : ScramHash → List ℕ → List ℕ
hash_of Sha256 text = sha256 text
hash_of Sha512 text = sha512 text

-- the number of bytes of H
abbrev pub hash_len : ScramHash → ℕ
hash_len Sha256 = 32
hash_len Sha512 = 64

-- a key, which is the block that RFC 2104 makes of a secret
abbrev pub key_of : ScramHash → List ℕ → MacKey
key_of Sha256 secret = key.Sha256 (block_of secret)
key_of Sha512 secret = key.Sha512 (wide_block_of secret)

-- HMAC(key, text)
abbrev pub mac_of : MacKey → List ℕ → List ℕ
mac_of (key.Sha256 block) text = hmac_of block text
mac_of (key.Sha512 block) text = wide_hmac_of block text

abbrev pub mac_len : MacKey → ℕ
mac_len (key.Sha256 block) = 32
mac_len (key.Sha512 block) = 64

abbrev pub hmac : ScramHash → List ℕ → List ℕ → List ℕ
hmac hash secret text = mac_of (key_of hash secret) text

-- the exclusive or of two strings, octet by octet, as far as the shorter one goes
abbrev pub combined : List ℕ → List ℕ → List ℕ
combined [] ys = []
combined (x ∷ xs) [] = []
combined (x ∷ xs) (y ∷ ys) = bit_xor x y ∷ combined xs ys
