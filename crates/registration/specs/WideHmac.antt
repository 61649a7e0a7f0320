-- HMAC (RFC 2104) with SHA-512 (FIPS 180-4): H is `sha512`, a block of it has B = 128 bytes. Steps are those of section
-- 2.
use Rattle.std.specs.Prelude.{ℕ, ◌-◌, List, ◌++◌, length, replicate, nat_lt, if◌then◌else◌}
use Rattle.sha2.specs.Sha512.{sha512}
use Rattle.sealing.specs.Hmac.{xored}

-- a key that is longer than B bytes is hashed first, and the digest is the key
abbrev pub wide_shortened : List ℕ → List ℕ
wide_shortened key = if nat_lt 128 (length key) then sha512 key else key

-- zeros are appended to the end of K, to create a string of B bytes (1)
abbrev pub wide_padded : List ℕ → List ℕ
wide_padded key = key ++ replicate (128 - length key) 0

abbrev pub wide_block_of : List ℕ → List ℕ
wide_block_of key = wide_padded (wide_shortened key)

-- H (K xor opad, H (K xor ipad, text)), where ipad is the byte 0x36 and opad the byte 0x5C (3, 4, 6, 7)
unfoldable pub wide_hmac_of : List ℕ → List ℕ → List ℕ
wide_hmac_of block text = sha512 (xored 0x5c block ++ sha512 (xored 0x36 block ++ text))
