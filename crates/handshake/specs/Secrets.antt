-- The line of a secret, and what the errors of Linux mean for its file.
use Rattle.std.specs.Prelude.{ℕ, List, [], ◌∷◌, ◌++◌, ◌-◌, if◌then◌else◌, ◌==◌, ◌||◌, nat_lt, Option, Some, None, Result, Ok, Err}
use Rattle.std.specs.Prelude.{position, take, drop, length, codes, decimal}
use Rattle.std.specs.Str.{bytes_eq}
use Rattle.hex.specs.Hex.{encode_lower, decode_sized}
use Rattle.hex.specs.declared.error.FromHexError.{FromHexError}
use Rattle.sealing.specs.Hmac.{block_of, hmac_of}
use Rattle.handshake.specs.declared.secret.Secret.{Secret}
use Rattle.handshake.specs.declared.secret.Secret.TheVariants.{Net, Leaf}
use Rattle.handshake.specs.declared.secret.SecretFault.{SecretFault}
use Rattle.handshake.specs.declared.secret.SecretFault.TheVariants.{Unreadable, ProcessFiles, MachineFiles, NoMemory, DiskFails, Length, BadLeafKey}
use Rattle.handshake.specs.Digits.{are_digits}
use Rattle.handshake.specs.Keys.{leaf_key_text}
use Rattle.handshake.specs.Lines.{line_feed}
use Rattle.handshake.specs.Numbers.{leaf_in}
use Rattle.handshake.specs.Reading.{word_of, rest_of}

-- EIO, ENOMEM, ENFILE, EMFILE
abbrev pub secret_causes : List (ℕ × SecretFault)
secret_causes = (5, DiskFails) ∷ (12, NoMemory) ∷ (23, MachineFiles) ∷ (24, ProcessFiles) ∷ []

abbrev pub secret_cause_in : List (ℕ × SecretFault) → ℕ → SecretFault
secret_cause_in [] code = Unreadable
secret_cause_in (row ∷ rows) code = if code == row.0 then row.1 else secret_cause_in rows code

abbrev pub secret_cause : ℕ → SecretFault
secret_cause code = secret_cause_in secret_causes code

-- a line without the CR that ends it, if one does
abbrev pub without_cr : List ℕ → List ℕ
without_cr line = if bytes_eq (drop (length line - 1) line) (13 ∷ []) then take (length line - 1) line else line

-- the bytes before an LF at this place, or all bytes if there is no LF, without the CR that ends them, if one does
abbrev pub line_to : Option ℕ → List ℕ → List ℕ
line_to None bytes = without_cr bytes
line_to (Some end) bytes = without_cr (take end bytes)

-- the first line of these bytes, without the LF, CR LF or CR that ends it
abbrev pub secret_line : List ℕ → List ℕ
secret_line bytes = line_to (position (λ b. b == 10) bytes) bytes

-- ---- leaf-key N KEY: a leaf's key

abbrev pub line_of_digits : ℕ → List ℕ → List ℕ
line_of_digits leaf digits = codes "leaf-key " ++ decimal leaf ++ codes " " ++ digits ++ line_feed

-- the HMAC that the leaf's key is made of, as digits
abbrev pub leaf_file_line : List ℕ → ℕ → List ℕ
leaf_file_line secret leaf = line_of_digits leaf (encode_lower (hmac_of secret (leaf_key_text leaf)))

-- leafN:KEY: the HMAC of a word by the leaf's key, as digits
abbrev pub tunnel_key_line : List ℕ → ℕ → List ℕ
tunnel_key_line key leaf =
    codes "leaf" ++ decimal leaf ++ codes ":" ++ encode_lower (hmac_of key (codes "tunnel")) ++ line_feed

abbrev pub decoded : Result (List ℕ) FromHexError → Option (List ℕ)
decoded (Ok bytes) = Some bytes
decoded (Err error) = None

-- 64 digits as 32 bytes
abbrev pub raw_key_in : List ℕ → Option (List ℕ)
raw_key_in word = if are_digits 64 word then decoded (decode_sized word 32) else None

abbrev pub leaf_secret : Option ℕ → Option (List ℕ) → Result Secret SecretFault
leaf_secret (Some leaf) (Some key) = Ok (Leaf leaf (block_of key))
leaf_secret (Some leaf) None = Err BadLeafKey
leaf_secret None key = Err BadLeafKey

-- the words after the first
abbrev pub leaf_secret_in : List ℕ → Result Secret SecretFault
leaf_secret_in words = leaf_secret (leaf_in (word_of words)) (raw_key_in (rest_of words))

-- ---- every other line is the net's secret

abbrev pub net_secret_in : List ℕ → Result Secret SecretFault
net_secret_in line = if nat_lt (length line) 16 || nat_lt 200 (length line) then Err Length else Ok (Net (block_of line))

abbrev pub secret_in_line : List ℕ → Result Secret SecretFault
secret_in_line line = if bytes_eq (take 9 line) (codes "leaf-key ") then leaf_secret_in (drop 9 line) else net_secret_in line

abbrev pub secret_in : List ℕ → Result Secret SecretFault
secret_in bytes = secret_in_line (secret_line bytes)
